-- The cells of a list of numbers after one is written.
use Rattle.std.proofs.Common.{◌≡◌, ◌⊎◌, ℕ, ◌<◌, zero, suc, List, [], ◌∷◌, get_or, set, refl, ap, inl, inr, ⊎_elim}

pub raised : (xs : List ℕ) (i v s m : ℕ) → m < get_or (set xs i v) s 0 → (m < get_or xs s 0) ⊎ ((s ≡ i) × (m < v))
raised [] i v s m h = inl h
raised (x ∷ xs) zero v zero m h = inr (refl, h)
raised (x ∷ xs) zero v (suc s) m h = inl h
raised (x ∷ xs) (suc i) v zero m h = inl h
raised (x ∷ xs) (suc i) v (suc s) m h = ⊎_elim
    (λ (l : m < get_or xs s 0). inl l)
    (λ (r : (s ≡ i) × (m < v)). inr (ap suc r.0, r.1))
    (raised xs i v s m h)
