-- What passes a test, of a list.
use Rattle.std.proofs.Common.{◌≡◌, ℕ, zero, suc, ◌<◌, List, [], ◌∷◌, Bool, true, false, slice_get, Some, refl, sym, ap, ◌∙◌, arith, if◌then◌else◌}
use Rattle.std.specs.List.{filter}
use Rattle.std.proofs.lemmas.Option.{same_Some}

-- what passes is listed
pub from_filter : {X : Type 0} (p : X → Bool) (xs : List X) (j : ℕ) (x : X) → slice_get (filter p xs) j ≡ Some x → (i : ℕ) × (slice_get xs i ≡ Some x)
from_filter p [] j x at = absurd (cc)
from_filter {X} p (y ∷ ys) j x at = one (p y) j at (λ j at. from_filter p ys j x at)
  where
    one : (b : Bool) (j : ℕ) → slice_get (if b then y ∷ filter p ys else filter p ys) j ≡ Some x → ((j : ℕ) → slice_get (filter p ys) j ≡ Some x → (i : ℕ) × (slice_get ys i ≡ Some x))
        → (i : ℕ) × (slice_get (y ∷ ys) i ≡ Some x)
    one true zero at h = (0, at)
    one true (suc j) at h = let r = h j at in (suc r.0, r.1)
    one false j at h = let r = h j at in (suc r.0, r.1)

-- what passes a test passes it
pub passes : {X : Type 0} (p : X → Bool) (xs : List X) (j : ℕ) (x : X) → slice_get (filter p xs) j ≡ Some x → p x ≡ true
passes p [] j x at = absurd (cc)
passes {X} p (y ∷ ys) j x at = one (p y) refl j at (λ j at. passes p ys j x at)
  where
    one : (b : Bool) → p y ≡ b → (j : ℕ) → slice_get (if b then y ∷ filter p ys else filter p ys) j ≡ Some x → ((j : ℕ) → slice_get (filter p ys) j ≡ Some x → p x ≡ true) → p x ≡ true
    one true is zero at h = ap p (sym (same_Some y x at)) ∙ is
    one true is (suc j) at h = h j at
    one false is j at h = h j at

-- what holds of each two items, in order, holds of each two that pass a test
pub pairs_kept : {X : Type 0} (R : X → X → Type 0) (p : X → Bool) (xs : List X) → ((i j : ℕ) (a b : X) → i < j → slice_get xs i ≡ Some a → slice_get xs j ≡ Some b → R a b)
    → (i j : ℕ) (a b : X) → i < j → slice_get (filter p xs) i ≡ Some a → slice_get (filter p xs) j ≡ Some b → R a b
pairs_kept R p [] all i j a b l at_a at_b = absurd (cc)
pairs_kept {X} R p (y ∷ ys) all i j a b l at_a at_b = one (p y) i j l at_a at_b (pairs_kept R p ys (λ i j a b l at_a at_b. all (suc i) (suc j) a b (omega arith) at_a at_b))
  where
    one : (t : Bool) (i j : ℕ) → i < j → slice_get (if t then y ∷ filter p ys else filter p ys) i ≡ Some a → slice_get (if t then y ∷ filter p ys else filter p ys) j ≡ Some b
        → ((i j : ℕ) (a b : X) → i < j → slice_get (filter p ys) i ≡ Some a → slice_get (filter p ys) j ≡ Some b → R a b) → R a b
    one true i zero l at_a at_b h = absurd (omega arith)
    one true zero (suc j) l at_a at_b h = let k = from_filter p ys j b at_b in all 0 (suc k.0) a b (omega arith) at_a k.1
    one true (suc i) (suc j) l at_a at_b h = h i j a b (omega arith) at_a at_b
    one false i j l at_a at_b h = h i j a b l at_a at_b
