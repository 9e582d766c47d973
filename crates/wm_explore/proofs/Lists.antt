-- Logs that are extended.
use Rattle.std.proofs.Common.{◌≡◌, ℕ, zero, suc, ◌+◌, ◌<◌, List, [], ◌∷◌, ◌++◌, length, take, Some, inl, inr, refl, sym, ap, ◌∙◌, arith}
use Rattle.std.specs.Prelude.{◌≢◌, ◌⊎◌, slice_get, slice_set}
use Rattle.std.proofs.lemmas.Option.{none-some, same_Some}
use Rattle.wm_event.specs.declared.event.Event.{Event}
use Rattle.wm_event.specs.declared.log.ThreadLog.{ThreadLog}
use Rattle.wm_explore.specs.Executions.{starts_of}
use Rattle.wm_explore.specs.States.{extended, with_last}

-- ---- the threads

-- thread k, with its event
pub extended_at : (k : ℕ) (e : Event) (log : List ThreadLog) (t : ThreadLog) → slice_get log k ≡ Some t → slice_get (extended k e log) k ≡ Some (with_last t e)
extended_at k e [] t is = absurd (none-some t is)
extended_at zero e (u ∷ us) t is = ap (λ x. Some (with_last x e)) (same_Some u t is)
extended_at (suc k) e (u ∷ us) t is = extended_at k e us t is

-- the others
pub extended_other : (k : ℕ) (e : Event) (log : List ThreadLog) (i : ℕ) → i ≢ k → slice_get (extended k e log) i ≡ slice_get log i
extended_other k e [] i not = refl
extended_other zero e (u ∷ us) zero not = absurd (not refl)
extended_other zero e (u ∷ us) (suc i) not = refl
extended_other (suc k) e (u ∷ us) zero not = refl
extended_other (suc k) e (u ∷ us) (suc i) not = extended_other k e us i (λ same. not (ap suc same))

pub extended_length : (k : ℕ) (e : Event) (log : List ThreadLog) → length (extended k e log) ≡ length log
extended_length k e [] = refl
extended_length zero e (u ∷ us) = refl
extended_length (suc k) e (u ∷ us) = ap suc (extended_length k e us)

pub extended_starts : (k : ℕ) (e : Event) (log : List ThreadLog) → starts_of (extended k e log) ≡ starts_of log
extended_starts k e [] = refl
extended_starts zero e (u ∷ us) = refl
extended_starts (suc k) e (u ∷ us) = ap (λ ss. u.start ∷ ss) (extended_starts k e us)

-- ---- one item more

take_suc : {X : Type 0} (xs : List X) (n : ℕ) (x : X) → slice_get xs n ≡ Some x → take (suc n) xs ≡ take n xs ++ x ∷ []
take_suc [] n x is = absurd (none-some x is)
take_suc (y ∷ xs) zero x is = ap (λ z. z ∷ []) (same_Some y x is)
take_suc (y ∷ xs) (suc n) x is = ap (λ zs. y ∷ zs) (take_suc xs n x is)

-- the first n + 1 items
pub take_next : {X : Type 0} (xs : List X) (n : ℕ) (x : X) → slice_get xs n ≡ Some x → take (n + 1) xs ≡ take n xs ++ x ∷ []
take_next xs n x is = let next : n + 1 ≡ suc n = omega arith in ap (λ i. take i xs) next ∙ take_suc xs n x is

-- an item of a list with one more
pub at_pushed : {X : Type 0} (xs : List X) (y : X) (i : ℕ) (x : X) → slice_get (xs ++ y ∷ []) i ≡ Some x → ((i ≡ length xs) × (x ≡ y)) ⊎ (slice_get xs i ≡ Some x)
at_pushed [] y zero x is = inl (refl, sym (same_Some y x is))
at_pushed [] y (suc i) x is = absurd (none-some x is)
at_pushed (z ∷ xs) y zero x is = inr is
at_pushed (z ∷ xs) y (suc i) x is = further (at_pushed xs y i x is)
  where
    further : ((i ≡ length xs) × (x ≡ y)) ⊎ (slice_get xs i ≡ Some x) → ((suc i ≡ suc (length xs)) × (x ≡ y)) ⊎ (slice_get xs i ≡ Some x)
    further (inl h) = inl (ap suc h.0, h.1)
    further (inr h) = inr h

-- the items that were there
pub kept_pushed : {X : Type 0} (xs : List X) (y : X) (i : ℕ) (x : X) → slice_get xs i ≡ Some x → slice_get (xs ++ y ∷ []) i ≡ Some x
kept_pushed [] y i x is = absurd (none-some x is)
kept_pushed (z ∷ xs) y zero x is = is
kept_pushed (z ∷ xs) y (suc i) x is = kept_pushed xs y i x is

-- the new one
pub last_pushed : {X : Type 0} (xs : List X) (y : X) → slice_get (xs ++ y ∷ []) (length xs) ≡ Some y
last_pushed [] y = refl
last_pushed (z ∷ xs) y = last_pushed xs y

-- ---- one item replaced

-- an item of a list in which one was replaced
pub at_set : {X : Type 0} (xs : List X) (n : ℕ) (y : X) (i : ℕ) (x : X) → slice_get (slice_set xs n y) i ≡ Some x → ((i ≡ n) × (x ≡ y)) ⊎ (slice_get xs i ≡ Some x)
at_set [] n y i x is = inr is
at_set (z ∷ xs) zero y zero x is = inl (refl, sym (same_Some y x is))
at_set (z ∷ xs) zero y (suc i) x is = inr is
at_set (z ∷ xs) (suc n) y zero x is = inr is
at_set (z ∷ xs) (suc n) y (suc i) x is = further (at_set xs n y i x is)
  where
    further : ((i ≡ n) × (x ≡ y)) ⊎ (slice_get xs i ≡ Some x) → ((suc i ≡ suc n) × (x ≡ y)) ⊎ (slice_get xs i ≡ Some x)
    further (inl h) = inl (ap suc h.0, h.1)
    further (inr h) = inr h

-- the item that was put there
pub set_here : {X : Type 0} (xs : List X) (n : ℕ) (y : X) → n < length xs → slice_get (slice_set xs n y) n ≡ Some y
set_here [] n y lt = absurd (omega (arith, lt))
set_here (z ∷ xs) zero y lt = refl
set_here (z ∷ xs) (suc n) y lt = set_here xs n y (omega (arith, lt))

-- the others
pub set_other : {X : Type 0} (xs : List X) (n : ℕ) (y : X) (i : ℕ) → i ≢ n → slice_get (slice_set xs n y) i ≡ slice_get xs i
set_other [] n y i not = refl
set_other (z ∷ xs) zero y zero not = absurd (not refl)
set_other (z ∷ xs) zero y (suc i) not = refl
set_other (z ∷ xs) (suc n) y zero not = refl
set_other (z ∷ xs) (suc n) y (suc i) not = set_other xs n y i (λ same. not (ap suc same))

pub length_set : {X : Type 0} (xs : List X) (n : ℕ) (y : X) → length (slice_set xs n y) ≡ length xs
length_set [] n y = refl
length_set (z ∷ xs) zero y = refl
length_set (z ∷ xs) (suc n) y = ap suc (length_set xs n y)
