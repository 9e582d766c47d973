-- What a list shows after one more item.
use Rattle.std.proofs.Common.{◌≡◌, ℕ, List, [], ◌∷◌, ◌++◌, ◌+◌, ◌<◌, length, ap, ◌∙◌, arith, below_more, Some, slice_get}
use Rattle.std.proofs.lemmas.List.{length-append}
use Rattle.wm_event.proofs.WritesLemmas.{each_more}
use Rattle.wm_memory.proofs.Listed.{get-end, get-front}

pub length_pushed : {X : Type 0} (xs ys : List X) (x : X) (n : ℕ) → length xs ≡ n → ys ≡ xs ++ x ∷ [] → length ys ≡ n + 1
length_pushed xs ys x n size e = let grown = length-append xs (x ∷ []) in omega (arith, ap length e, grown)

pub empties_pushed : {X : Type 0} (xs ys : List (List X)) (x : List X) → ((k : ℕ) (c : List X) → slice_get xs k ≡ Some c → c ≡ []) → x ≡ [] → ys ≡ xs ++ x ∷ []
    → (k : ℕ) (c : List X) → slice_get ys k ≡ Some c → c ≡ []
empties_pushed xs ys x none empty e = rw e (each_more (λ _ c. c ≡ []) xs x none empty)

-- an item shown at each place, and one more
each_one : {X : Type 0} (f : ℕ → X) (xs : List X) → ((k : ℕ) → k < length xs → slice_get xs k ≡ Some (f k)) → (k : ℕ) → k < length xs + 1 → slice_get (xs ++ f (length xs) ∷ []) k ≡ Some (f k)
each_one f xs each = below_more _ _ (λ k h. get-front xs (f (length xs)) k (omega arith) ∙ each k h) (get-end xs (f (length xs)))

pub each_pushed : {X : Type 0} (f : ℕ → X) (xs ys : List X) (x : X) (n : ℕ) → length xs ≡ n → ((k : ℕ) → k < n → slice_get xs k ≡ Some (f k)) → x ≡ f n → ys ≡ xs ++ x ∷ []
    → (k : ℕ) → k < n + 1 → slice_get ys k ≡ Some (f k)
each_pushed f xs ys x n size each here e = rw (e, here, ← size) (each_one f xs (rw (← size) at each))
