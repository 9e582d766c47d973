-- What a list shows after one more item.
use Rattle.std.proofs.Common.{◌≡◌, ℕ, List, [], ◌∷◌, ◌++◌, ◌+◌, length, Option, None, Some, refl, ap, arith, slice_get}
use Rattle.std.proofs.lemmas.List.{length-append}
use Rattle.wm_event.proofs.WritesLemmas.{each_more}

pub length_pushed : {X : Type 0} (xs ys : List X) (x : X) (n : ℕ) → length xs ≡ n → ys ≡ xs ++ x ∷ [] → length ys ≡ n + 1
length_pushed xs ys x n size e = let grown = length-append xs (x ∷ []) in omega (arith, ap length e, grown)

pub nones_pushed : {X : Type 0} (xs ys : List (Option X)) → ((k : ℕ) (o : Option X) → slice_get xs k ≡ Some o → o ≡ None) → ys ≡ xs ++ None ∷ []
    → (k : ℕ) (o : Option X) → slice_get ys k ≡ Some o → o ≡ None
nones_pushed xs ys none e = rw e (each_more (λ _ o. o ≡ None) xs None none refl)
