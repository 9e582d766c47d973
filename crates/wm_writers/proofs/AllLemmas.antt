-- What holds of all of a list holds of its parts.
use Rattle.std.proofs.Common.{suc, List, [], ◌∷◌, ◌++◌, arith}
use Rattle.std.specs.Prelude.{All}
use Rattle.std.proofs.lemmas.List.Elements.{All-cons}

module _ {X : Type 0} (P : X → Type 0) where
  pub all-none : All P []
  all-none k d l = absurd (omega arith)

  pub all-head : (x : X) (xs : List X) → All P (x ∷ xs) → P x
  all-head x xs h = h 0 x (omega arith)

  pub all-tail : (x : X) (xs : List X) → All P (x ∷ xs) → All P xs
  all-tail x xs h k d l = h (suc k) d (omega arith)

  pub all-first : (xs ys : List X) → All P (xs ++ ys) → All P xs
  all-first [] ys h = all-none
  all-first (x ∷ xs) ys h = All-cons P x xs (all-head x (xs ++ ys) h) (all-first xs ys (all-tail x (xs ++ ys) h))

  pub all-second : (xs ys : List X) → All P (xs ++ ys) → All P ys
  all-second [] ys h = h
  all-second (x ∷ xs) ys h = all-second xs ys (all-tail x (xs ++ ys) h)
