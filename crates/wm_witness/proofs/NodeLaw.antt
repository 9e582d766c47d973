-- What is known at a node after more is added.
use Rattle.std.proofs.Common.{◌≡◌, List, [], ◌∷◌, ◌++◌, sym, subst}
use Rattle.std.specs.Prelude.{All}
use Rattle.std.proofs.lemmas.List.Elements.{All-append, All-cons, All-nil}

pub all-pushed : {X : Type 0} (P : X → Type 0) (xs ys : List X) (x : X) → ys ≡ xs ++ x ∷ [] → All P xs → P x → All P ys
all-pushed P xs ys x is all here = subst (All P) (sym is) (All-append P xs (x ∷ []) all (All-cons P x [] here (All-nil P)))

pub all-none-is : {X : Type 0} (P : X → Type 0) (xs : List X) → xs ≡ [] → All P xs
all-none-is P xs is = subst (All P) (sym is) (All-nil P)
