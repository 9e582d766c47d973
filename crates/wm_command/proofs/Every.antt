-- The values of a list's items, as the list grows, and where one has none.
use Rattle.std.proofs.Common.{◌≡◌, ℕ, zero, suc, ◌+◌, ◌<◌, List, [], ◌∷◌, ◌++◌, length, get_or, take, Option, None, Some, refl, sym, ap, ◌∙◌, arith}
use Rattle.std.proofs.lemmas.List.{take_more}
use Rattle.std.proofs.lemmas.Option.{none-some, same_Some}
use Rattle.wm_command.specs.Each.{before, each}

before_none : {A : Type 0} (o : Option A) → before o None ≡ None
before_none None = refl
before_none (Some x) = refl

-- what `before` is made of
before_some : {A : Type 0} (o : Option A) (os : Option (List A)) (all : List A) → before o os ≡ Some all → (x : A) × (xs : List A) × (o ≡ Some x) × (os ≡ Some xs) × (all ≡ x ∷ xs)
before_some None os all h = absurd (none-some all h)
before_some (Some x) None all h = absurd (none-some all h)
before_some (Some x) (Some xs) all h = (x, xs, refl, refl, sym (same_Some (x ∷ xs) all h))

pub each_more : {A B : Type 0} (value : A → Option B) (xs : List A) (all : List B) (x : A) (v : B) → each value xs ≡ Some all → value x ≡ Some v → each value (xs ++ x ∷ []) ≡ Some (all ++ v ∷ [])
each_more value [] all x v h is = rw (is, ← (same_Some [] all h)) refl
each_more value (y ∷ ys) all x v h is =
    let parts = before_some (value y) (each value ys) all h in
    ap (before (value y)) (each_more value ys parts.1 x v parts.3 is)
    ∙ ap (λ o. before o (Some (parts.1 ++ v ∷ []))) parts.2
    ∙ ap (λ l. Some (l ++ v ∷ [])) (sym parts.4)

-- where one item has no value
pub each_none : {A B : Type 0} (value : A → Option B) (xs : List A) (i : ℕ) (x : A) → i < length xs → x ≡ get_or xs i x → value x ≡ None → each value xs ≡ None
each_none value [] i x inside at none = absurd (omega arith)
each_none value (y ∷ ys) zero x inside at none = let is : value y ≡ None = ap value (sym at) ∙ none in rw is refl
each_none value (y ∷ ys) (suc i) x inside at none = rw (each_none value ys i x (omega arith) at none) (before_none (value y))

-- the same for the items up to one, and after it
pub each_next : {A B : Type 0} (value : A → Option B) (xs : List A) (i : ℕ) (all : List B) (x : A) (v : B) → i < length xs → x ≡ get_or xs i x
    → each value (take i xs) ≡ Some all → value x ≡ Some v → each value (take (i + 1) xs) ≡ Some (all ++ v ∷ [])
each_next value xs i all x v inside at h is =
    ap (each value) (take_more xs i x inside ∙ ap (λ y. take i xs ++ y ∷ []) (sym at)) ∙ each_more value (take i xs) all x v h is
