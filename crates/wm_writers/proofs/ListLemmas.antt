-- Lists of which one item more is taken.
use Rattle.std.proofs.Common.{◌≡◌, ℕ, ◌+◌, ◌<◌, zero, suc, List, [], ◌∷◌, ◌++◌, Bool, true, false, Some, length, get_or, slice_get, take, refl, sym, ap, ◌∙◌, subst, arith, if◌then◌else◌}
use Rattle.std.specs.List.{filter}
use Rattle.std.specs.Prelude.{All, flat_map}
use Rattle.std.proofs.lemmas.Grind.{common_steps, flat_map-append}
use Rattle.std.proofs.lemmas.List.{append-nil}
use Rattle.std.proofs.lemmas.List.Elements.{All-append, All-cons, filter-append}
use Rattle.wm_writers.proofs.AllLemmas.{all-none}

pub take-more : {X : Type 0} (xs : List X) (n : ℕ) (d : X) → n < length xs → take (n + 1) xs ≡ take n xs ++ get_or xs n d ∷ []
take-more xs n d l = grind (arith, common_steps)

-- those that pass a test
pub filter-more : {X : Type 0} (p : X → Bool) (xs : List X) (n : ℕ) (d : X) → n < length xs
    → filter p (take (n + 1) xs) ≡ filter p (take n xs) ++ (if p (get_or xs n d) then get_or xs n d ∷ [] else [])
filter-more p xs n d l = ap (filter p) (take-more xs n d l) ∙ filter-append p (take n xs) (get_or xs n d ∷ [])

pub filter-passes : {X : Type 0} (p : X → Bool) (xs : List X) (n : ℕ) (d : X) → n < length xs → p (get_or xs n d) ≡ true
    → filter p (take (n + 1) xs) ≡ filter p (take n xs) ++ get_or xs n d ∷ []
filter-passes p xs n d l is = filter-more p xs n d l ∙ ap (λ b. filter p (take n xs) ++ (if b then get_or xs n d ∷ [] else [])) is

pub filter-fails : {X : Type 0} (p : X → Bool) (xs : List X) (n : ℕ) (d : X) → n < length xs → p (get_or xs n d) ≡ false
    → filter p (take (n + 1) xs) ≡ filter p (take n xs)
filter-fails p xs n d l is =
    filter-more p xs n d l ∙ ap (λ b. filter p (take n xs) ++ (if b then get_or xs n d ∷ [] else [])) is ∙ append-nil (filter p (take n xs))

-- the lists of the items, one after the other
pub flat_map-more : {X A : Type 0} (f : X → List A) (xs : List X) (n : ℕ) (d : X) → n < length xs
    → flat_map f (take (n + 1) xs) ≡ flat_map f (take n xs) ++ f (get_or xs n d)
flat_map-more f xs n d l =
    ap (flat_map f) (take-more xs n d l) ∙ flat_map-append f (take n xs) (get_or xs n d ∷ []) ∙ ap (λ ys. flat_map f (take n xs) ++ ys) (append-nil (f (get_or xs n d)))

-- all of the items
pub all-more : {X : Type 0} (P : X → Type 0) (xs : List X) (x : X) → All P xs → P x → All P (xs ++ x ∷ [])
all-more P xs x all here = All-append P xs (x ∷ []) all (All-cons P x [] here (all-none P))

pub all-taken : {X : Type 0} (P : X → Type 0) (xs : List X) (n : ℕ) (d : X) → n < length xs → All P (take n xs) → P (get_or xs n d) → All P (take (n + 1) xs)
all-taken P xs n d l all here = subst (All P) (sym (take-more xs n d l)) (all-more P (take n xs) (get_or xs n d) all here)

-- an item is where it was, or it's the last
pub at-first : {X : Type 0} (xs : List X) (x y : X) (n : ℕ) → slice_get xs n ≡ Some y → slice_get (xs ++ x ∷ []) n ≡ Some y
at-first [] x y n at = absurd (cc)
at-first (z ∷ zs) x y zero at = at
at-first (z ∷ zs) x y (suc n) at = at-first zs x y n at

pub at-last : {X : Type 0} (xs : List X) (x : X) → slice_get (xs ++ x ∷ []) (length xs) ≡ Some x
at-last [] x = refl
at-last (z ∷ zs) x = at-last zs x
