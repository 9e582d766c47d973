-- Rows of executions, and the lines of a list.
use Rattle.std.proofs.Common.{codes, append_assoc, ◌≡◌, ℕ, ◌+◌, ◌<◌, List, [], ◌∷◌, ◌++◌, get_or, length, take, sym, ap, ◌∙◌, subst}
use Rattle.std.specs.List.{AllZip, flat_map}
use Rattle.std.proofs.lemmas.List.{append-nil, take_more}
use Rattle.std.proofs.lemmas.List.Concat.{flat_map-append}
use Rattle.wm_litmus.specs.Prints.{ended}

-- one more on each side
zip_more : {A B : Type 0} (R : A → B → Type 0) (xs : List A) (ys : List B) (x : A) (y : B) → AllZip R xs ys → R x y → AllZip R (xs ++ x ∷ []) (ys ++ y ∷ [])
zip_more R [] [] x y all now = (now, all)
zip_more R [] (b ∷ ys) x y all now = absurd all
zip_more R (a ∷ xs) [] x y all now = absurd all
zip_more R (a ∷ xs) (b ∷ ys) x y all now = (all.0, zip_more R xs ys x y all.1 now)

-- the items before n + 1 are those before n, and the item that a loop is at
first_and_next : {X : Type 0} (xs : List X) (n : ℕ) (x : X) → n < length xs → x ≡ get_or xs n x → take (n + 1) xs ≡ take n xs ++ x ∷ []
first_and_next xs n x within is = take_more xs n x within ∙ ap (λ y. take n xs ++ (y ∷ [])) (sym is)

-- one more row for one more item
pub row_added : {A B : Type 0} (R : A → B → Type 0) (xs : List A) (n : ℕ) (x : A) (rows grown : List B) (row : B) → n < length xs → x ≡ get_or xs n x → AllZip R (take n xs) rows → R x row
    → grown ≡ rows ++ row ∷ [] → AllZip R (take (n + 1) xs) grown
row_added R xs n x rows grown row within is before now more =
    subst (λ ys. AllZip R (take (n + 1) xs) ys) (sym more) (subst (λ zs. AllZip R zs (rows ++ row ∷ [])) (sym (first_and_next xs n x within is)) (zip_more R (take n xs) rows x row before now))

-- one more line for one more item
pub line_added : {X : Type 0} (line : X → List ℕ) (xs : List X) (n : ℕ) (x : X) (text written : List ℕ) → n < length xs → x ≡ get_or xs n x → text ≡ flat_map line (take n xs)
    → written ≡ text ++ line x → written ≡ flat_map line (take (n + 1) xs)
line_added line xs n x text written within is before more =
    more ∙ ap (λ t. t ++ line x) before ∙ ap (λ l. flat_map line (take n xs) ++ l) (sym (append-nil (line x)))
    ∙ sym (flat_map-append line (take n xs) (x ∷ [])) ∙ ap (flat_map line) (sym (first_and_next xs n x within is))

-- ---- the last line

pub explored_line : (n g a : List ℕ) → ended (codes "explored" ++ ((codes " outcomes=" ++ (n ++ (codes " graphs=" ++ g))) ++ a))
    ≡ codes "explored outcomes=" ++ (n ++ (codes " graphs=" ++ (g ++ (a ++ 10 ∷ []))))
explored_line n g a =
    ap (λ t. codes "explored outcomes=" ++ t)
    (append_assoc (n ++ (codes " graphs=" ++ g)) a (10 ∷ []) ∙ append_assoc n (codes " graphs=" ++ g) (a ++ 10 ∷ []))

pub bounded_line : (n g b : List ℕ) → ended (codes "bounded" ++ ((codes " outcomes=" ++ (n ++ (codes " graphs=" ++ g))) ++ (codes " " ++ b)))
    ≡ codes "bounded outcomes=" ++ (n ++ (codes " graphs=" ++ (g ++ (codes " " ++ (b ++ 10 ∷ [])))))
bounded_line n g b =
    ap (λ t. codes "bounded outcomes=" ++ t)
    (append_assoc (n ++ (codes " graphs=" ++ g)) (codes " " ++ b) (10 ∷ []) ∙ append_assoc n (codes " graphs=" ++ g) (codes " " ++ (b ++ 10 ∷ [])))
