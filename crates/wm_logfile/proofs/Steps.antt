-- The text of a path, one index more at a time.
use Rattle.std.proofs.Common.{◌≡◌, ◌<◌, ℕ, ◌+◌, List, [], ◌∷◌, ◌++◌, length, take, get_or, ap, ◌∙◌, sym, append_assoc}
use Rattle.std.proofs.Common.{add-one}
use Rattle.std.proofs.lemmas.List.{append-nil}
use Rattle.std.proofs.Math.Seq.{take-suc}
use Rattle.std.specs.Fmt.{decimal}
use Rattle.wm_logfile.specs.PathText.{steps_text}

pub steps_text-append : (xs : List ℕ) (x : ℕ) → steps_text (xs ++ x ∷ []) ≡ steps_text xs ++ (47 ∷ decimal x)
steps_text-append [] x = ap (λ t. 47 ∷ t) (append-nil (decimal x))
steps_text-append (y ∷ ys) x =
    ap (λ t. 47 ∷ (decimal y ++ t)) (steps_text-append ys x)
    ∙ ap (λ t. 47 ∷ t) (sym (append_assoc (decimal y) (steps_text ys) (47 ∷ decimal x)))

pub steps_text-take : (xs : List ℕ) (k : ℕ) → k < length xs → steps_text (take (k + 1) xs) ≡ steps_text (take k xs) ++ (47 ∷ decimal (get_or xs k 0))
steps_text-take xs k h = rw (add-one k, take-suc xs k 0 h) (steps_text-append (take k xs) (get_or xs k 0))
