-- An outcome grows by an end.
use Rattle.std.proofs.Common.{◌≡◌, List, [], ◌∷◌, ◌++◌, length, codes, sym, ap, ◌∙◌, append_assoc}
use Rattle.std.specs.Prelude.{flat_map}
use Rattle.std.proofs.lemmas.List.{append-nil}
use Rattle.wm_event.specs.declared.log.ThreadLog.{ThreadLog}
use Rattle.wm_litmus.specs.Outcomes.{end_text, outcome_text, separator_text}

pieces : (xs : List ThreadLog) (x : ThreadLog) → flat_map (λ (other : ThreadLog). codes " " ++ end_text other.end) (xs ++ x ∷ []) ≡ flat_map (λ (other : ThreadLog). codes " " ++ end_text other.end) xs ++ (codes " " ++ end_text x.end)
pieces [] x = append-nil (codes " " ++ end_text x.end)
pieces (y ∷ ys) x =
    ap (λ t. (codes " " ++ end_text y.end) ++ t) (pieces ys x)
    ∙ sym (append_assoc (codes " " ++ end_text y.end) (flat_map (λ (other : ThreadLog). codes " " ++ end_text other.end) ys) (codes " " ++ end_text x.end))

pub outcome_more : (xs : List ThreadLog) (x : ThreadLog) → outcome_text (xs ++ x ∷ []) ≡ outcome_text xs ++ (separator_text (length xs) ++ end_text x.end)
outcome_more [] x = append-nil (end_text x.end)
outcome_more (y ∷ ys) x =
    ap (λ t. end_text y.end ++ t) (pieces ys x) ∙ sym (append_assoc (end_text y.end) (flat_map (λ (other : ThreadLog). codes " " ++ end_text other.end) ys) (codes " " ++ end_text x.end))
