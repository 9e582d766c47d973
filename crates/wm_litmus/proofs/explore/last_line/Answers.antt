use Rattle.std.proofs.Common.{◌≡◌, ◌++◌, ◌∷◌, [], ◌∙◌, ap, codes, length, string_bytes, subst, sym}
use Rattle.std.specs.Fmt.{decimal}
use Rattle.std.proofs.lemmas.Result.{IfOk-weaker}
use Rattle.wm_litmus.specs.Explore.{bound_text, coverage_text, last_by}
use Rattle.wm_litmus.proofs.Listings.{bounded_line, explored_line}
use Rattle.wm_litmus.proofs.explore.last_line.Goals as goal

pub returns-in-None : goal.returns-in-None
returns-in-None c =
    let e = c.args.exploration.now in
    let coverage = c.args.coverage in
    IfOk-weaker c.format.result _ _
    (λ text is. subst (λ met. string_bytes text ≡ last_by e coverage met) (sym c.in-None.is)
    (is ∙ ap (λ n. codes "explored outcomes=" ++ (decimal n ++ (codes " graphs=" ++ (decimal e.graphs ++ (coverage_text coverage ++ 10 ∷ []))))) c.len-outcomes.ensures
    ∙ sym (explored_line (decimal (length e.finished)) (decimal e.graphs) (coverage_text coverage))))
    c.format.ensures.ok

pub returns-in-Some : goal.returns-in-Some
returns-in-Some c =
    let e = c.args.exploration.now in
    let b = bound_text c.in-Some.bound in
    IfOk-weaker c.format-in-Some.result _ _
    (λ text is. subst (λ met. string_bytes text ≡ last_by e c.args.coverage met) (sym c.in-Some.is)
    (is ∙ ap (λ n. codes "bounded outcomes=" ++ (decimal n ++ (codes " graphs=" ++ (decimal e.graphs ++ (codes " " ++ (b ++ 10 ∷ [])))))) c.len-outcomes.ensures
    ∙ sym (bounded_line (decimal (length e.finished)) (decimal e.graphs) b)))
    c.format-in-Some.ensures.ok
