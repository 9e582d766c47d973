use Rattle.std.proofs.Common.{◌≡◌, ◌++◌, ◌∙◌, ap, codes, string_bytes, subst}
use Rattle.std.proofs.lemmas.List.{take_all}
use Rattle.std.specs.List.{flat_map}
use Rattle.wm_litmus.specs.Explore.{outcome_line}
use Rattle.wm_litmus.proofs.Listings.{line_added}
use Rattle.wm_litmus.proofs.explore.outcome_lines.Goals as goal

pub loop-row-preserved : goal.loop-row-preserved
loop-row-preserved c =
    line_added outcome_line c.args.rows.now c.loop-row.row-index c.row-item.result (string_bytes c.loop-row.text) (string_bytes c.push_str.new.self) c.loop-row-test.true c.row-item.is c.loop-row.invariant
    (c.in_ok-push_str.ensures.bytes ∙ ap (λ l. string_bytes c.loop-row.text ++ l) (c.as_str.ensures.value ∙ c.in_ok-line.ensures.ok ∙ ap (λ o. codes "outcome " ++ (o ++ codes "\n")) c.as_str-outcome.ensures.value))

pub returns : goal.returns
returns c = subst (λ rows. string_bytes c.loop-row.text ≡ flat_map outcome_line rows) (take_all c.loop-row.row-index c.args.rows.now c.loop-row-test.false) c.loop-row.invariant
