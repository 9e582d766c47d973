use Rattle.std.proofs.Common.{◌≡◌, ◌++◌, codes, length, rules, sym, ap, ◌∙◌}
use Rattle.std.proofs.lemmas.Result.{IfOk-weaker}
use Rattle.wm_litmus.proofs.TraceTexts.{from_none, from_some}
use Rattle.wm_litmus.proofs.trace.writers_of.Goals as goal

pub returns-then-is_empty : goal.returns-then-is_empty
returns-then-is_empty c =
    let none : length c.args.writers.now ≡ 0 = search rules in
    c.new.ensures.bytes ∙ sym (from_none c.args.writers.now none)

pub returns : goal.returns
returns c =
    let some : length c.args.writers.now ≡ 0 → ⊥ = search rules in
    IfOk-weaker c.format.result _ _
    (λ text is. is ∙ ap (λ ids. codes " from" ++ ids) c.in_ok-ids.ensures ∙ sym (from_some c.args.writers.now some))
    c.format.ensures.ok
