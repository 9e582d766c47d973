use Rattle.std.proofs.Common.{◌≡◌, ◌++◌, codes, length, rules, sym, ap, ◌∙◌}
use Rattle.std.proofs.lemmas.Result.{IfOk-weaker}
use Rattle.wm_litmus.proofs.TraceTexts.{pending_none, pending_some}
use Rattle.wm_litmus.proofs.trace.pending_of.Goals as goal

pub returns-then-is_empty : goal.returns-then-is_empty
returns-then-is_empty c =
    let none : length c.args.stores.now ≡ 0 = search rules in
    c.new.ensures.bytes ∙ sym (pending_none c.args.stores.now none)

pub returns : goal.returns
returns c =
    let some : length c.args.stores.now ≡ 0 → ⊥ = search rules in
    IfOk-weaker c.format.result _ _
    (λ text is. is ∙ ap (λ keys. codes " pending" ++ keys) c.in_ok-keys.ensures ∙ sym (pending_some c.args.stores.now some))
    c.format.ensures.ok
