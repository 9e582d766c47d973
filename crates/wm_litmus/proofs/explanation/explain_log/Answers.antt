use Rattle.std.proofs.lemmas.Result.{IfOk-weaker}
use Rattle.wm_litmus.proofs.Explaining.{checked_explains}
use Rattle.wm_litmus.proofs.explanation.explain_log.Goals as goal

pub returns : goal.returns
returns g c =
    let found = c.in_ok-checked.checked in
    let db = c.args.document_bytes.now in
    IfOk-weaker c.explain_checked.result _ _
    (λ answer explains. λ module_bytes is_module.
    checked_explains module_bytes db c.args.module.now found answer is_module c.in_ok-checked.ensures.kept (c.in_ok-checked.ensures.verdict module_bytes is_module) explains)
    c.explain_checked.ensures
