use Rattle.std.proofs.lemmas.Result.{IfOk-weaker}
use Rattle.wm_check.specs.Checked.{verdict_of}
use Rattle.wm_litmus.proofs.Explaining.{answers_graph}
use Rattle.wm_litmus.proofs.explanation.show_log.Goals as goal

pub returns : goal.returns
returns g c =
    let v = verdict_of c.in_ok-checked.checked in
    IfOk-weaker c.show_checked.result _ _
    (λ answer shows. λ module_bytes is_module. answers_graph module_bytes c.args.document_bytes.now v answer (c.in_ok-checked.ensures.verdict module_bytes is_module) shows)
    c.show_checked.ensures
