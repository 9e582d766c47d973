use Rattle.std.proofs.Common.{subst}
use Rattle.std.specs.Prelude.{IfOk}
use Rattle.wm_event.specs.declared.rule.Judgement.{Judgement}
use Rattle.wm_litmus.specs.Explanation.{ExplainsRun}
use Rattle.wm_litmus.proofs.explanation.explain_checked.Goals as goal

pub returns-in-Judged : goal.returns-in-Judged
returns-in-Judged g c =
    rw c.in-Judged.is
    (subst (λ (j : Judgement). IfOk c.explain_judged_run.result (ExplainsRun c.in-Judged.candidate j)) c.judgement.ensures c.explain_judged_run.ensures)
