use Rattle.std.proofs.Common.{subst, sym}
use Rattle.std.specs.Prelude.{All}
use Rattle.wm_event.specs.LoggedRun.{execution}
use Rattle.wm_explain.specs.Parts.{IsChain}
use Rattle.wm_explain.proofs.Adding.{answered_are}
use Rattle.wm_explain.proofs.rule.add_reason.Goals as goal

pub returns-in-Only : goal.returns-in-Only
returns-in-Only c answer =
    let run = c.args.candidate.now in
    let are = answered_are run c.args.fault.now c.args.writers.now c.in-Only.found c.in-Only.is answer in
    c.add_grounds-in-Only.ensures run (subst (All (IsChain (execution run))) (sym c.as_slice-in-Only.ensures) are)
