use Rattle.std.proofs.Common.{Ok, ap, refl, sym, subst}
use Rattle.wm_machine.specs.Reach.{HasEnded}
use Rattle.wm_machine.specs.State.{config_of}
use Rattle.wm_replay.proofs.Needs.{ended_of_need}
use Rattle.wm_run.proofs.Leading.{leads_by_local}
use Rattle.wm_run.proofs.rounds.worker.step.Goals as goal

pub returns-in-Ended-clause-stopped : goal.returns-in-Ended-clause-stopped
returns-in-Ended-clause-stopped g c =
    let e = c.in-Ok.ensures.ended c.in-Ended.field-0 c.in-Ended.is in
    (refl, e.1, subst HasEnded (sym (ended_of_need c.args.running.now 0 c.in-Ended.field-0 (e.0 0))) tt)

pub returns-in-Local-clause-made : goal.returns-in-Local-clause-made
returns-in-Local-clause-made g c = λ _ first n so.
    leads_by_local c.args.running.now c.args.thread first (config_of c.step.new.self) c.args.calls.now.events n so
    (c.in-Ok.ensures.needs_nothing (ap Ok c.in-Local.is) 0) (c.in-Ok.ensures.local (ap Ok c.in-Local.is))
