use Rattle.wm_run.proofs.Together.{gathered_own, gathered_run}
use Rattle.wm_run.proofs.rounds.gathering.gather.Goals as goal

pub returns-clause-gathered : goal.returns-clause-gathered
returns-clause-gathered c =
    gathered_run c.args.module.now c.args.recorder c.args.ends.items c.as_slice.result.now c.in-Ok.logs c.in_ok-recorded_run.field-0 c.as_slice.ensures.value c.in-Ok.ensures.gathered
    c.in_ok-recorded_run.ensures.run c.in_ok-recorded_run.ensures.recording c.in_ok-recorded_run.ensures.valid

pub returns-clause-own : goal.returns-clause-own
returns-clause-own c = gathered_own c.args.module.now c.args.ends.items c.args.recorder c.in_ok-recorded_run.field-0 c.requires (returns-clause-gathered c)
