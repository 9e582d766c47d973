use Rattle.std.proofs.Common.{rules, subst, sym}
use Rattle.wm_run.specs.Plan.{IsPlan}
use Rattle.wm_run.specs.Launch.{AreLaunched}
use Rattle.wm_recorder.specs.Recorder.{IsNew}
use Rattle.wm_run.proofs.Driving.{Drives, is_own, is_scripted, is_within, launched_set}
use Rattle.wm_run.proofs.scripts.script.drive.Goals as goal

pub play-requires-clause-set : goal.play-requires-clause-set
play-requires-clause-set c =
    let new = subst (λ n. IsNew n c.initial.result.now c.in_ok-recorder.recorder) (sym c.in_ok-runners.ensures.launched.count) c.in_ok-recorder.ensures in
    launched_set c.args.module.now c.as_slice-starts.result.now c.in_ok-runners.runners.items c.initial.result.now c.in_ok-recorder.recorder c.in_ok-runners.ensures.launched new c.initial.ensures

pub returns-clause-scripted : goal.returns-clause-scripted
returns-clause-scripted c =
    let new = subst (λ n. IsNew n c.initial.result.now c.in_ok-recorder.recorder) (sym c.in_ok-runners.ensures.launched.count) c.in_ok-recorder.ensures in
    let d : Drives c.args.module.now c.args.plan.now c.args.turns.now c.in_ok-runners.runners.items c.in_ok-recorder.recorder c.play.new.runners.items c.play.new.recorder c.in_ok-run.run' = record {
      initial = c.initial.result.now;
      is_init = c.initial.ensures;
      launched = subst (λ starts. AreLaunched c.args.module.now starts c.in_ok-runners.runners.items) c.as_slice-starts.ensures c.in_ok-runners.ensures.launched;
      new = new;
      plays = c.in-Ok.ensures;
      finished = rw (← c.as_slice-starts.ensures, ← c.as_slice.ensures.value) c.in_ok-run.ensures;
    } in
    is_scripted c.args.module.now c.args.plan.now c.args.turns.now c.in_ok-runners.runners.items c.in_ok-recorder.recorder c.play.new.runners.items c.play.new.recorder c.in_ok-run.run' d

pub returns-clause-own : goal.returns-clause-own
returns-clause-own c =
    let new = subst (λ n. IsNew n c.initial.result.now c.in_ok-recorder.recorder) (sym c.in_ok-runners.ensures.launched.count) c.in_ok-recorder.ensures in
    let d : Drives c.args.module.now c.args.plan.now c.args.turns.now c.in_ok-runners.runners.items c.in_ok-recorder.recorder c.play.new.runners.items c.play.new.recorder c.in_ok-run.run' = record {
      initial = c.initial.result.now;
      is_init = c.initial.ensures;
      launched = subst (λ starts. AreLaunched c.args.module.now starts c.in_ok-runners.runners.items) c.as_slice-starts.ensures c.in_ok-runners.ensures.launched;
      new = new;
      plays = c.in-Ok.ensures;
      finished = rw (← c.as_slice-starts.ensures, ← c.as_slice.ensures.value) c.in_ok-run.ensures;
    } in
    is_own c.args.module.now c.args.plan.now c.args.turns.now c.in_ok-runners.runners.items c.in_ok-recorder.recorder c.play.new.runners.items c.play.new.recorder c.in_ok-run.run' d

pub returns-clause-within : goal.returns-clause-within
returns-clause-within c =
    let new = subst (λ n. IsNew n c.initial.result.now c.in_ok-recorder.recorder) (sym c.in_ok-runners.ensures.launched.count) c.in_ok-recorder.ensures in
    let d : Drives c.args.module.now c.args.plan.now c.args.turns.now c.in_ok-runners.runners.items c.in_ok-recorder.recorder c.play.new.runners.items c.play.new.recorder c.in_ok-run.run' = record {
      initial = c.initial.result.now;
      is_init = c.initial.ensures;
      launched = subst (λ starts. AreLaunched c.args.module.now starts c.in_ok-runners.runners.items) c.as_slice-starts.ensures c.in_ok-runners.ensures.launched;
      new = new;
      plays = c.in-Ok.ensures;
      finished = rw (← c.as_slice-starts.ensures, ← c.as_slice.ensures.value) c.in_ok-run.ensures;
    } in
    let planned : IsPlan c.args.plan.now c.args.turns.now = search rules in
    is_within c.args.module.now c.args.plan.now c.args.turns.now c.in_ok-runners.runners.items c.in_ok-recorder.recorder c.play.new.runners.items c.play.new.recorder c.in_ok-run.run' planned d
