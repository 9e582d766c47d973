use Rattle.std.proofs.Common.{rules, subst, sym}
use Rattle.wm_recorder.specs.Recorder.{IsNew}
use Rattle.wm_run.specs.Launch.{AreLaunched}
use Rattle.wm_run.specs.Plan.{IsPlan}
use Rattle.wm_run.proofs.Driving.{Drives, is_own, is_scripted, is_within, launched_set}
use Rattle.wm_run.proofs.TracedTurns.{is_traced}
use Rattle.wm_run.proofs.scripts.tracing.trace.Goals as goal

pub play_traced-requires-clause-set : goal.play_traced-requires-clause-set
play_traced-requires-clause-set c =
    let new = subst (λ n. IsNew n c.initial.result.now c.in_ok-recorder.recorder) (sym c.in_ok-runners.ensures.launched.count) c.in_ok-recorder.ensures in
    launched_set c.args.module.now c.as_slice-starts.result.now c.in_ok-runners.runners.items c.initial.result.now c.in_ok-recorder.recorder c.in_ok-runners.ensures.launched new c.initial.ensures

pub returns-clause-scripted : goal.returns-clause-scripted
returns-clause-scripted c =
    let m = c.args.module.now in
    let plan = c.args.plan.now in
    let turns = c.args.turns.now in
    let xs = c.in_ok-runners.runners.items in
    let r = c.in_ok-recorder.recorder in
    let ys = c.play_traced.new.runners.items in
    let r' = c.play_traced.new.recorder in
    let run = c.in_ok-run.run' in
    let new = subst (λ n. IsNew n c.initial.result.now r) (sym c.in_ok-runners.ensures.launched.count) c.in_ok-recorder.ensures in
    let d : Drives m plan turns xs r ys r' run = record {
      initial = c.initial.result.now;
      is_init = c.initial.ensures;
      launched = subst (λ starts. AreLaunched m starts xs) c.as_slice-starts.ensures c.in_ok-runners.ensures.launched;
      new = new;
      plays = c.in-Ok.ensures.plays;
      finished = rw (← c.as_slice-starts.ensures, ← c.as_slice.ensures.value) c.in_ok-run.ensures;
    } in
    is_scripted m plan turns xs r ys r' run d

pub returns-clause-traced : goal.returns-clause-traced
returns-clause-traced c =
    let m = c.args.module.now in
    let plan = c.args.plan.now in
    let turns = c.args.turns.now in
    let xs = c.in_ok-runners.runners.items in
    let r = c.in_ok-recorder.recorder in
    let ys = c.play_traced.new.runners.items in
    let r' = c.play_traced.new.recorder in
    let run = c.in_ok-run.run' in
    let new = subst (λ n. IsNew n c.initial.result.now r) (sym c.in_ok-runners.ensures.launched.count) c.in_ok-recorder.ensures in
    let d : Drives m plan turns xs r ys r' run = record {
      initial = c.initial.result.now;
      is_init = c.initial.ensures;
      launched = subst (λ starts. AreLaunched m starts xs) c.as_slice-starts.ensures c.in_ok-runners.ensures.launched;
      new = new;
      plays = c.in-Ok.ensures.plays;
      finished = rw (← c.as_slice-starts.ensures, ← c.as_slice.ensures.value) c.in_ok-run.ensures;
    } in
    is_traced m plan turns xs r ys r' run c.in-Ok.traced d c.in-Ok.ensures.traces

pub returns-clause-own : goal.returns-clause-own
returns-clause-own c =
    let m = c.args.module.now in
    let plan = c.args.plan.now in
    let turns = c.args.turns.now in
    let xs = c.in_ok-runners.runners.items in
    let r = c.in_ok-recorder.recorder in
    let ys = c.play_traced.new.runners.items in
    let r' = c.play_traced.new.recorder in
    let run = c.in_ok-run.run' in
    let new = subst (λ n. IsNew n c.initial.result.now r) (sym c.in_ok-runners.ensures.launched.count) c.in_ok-recorder.ensures in
    let d : Drives m plan turns xs r ys r' run = record {
      initial = c.initial.result.now;
      is_init = c.initial.ensures;
      launched = subst (λ starts. AreLaunched m starts xs) c.as_slice-starts.ensures c.in_ok-runners.ensures.launched;
      new = new;
      plays = c.in-Ok.ensures.plays;
      finished = rw (← c.as_slice-starts.ensures, ← c.as_slice.ensures.value) c.in_ok-run.ensures;
    } in
    is_own m plan turns xs r ys r' run d

pub returns-clause-within : goal.returns-clause-within
returns-clause-within c =
    let m = c.args.module.now in
    let plan = c.args.plan.now in
    let turns = c.args.turns.now in
    let xs = c.in_ok-runners.runners.items in
    let r = c.in_ok-recorder.recorder in
    let ys = c.play_traced.new.runners.items in
    let r' = c.play_traced.new.recorder in
    let run = c.in_ok-run.run' in
    let new = subst (λ n. IsNew n c.initial.result.now r) (sym c.in_ok-runners.ensures.launched.count) c.in_ok-recorder.ensures in
    let d : Drives m plan turns xs r ys r' run = record {
      initial = c.initial.result.now;
      is_init = c.initial.ensures;
      launched = subst (λ starts. AreLaunched m starts xs) c.as_slice-starts.ensures c.in_ok-runners.ensures.launched;
      new = new;
      plays = c.in-Ok.ensures.plays;
      finished = rw (← c.as_slice-starts.ensures, ← c.as_slice.ensures.value) c.in_ok-run.ensures;
    } in
    let planned : IsPlan plan turns = search rules in
    is_within m plan turns xs r ys r' run planned d

pub returns-clause-refused : goal.returns-clause-refused
returns-clause-refused c = tt
