use Rattle.std.proofs.Common.{rules, subst, sym}
use Rattle.wm_run.specs.Refusal.{AllStart}
use Rattle.wm_valid.specs.Valid.{IsInit}
use Rattle.wm_run.proofs.Refusing.{all_start}
use Rattle.wm_run.proofs.rounds.series.run_rounds.Goals as goal

pub run_over-requires-clause-can : goal.run_over-requires-clause-can
run_over-requires-clause-can g c κs within =
    let new = c.in-Ok-new.ensures in
    record {
      planned = search rules;
      init = subst (IsInit c.args.module.now) (sym new.initial) c.initial.ensures;
      threads_are = search (rules, new.threads, c.in-Ok.ensures.launched.count);
    }

pub run_over-requires-clause-ready : goal.run_over-requires-clause-ready
run_over-requires-clause-ready g c κs within = record {
  planned = search rules;
  starts = subst (AllStart c.args.module.now) c.as_slice.ensures (all_start c.args.module.now c.as_slice.result.now c.in-Ok.runners.items c.in-Ok.ensures.launched);
}
