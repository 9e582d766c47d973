-- The verdict on a log whose threads are runs.
use Rattle.std.proofs.Common.{refl}
use Rattle.wm_ast.specs.declared.module.Module.{Module}
use Rattle.wm_event.specs.declared.rule.Judgement.{Judgement}
use Rattle.wm_event.specs.declared.rule.Judgement.TheVariants as judgement
use Rattle.wm_event.specs.Faults.{Judges}
use Rattle.wm_event.specs.LoggedRun.{LoggedRun, execution}
use Rattle.wm_replay.specs.Replay.{AreRuns}
use Rattle.wm_check.specs.Checked.{verdict_by}
use Rattle.wm_check.specs.Reading.{ComparesLog}
use Rattle.wm_check.specs.Verified.{JudgesRun}

pub judges_run : (run : LoggedRun) (j : Judgement) → Judges (execution run) j → JudgesRun run (verdict_by run.log j)
judges_run run judgement.Valid judges = (judges, (refl, refl))
judges_run run (judgement.Broken fault) judges = judges

pub compares_judged : (m : Module) (run : LoggedRun) (j : Judgement) → AreRuns m run.log → Judges (execution run) j → ComparesLog m run (verdict_by run.log j)
compares_judged m run judgement.Valid runs judges mb db modules document initial shape = record {
  «module» = m;
  run = run;
  candidate = record {
    is_run = record { modules = modules; document = document; initial = initial };
    shape = shape;
  };
  threads_are_runs = runs;
  execution_is_valid = judges;
  threads = refl;
  events = refl;
}
compares_judged m run (judgement.Broken fault) runs judges mb db modules document initial shape = record {
  «module» = m;
  run = run;
  candidate = record {
    is_run = record { modules = modules; document = document; initial = initial };
    shape = shape;
  };
  threads_are_runs = runs;
  first = judges;
}
