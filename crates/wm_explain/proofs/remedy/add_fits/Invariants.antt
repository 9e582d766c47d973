use Rattle.std.proofs.Common.{All}
use Rattle.wm_event.specs.LoggedRun.{LoggedRun}
use Rattle.wm_writers.specs.Answer.{IsSource}
use Rattle.wm_explain.specs.Parts.{AllHold}
use Rattle.wm_explain.proofs.remedy.add_fits.Given as goal

abbrev pub invariant-loop-source : goal.invariant-loop-source
invariant-loop-source l = (run : LoggedRun) → All (IsSource run) l.writers.sources → AllHold run l.initial.parts.items → AllHold run l.parts.items
