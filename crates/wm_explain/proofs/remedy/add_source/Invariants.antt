use Rattle.wm_event.specs.LoggedRun.{LoggedRun}
use Rattle.wm_writers.specs.Answer.{IsSource}
use Rattle.wm_explain.specs.Parts.{AllHold}
use Rattle.wm_explain.proofs.remedy.add_source.Given as goal

abbrev pub invariant-loop-fit : goal.invariant-loop-fit
invariant-loop-fit l = (run : LoggedRun) → IsSource run l.source → AllHold run l.initial.parts.items → AllHold run l.parts.items
