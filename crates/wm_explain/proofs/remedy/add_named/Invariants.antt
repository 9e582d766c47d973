use Rattle.wm_event.specs.LoggedRun.{LoggedRun}
use Rattle.wm_explain.specs.Parts.{AllHold, AreNamed}
use Rattle.wm_explain.proofs.remedy.add_named.Given as goal

abbrev pub invariant-loop-position : goal.invariant-loop-position
invariant-loop-position l = (run : LoggedRun) → AreNamed run l.reader l.byte l.named → AllHold run l.initial.parts.items → AllHold run l.parts.items
