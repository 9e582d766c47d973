use Rattle.wm_races.proofs.KindLemmas.{AreFirstClasses}
use Rattle.wm_races.proofs.classes.classes_of.Given as goal

-- the classes of the kinds so far
abbrev pub invariant-loop-kind : goal.invariant-loop-kind
invariant-loop-kind l = AreFirstClasses l.candidate l.sites l.writes l.kind-items l.kind-index l.classes
