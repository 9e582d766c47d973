use Rattle.wm_races.specs.Classes.{AreKinds}
use Rattle.wm_races.proofs.classes.kinds_of.Given as goal

-- the kinds of the writes so far
abbrev pub invariant-loop-write : goal.invariant-loop-write
invariant-loop-write l = AreKinds l.candidate l.sites l.writes l.write-index l.kinds
