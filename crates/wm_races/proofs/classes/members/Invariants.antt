use Rattle.wm_races.proofs.KindLemmas.{AreFirstMembers}
use Rattle.wm_races.proofs.classes.members.Given as goal

-- those of the writes so far
abbrev pub invariant-loop-write : goal.invariant-loop-write
invariant-loop-write l = AreFirstMembers l.candidate l.sites l.writes l.kind l.write-index l.places
