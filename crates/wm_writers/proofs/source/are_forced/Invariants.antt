use Rattle.std.proofs.Common.{take}
use Rattle.std.specs.Prelude.{All}
use Rattle.wm_writers.specs.Found.{HasForcedByte}
use Rattle.wm_writers.proofs.source.are_forced.Given as goal

-- the sources so far
abbrev pub invariant-loop-source : goal.invariant-loop-source
invariant-loop-source l = All HasForcedByte (take l.source-index l.sources)
