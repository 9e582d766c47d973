use Rattle.std.proofs.Common.{take}
use Rattle.std.specs.Prelude.{All}
use Rattle.wm_witness.specs.Steps.{IsPairSpent}
use Rattle.wm_witness.proofs.new_split.new_split_on_event.Given as goal

abbrev pub invariant-loop-second : goal.invariant-loop-second
invariant-loop-second l = All (IsPairSpent l.start.log l.assumed l.first) (take l.second-index l.events)
