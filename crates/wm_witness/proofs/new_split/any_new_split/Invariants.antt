use Rattle.std.proofs.Common.{take}
use Rattle.std.specs.Prelude.{All}
use Rattle.wm_witness.specs.Steps.{IsEventSpent}
use Rattle.wm_witness.proofs.new_split.any_new_split.Given as goal

abbrev pub invariant-loop-first : goal.invariant-loop-first
invariant-loop-first l = All (IsEventSpent l.start.log l.assumed l.events) (take l.first-index l.events)
