use Rattle.std.proofs.Common.{◌≡◌, map, take}
use Rattle.wm_run.specs.declared.scripts.traced.TracedTurn.{TracedTurn}
use Rattle.wm_litmus.proofs.trace.positions_of.Given as goal

-- the positions of the first entries
abbrev pub invariant-loop-entry : goal.invariant-loop-entry
invariant-loop-entry l = l.positions.items ≡ map (λ (entry : TracedTurn). entry.position) (take l.entry-index l.entries)
