use Rattle.std.proofs.Common.{List}
use Rattle.wm_witness.specs.declared.assumption.Assumption.{Assumption}
use Rattle.wm_witness.specs.Relations.{AreRows}
use Rattle.wm_witness.proofs.relation.Relation.new.Given as goal

abbrev pub invariant-loop-thread : goal.invariant-loop-thread
invariant-loop-thread l = (assumed : List Assumption) → AreRows l.start assumed l.kind l.rows.items

abbrev pub invariant-loop-event : goal.invariant-loop-event
invariant-loop-event l = (assumed : List Assumption) → AreRows l.start assumed l.kind l.rows.items
