use Rattle.std.proofs.Common.{◌≡◌}
use Rattle.wm_witness.specs.Relations.{AreRows}
use Rattle.wm_witness.proofs.relation.Relation.join_all.Given as goal

abbrev pub invariant-loop-index : goal.invariant-loop-index
invariant-loop-index l = record {
  kind : l.self.kind ≡ l.fn.self.kind;
  rows : AreRows l.start l.assumed l.self.kind l.self.rows.items;
}
