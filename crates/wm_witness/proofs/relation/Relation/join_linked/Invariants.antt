use Rattle.std.proofs.Common.{◌≡◌}
use Rattle.wm_witness.specs.Relations.{AreRows}
use Rattle.wm_witness.proofs.relation.Relation.join_linked.Given as goal

abbrev pub invariant-loop : goal.invariant-loop
invariant-loop l = record {
  kind : l.self.kind ≡ l.fn.self.kind;
  rows : AreRows l.start l.assumed l.self.kind l.self.rows.items;
}
