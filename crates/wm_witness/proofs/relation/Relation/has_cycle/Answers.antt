use Rattle.std.proofs.Common.{◌≡◌, get_or, [], sym, subst}
use Rattle.wm_witness.specs.declared.row.Row.{Row}
use Rattle.wm_witness.specs.Relations.{AreRows}
use Rattle.wm_witness.proofs.RelationLaw.{row-cycle}
use Rattle.wm_witness.proofs.relation.Relation.has_cycle.Goals as goal

pub returns-then-covers : goal.returns-then-covers
returns-then-covers c = λ t.
    let run = c.args.start.now in
    let assumed = c.args.assumed.now in
    let kind = c.args.self.now.kind in
    let rows = c.deref-row-items.result.now in
    let same : rows ≡ c.args.self.now.rows.items = c.deref-row-items.ensures.value in
    let all : AreRows run assumed kind rows = subst (AreRows run assumed kind) (sym same) c.requires in
    let none : Row = record { key = record { thread = 0; number = 0 }; before = [] } in
    row-cycle run assumed kind (get_or rows c.loop-row.row-index none) (all c.loop-row.row-index none c.loop-row-test.true) (c.if-covers.ensures.0 t)
