use Rattle.std.proofs.Common.{◌≡◌, ◌++◌, ◌∷◌, [], Vec, Global, sym, ap, ◌∙◌, subst}
use Rattle.wm_witness.specs.declared.row.Row.{Row}
use Rattle.wm_witness.specs.Relations.{AreRows}
use Rattle.wm_witness.proofs.RelationLaw.{empty-pushed}
use Rattle.wm_witness.proofs.relation.Relation.new.Goals as goal
use Rattle.wm_witness.proofs.relation.Relation.new.Goals.{in-Some+in_ok-push-2, in_default}

pub loop-event-preserved : goal.loop-event-preserved
loop-event-preserved c = λ assumed. elim c.match-empty_row.branch [
  | in-Some+in_ok-push-2 w ↦
      let pushed : c.match-empty_row.rows.items ≡ c.loop-event.rows.items ++ w.in-Some.row ∷ [] = ap (λ (v : Vec Row Global). v.items) w.rows-is ∙ w.in_ok-push-2.ensures.items in
      subst (AreRows c.args.start.now assumed c.args.kind) (sym pushed)
      (empty-pushed c.args.start.now assumed c.args.kind c.loop-event.rows.items w.in-Some.row (c.loop-event.invariant assumed) w.in-Some.ensures)
  | in_default w ↦ subst (λ (v : Vec Row Global). AreRows c.args.start.now assumed c.args.kind v.items) (sym w.rows-is) (c.loop-event.invariant assumed)
]
