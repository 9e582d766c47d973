use Rattle.std.proofs.Common.{◌≡◌, sym, subst, ◌∙◌}
use Rattle.wm_event.specs.declared.op.OpFields.{OpFields}
use Rattle.wm_replay.specs.declared.continuing.Next.TheVariants.{Access}
use Rattle.wm_explore.specs.Turns.{WaitsFor}
use Rattle.wm_explore.proofs.turn.read_of.Goals as goal

same_access : (a b : OpFields) → Access a ≡ Access b → a ≡ b
same_access a b e = cc e

pub returns-else-can_read-clause-none : goal.returns-else-can_read-clause-none
returns-else-can_read-clause-none c _ op access reads =
    let same : c.fields.result ≡ op = c.fields.ensures.value ∙ same_access c.in-Access.op op (sym c.in-Access.is ∙ access) in
    subst (WaitsFor c.args.state.now c.args.number) same (c.can_read.ensures c.if-can_read.false)
