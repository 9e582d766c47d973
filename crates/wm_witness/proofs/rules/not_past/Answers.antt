use Rattle.std.proofs.Common.{◌≡◌, Some, refl, sym, subst}
use Rattle.wm_event.specs.declared.event.Event.{Event}
use Rattle.wm_event.specs.declared.event.EventId.{EventId}
use Rattle.wm_event.specs.declared.event.EventId.TheVariants.{Init, At}
use Rattle.wm_event.specs.Event.{range_of}
use Rattle.wm_event.specs.Execution.{ReadsFrom}
use Rattle.wm_event.specs.Log.{event_in}
use Rattle.wm_event.specs.LoggedRun.{execution}
use Rattle.wm_witness.specs.declared.relation.Kind.{Kind}
use Rattle.wm_witness.specs.declared.relation.Kind.TheVariants.{Happens}
use Rattle.wm_witness.specs.Always.{Always}
use Rattle.wm_witness.specs.Relations.{AlwaysRelates}
use Rattle.wm_witness.specs.Rules.{IsAtomicWriteOf}
use Rattle.wm_witness.proofs.RulesLaw.{past, past-init}
use Rattle.wm_witness.proofs.Steps.{apart}
use Rattle.wm_witness.proofs.rules.not_past.Goals as goal

pub returns-in-Init : goal.returns-in-Init
returns-in-Init c =
    let run = c.args.start.now in
    let assumed = c.args.assumed.now in
    let r = c.args.taken.now.reader in
    let k = c.args.taken.now.byte in
    let v = c.args.other in
    let e : Event = c.in_ok-event.event.now in
    let is_r : event_in run.log r ≡ Some e = sym c.in_ok-event.ensures in
    let write : IsAtomicWriteOf run.log v (range_of e) = subst (IsAtomicWriteOf run.log v) c.range.ensures (c.if-not-is_atomic_write_of.ensures refl) in
    let from : Always run assumed (λ x. ReadsFrom (execution x) r k Init) = subst (λ (id : EventId). Always run assumed (λ x. ReadsFrom (execution x) r k id)) c.in-Init.is c.requires.taken in
    past-init run assumed r v e k is_r (sym c.if-not-is_atomic.ensures) from write (apart v r c.if-eq.ensures)

pub returns-then-has-2 : goal.returns-then-has-2
returns-then-has-2 c =
    let run = c.args.start.now in
    let assumed = c.args.assumed.now in
    let w = c.in-At.writer in
    let r = c.args.taken.now.reader in
    let k = c.args.taken.now.byte in
    let v = c.args.other in
    let e : Event = c.in_ok-event.event.now in
    let is_r : event_in run.log r ≡ Some e = sym c.in_ok-event.ensures in
    let write : IsAtomicWriteOf run.log v (range_of e) = subst (IsAtomicWriteOf run.log v) c.range.ensures (c.if-not-is_atomic_write_of.ensures refl) in
    let from : Always run assumed (λ x. ReadsFrom (execution x) r k (At w)) = subst (λ (id : EventId). Always run assumed (λ x. ReadsFrom (execution x) r k id)) c.in-At.is c.requires.taken in
    let w_r : AlwaysRelates run assumed Happens w r = subst (λ (kind : Kind). AlwaysRelates run assumed kind w r) c.requires.kind (c.if-has.ensures refl) in
    let w_v : AlwaysRelates run assumed Happens w v = subst (λ (kind : Kind). AlwaysRelates run assumed kind w v) c.requires.kind (c.if-has-2.ensures refl) in
    past run assumed w r v e k is_r (sym c.if-not-is_atomic.ensures) from write (apart v r c.if-eq.ensures) w_r w_v
