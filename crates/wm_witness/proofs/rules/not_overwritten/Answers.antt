use Rattle.std.proofs.Common.{◌≡◌, Some, refl, sym, subst}
use Rattle.wm_event.specs.declared.event.Event.{Event}
use Rattle.wm_event.specs.declared.event.EventId.{EventId}
use Rattle.wm_event.specs.declared.event.EventId.TheVariants.{At}
use Rattle.wm_event.specs.Event.{range_of}
use Rattle.wm_event.specs.Execution.{ReadsFrom}
use Rattle.wm_event.specs.Log.{event_in}
use Rattle.wm_event.specs.LoggedRun.{execution}
use Rattle.wm_witness.specs.declared.relation.Kind.{Kind}
use Rattle.wm_witness.specs.declared.relation.Kind.TheVariants.{Happens}
use Rattle.wm_witness.specs.Always.{Always}
use Rattle.wm_witness.specs.Relations.{AlwaysRelates}
use Rattle.wm_witness.specs.Rules.{IsAtomicWriteOf}
use Rattle.wm_witness.proofs.RulesLaw.{overwritten}
use Rattle.wm_witness.proofs.Steps.{apart}
use Rattle.wm_witness.proofs.rules.not_overwritten.Goals as goal

pub returns-then-has-2 : goal.returns-then-has-2
returns-then-has-2 c =
    let run = c.args.start.now in
    let assumed = c.args.assumed.now in
    let w = c.in-At.writer in
    let r = c.args.taken.now.reader in
    let k = c.args.taken.now.byte in
    let v = c.args.other in
    let f : Event = c.in_ok-event.event.now in
    let is_w : event_in run.log w ≡ Some f = sym c.in_ok-event.ensures in
    let atomic = c.if-not-is_atomic.ensures in
    let write : IsAtomicWriteOf run.log v (range_of f) = subst (IsAtomicWriteOf run.log v) c.range.ensures (c.if-not-is_atomic_write_of.ensures refl) in
    let from : Always run assumed (λ x. ReadsFrom (execution x) r k (At w)) = subst (λ (id : EventId). Always run assumed (λ x. ReadsFrom (execution x) r k id)) c.in-At.is c.requires.taken in
    let w_r : AlwaysRelates run assumed Happens w r = subst (λ (kind : Kind). AlwaysRelates run assumed kind w r) c.requires.kind (c.if-has.ensures refl) in
    let v_r : AlwaysRelates run assumed Happens v r = subst (λ (kind : Kind). AlwaysRelates run assumed kind v r) c.requires.kind (c.if-has-2.ensures refl) in
    overwritten run assumed w r v f k is_w (sym atomic) from write (apart v w c.if-eq.ensures) w_r v_r
