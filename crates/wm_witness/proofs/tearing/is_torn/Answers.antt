use Rattle.std.proofs.Common.{◌≡◌, ◌==◌, ◌&&◌, Some, refl, sym, subst}
use Rattle.wm_event.specs.declared.event.Event.{Event}
use Rattle.wm_event.specs.declared.event.EventKey.{EventKey}
use Rattle.wm_event.specs.declared.event.EventId.{EventId}
use Rattle.wm_event.specs.declared.event.EventId.TheVariants.{At}
use Rattle.wm_event.specs.Execution.{ReadsFrom}
use Rattle.wm_event.specs.Log.{event_in}
use Rattle.wm_event.specs.LoggedRun.{execution}
use Rattle.wm_witness.specs.Always.{Always}
use Rattle.wm_witness.proofs.TearingLaw.{torn}
use Rattle.wm_witness.proofs.Steps.{apart, keys-equal, not-not}
use Rattle.wm_witness.proofs.tearing.is_torn.Goals as goal

pub returns : goal.returns
returns c = λ t.
    let run = c.args.start.now in
    let assumed = c.args.assumed.now in
    let r : EventKey = c.args.first.now.reader in
    let e : Event = c.in-Some.event.now in
    let is_r : event_in run.log r ≡ Some e = sym c.in-Some.ensures in
    let same : r ≡ c.args.second.now.reader = keys-equal r c.args.second.now.reader (not-not (r.thread == c.args.second.now.reader.thread && r.number == c.args.second.now.reader.number) c.if-ne.ensures) in
    let first : Always run assumed (λ x. ReadsFrom (execution x) r c.args.first.now.byte (At c.in-At-At.one)) =
    subst (λ (id : EventId). Always run assumed (λ x. ReadsFrom (execution x) r c.args.first.now.byte id)) c.in-At-At.is-0 c.requires.first in
    let second : Always run assumed (λ x. ReadsFrom (execution x) r c.args.second.now.byte (At c.in-At-At.other)) =
    subst (λ (q : EventKey). Always run assumed (λ x. ReadsFrom (execution x) q c.args.second.now.byte (At c.in-At-At.other))) (sym same)
    (subst (λ (id : EventId). Always run assumed (λ x. ReadsFrom (execution x) c.args.second.now.reader c.args.second.now.byte id)) c.in-At-At.is-1 c.requires.second) in
    torn run assumed r c.in-At-At.one c.in-At-At.other e c.args.first.now.byte c.args.second.now.byte is_r (c.if-not-is_tear_free.ensures refl) (c.if-not-is_like.ensures refl) (c.if-not-is_like-2.ensures refl)
    (apart c.in-At-At.one c.in-At-At.other c.if-eq.ensures) first second
