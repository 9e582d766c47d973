use Rattle.std.proofs.Common.{◌≡◌, ℕ, ◌+◌, Option, None, Some, inl, refl, sym, ap, subst, ◌∙◌}
use Rattle.std.specs.Prelude.{slice_get}
use Rattle.std.proofs.lemmas.Option.{get_or_from_slice_get, none-some, same_Some}
use Rattle.wm_event.specs.Byte.{byte_of}
use Rattle.wm_event.specs.declared.event.EventId.{EventId}
use Rattle.wm_event.specs.declared.event.EventId.TheVariants.{Init, At}
use Rattle.wm_event.specs.declared.event.EventKey.{EventKey}
use Rattle.wm_explore.specs.Past.{FindsFor, IsSource}
use Rattle.wm_explore.specs.Values.{byte_left}
use Rattle.wm_explore.proofs.Items.{all_below, one_more_any}
use Rattle.wm_explore.proofs.Ranges.{some_bytes}
use Rattle.wm_explore.proofs.PastLaw.{cannot_for}
use Rattle.wm_explore.proofs.past.common_past.Goals as goal

pub loop-place-preserved-in_default : goal.loop-place-preserved-in_default
loop-place-preserved-in_default c = record {
  init = c.loop-place.invariant.init;
  some = λ i place w lt at there.
      let s = c.args.state.now in
      let places = c.args.writing.now in
      let n = c.loop-place.place-index in
      one_more_any (λ j p. (x : EventKey) → slice_get s.arrived p ≡ Some x → FindsFor c.args.initial.now s c.args.before.now c.args.next.now c.loop-place.common (At x)) places n
      (λ p is x at_x. absurd (none-some x (c.in_default.ensures ∙ ap (slice_get s.arrived) (get_or_from_slice_get places n p 0 is) ∙ at_x)))
      (λ j p below at_p x at_x. c.loop-place.invariant.some j p x below at_p at_x) i place lt at w there;
}

pub loop-place-preserved : goal.loop-place-preserved
loop-place-preserved c = record {
  init = c.gained_too-common.ensures.kept Init c.loop-place.invariant.init;
  some = λ i place w lt at there.
      let s = c.args.state.now in
      let places = c.args.writing.now in
      let n = c.loop-place.place-index in
      let P = λ (x : EventKey). FindsFor c.args.initial.now s c.args.before.now c.args.next.now c.gained_too-common.result (At x) in
      one_more_any (λ j p. (x : EventKey) → slice_get s.arrived p ≡ Some x → P x) places n
      (λ p is x at_x. subst P (same_Some c.in-Some.key.now x (c.in-Some.ensures ∙ ap (slice_get s.arrived) (get_or_from_slice_get places n p 0 is) ∙ at_x)) c.gained_too-common.ensures.here)
      (λ j p below at_p x at_x. c.gained_too-common.ensures.kept (At x) (c.loop-place.invariant.some j p x below at_p at_x)) i place lt at w there;
}

pub returns : goal.returns
returns c = by
  where
    at : ℕ
    at = c.args.next.now.address + 0

    by : (w : EventId) → IsSource c.args.state.now w → FindsFor c.args.initial.now c.args.state.now c.args.before.now c.args.next.now c.loop-place.common w
    by Init _ = c.loop-place.invariant.init
    by (At w) source = left (byte_left c.args.state.now.log w at) refl
      where
        left : (o : Option ℕ) → byte_left c.args.state.now.log w at ≡ o → FindsFor c.args.initial.now c.args.state.now c.args.before.now c.args.next.now c.loop-place.common (At w)
        left None is = cannot_for c.args.initial.now c.args.state.now c.args.before.now c.args.next.now c.loop-place.common (At w) (inl (inl (λ same. none-some (byte_of c.args.next.now.read 0) (sym is ∙ same))))
        left (Some byte) is =
            let listed = c.requires 0 (some_bytes c.args.next.now.width) source.0 w byte source.2 is in
            all_below (λ j p. (x : EventKey) → slice_get c.args.state.now.arrived p ≡ Some x → FindsFor c.args.initial.now c.args.state.now c.args.before.now c.args.next.now c.loop-place.common (At x)) c.args.writing.now c.loop-place.place-index c.loop-place-test.false
            (λ j p below at_p x at_x. c.loop-place.invariant.some j p x below at_p at_x) listed.0 source.0 listed.1 w source.2
