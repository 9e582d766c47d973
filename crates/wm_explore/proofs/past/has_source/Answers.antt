use Rattle.std.proofs.Common.{◌≡◌, ℕ, ◌+◌, Option, None, Some, inl, inr, refl, sym, ap, subst, ◌∙◌}
use Rattle.std.specs.Prelude.{slice_get}
use Rattle.std.proofs.lemmas.Option.{get_or_from_slice_get, none-some, same_Some}
use Rattle.wm_event.specs.Byte.{byte_of}
use Rattle.wm_event.specs.declared.event.EventId.{EventId}
use Rattle.wm_event.specs.declared.event.EventId.TheVariants.{Init, At}
use Rattle.wm_event.specs.declared.event.EventKey.{EventKey}
use Rattle.wm_explore.specs.Past.{CannotGiveBeside, IsSource}
use Rattle.wm_explore.specs.Values.{byte_left}
use Rattle.wm_explore.proofs.Items.{all_below, one_more_any}
use Rattle.wm_explore.proofs.past.has_source.Goals as goal

pub loop-place-preserved-in_default : goal.loop-place-preserved-in_default
loop-place-preserved-in_default c = record {
  none = λ i place w lt at there.
      let s = c.args.state.now in
      let places = c.args.writing.now in
      let n = c.loop-place.place-index in
      one_more_any (λ j p. (x : EventKey) → slice_get s.arrived p ≡ Some x → CannotGiveBeside c.args.initial.now s c.args.before.now c.args.next.now c.args.first c.args.byte (At x)) places n
      (λ p is x at_x. absurd (none-some x (c.in_default.ensures ∙ ap (slice_get s.arrived) (get_or_from_slice_get places n p 0 is) ∙ at_x)))
      (λ j p below at_p x at_x. c.loop-place.invariant.none j p x below at_p at_x) i place lt at w there;
}

pub loop-place-preserved : goal.loop-place-preserved
loop-place-preserved c = record {
  none = λ i place w lt at there.
      let s = c.args.state.now in
      let places = c.args.writing.now in
      let n = c.loop-place.place-index in
      let P = λ (x : EventKey). CannotGiveBeside c.args.initial.now s c.args.before.now c.args.next.now c.args.first c.args.byte (At x) in
      one_more_any (λ j p. (x : EventKey) → slice_get s.arrived p ≡ Some x → P x) places n
      (λ p is x at_x. subst P (same_Some c.in-Some.key.now x (c.in-Some.ensures ∙ ap (slice_get s.arrived) (get_or_from_slice_get places n p 0 is) ∙ at_x)) (c.can_give_beside-in-loop-place.ensures c.if-can_give_beside-2.false))
      (λ j p below at_p x at_x. c.loop-place.invariant.none j p x below at_p at_x) i place lt at w there;
}

pub returns : goal.returns
returns c _ = by
  where
    at : ℕ
    at = c.args.next.now.address + c.args.byte

    by : (u : EventId) → IsSource c.args.state.now u → CannotGiveBeside c.args.initial.now c.args.state.now c.args.before.now c.args.next.now c.args.first c.args.byte u
    by Init _ = c.can_give_beside.ensures c.if-can_give_beside.false
    by (At w) source = left (byte_left c.args.state.now.log w at) refl
      where
        left : (o : Option ℕ) → byte_left c.args.state.now.log w at ≡ o → CannotGiveBeside c.args.initial.now c.args.state.now c.args.before.now c.args.next.now c.args.first c.args.byte (At w)
        left None is = inr (inl (λ same. none-some (byte_of c.args.next.now.read c.args.byte) (sym is ∙ same)))
        left (Some byte) is =
            let listed = c.requires.writing source.0 w byte source.2 is in
            all_below (λ j p. (x : EventKey) → slice_get c.args.state.now.arrived p ≡ Some x → CannotGiveBeside c.args.initial.now c.args.state.now c.args.before.now c.args.next.now c.args.first c.args.byte (At x)) c.args.writing.now c.loop-place.place-index c.loop-place-test.false
            (λ j p below at_p x at_x. c.loop-place.invariant.none j p x below at_p at_x) listed.0 source.0 listed.1 w source.2
