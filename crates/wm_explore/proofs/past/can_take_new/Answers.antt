use Rattle.std.proofs.Common.{◌≡◌, ℕ, ◌+◌, ◌<◌, ◌≤◌, get_or, Option, None, Some, inl, refl, sym, ap, subst, ◌∙◌, arith}
use Rattle.std.specs.Prelude.{slice_get}
use Rattle.std.proofs.lemmas.Option.{get_or_from_slice_get, none-some, same_Some}
use Rattle.wm_access.specs.AccessWidth.{bytes_of}
use Rattle.wm_event.specs.Byte.{byte_of}
use Rattle.wm_event.specs.declared.event.EventId.TheVariants.{At}
use Rattle.wm_event.specs.declared.event.EventKey.{EventKey}
use Rattle.wm_explore.specs.Past.{CannotTake, TakesNothing}
use Rattle.wm_explore.specs.Values.{byte_left}
use Rattle.wm_explore.proofs.Items.{all_below, one_more_any}
use Rattle.wm_explore.proofs.past.can_take_new.Goals as goal

pub loop-place-preserved-then-place-count : goal.loop-place-preserved-then-place-count
loop-place-preserved-then-place-count c = record {
  none = λ i place w lt at new there.
      let s = c.args.state.now in
      one_more_any (λ j p. (x : EventKey) → c.args.count ≤ p → slice_get s.arrived p ≡ Some x → TakesNothing c.args.initial.now s c.args.before.now c.args.next.now (At x)) c.args.writing.now c.loop-place.place-index
      (λ p is x newer at_x.
      let item : get_or c.args.writing.now c.loop-place.place-index 0 ≡ p = get_or_from_slice_get c.args.writing.now c.loop-place.place-index p 0 is in
      let older = c.if-place-count.true in
      absurd (omega (arith, item, older, newer)))
      (λ j p below at_p x newer at_x. c.loop-place.invariant.none j p x below at_p newer at_x) i place lt at w new there;
}

pub loop-place-preserved-in_default : goal.loop-place-preserved-in_default
loop-place-preserved-in_default c = record {
  none = λ i place w lt at new there.
      let s = c.args.state.now in
      one_more_any (λ j p. (x : EventKey) → c.args.count ≤ p → slice_get s.arrived p ≡ Some x → TakesNothing c.args.initial.now s c.args.before.now c.args.next.now (At x)) c.args.writing.now c.loop-place.place-index
      (λ p is x newer at_x. absurd (none-some x (c.in_default.ensures ∙ ap (slice_get s.arrived) (get_or_from_slice_get c.args.writing.now c.loop-place.place-index p 0 is) ∙ at_x)))
      (λ j p below at_p x newer at_x. c.loop-place.invariant.none j p x below at_p newer at_x) i place lt at w new there;
}

pub loop-place-preserved : goal.loop-place-preserved
loop-place-preserved c = record {
  none = λ i place w lt at new there.
      let s = c.args.state.now in
      let P = λ (x : EventKey). TakesNothing c.args.initial.now s c.args.before.now c.args.next.now (At x) in
      one_more_any (λ j p. (x : EventKey) → c.args.count ≤ p → slice_get s.arrived p ≡ Some x → P x) c.args.writing.now c.loop-place.place-index
      (λ p is x newer at_x. subst P (same_Some c.in-Some.key.now x (c.in-Some.ensures ∙ ap (slice_get s.arrived) (get_or_from_slice_get c.args.writing.now c.loop-place.place-index p 0 is) ∙ at_x)) (c.can_take_any.ensures c.if-can_take_any.false))
      (λ j p below at_p x newer at_x. c.loop-place.invariant.none j p x below at_p newer at_x) i place lt at w new there;
}

pub returns : goal.returns
returns c _ i w new at = λ k within. by k within (byte_left c.args.state.now.log w (c.args.next.now.address + k)) refl
  where
    by : (k : ℕ) → k < bytes_of c.args.next.now.width → (o : Option ℕ) → byte_left c.args.state.now.log w (c.args.next.now.address + k) ≡ o
        → CannotTake c.args.initial.now c.args.state.now c.args.before.now c.args.next.now k (At w)
    by k within None is = inl (inl (λ same. none-some (byte_of c.args.next.now.read k) (sym is ∙ same)))
    by k within (Some byte) is =
        let s = c.args.state.now in
        let listed = c.requires k within i w byte at is in
        all_below (λ j p. (x : EventKey) → c.args.count ≤ p → slice_get s.arrived p ≡ Some x → TakesNothing c.args.initial.now s c.args.before.now c.args.next.now (At x)) c.args.writing.now c.loop-place.place-index c.loop-place-test.false
        (λ j p below at_p x newer at_x. c.loop-place.invariant.none j p x below at_p newer at_x) listed.0 i listed.1 w new at k within
