use Rattle.std.proofs.Common.{◌≡◌, ◌≤◌, get_or, length, Some, refl, ap, subst, ◌∙◌}
use Rattle.std.specs.Prelude.{slice_get}
use Rattle.std.proofs.lemmas.Option.{get_or_from_slice_get}
use Rattle.wm_event.specs.declared.event.Event.{Event}
use Rattle.wm_event.specs.Log.{event_in}
use Rattle.wm_explore.specs.Writing.{WritesNone}
use Rattle.wm_explore.proofs.Items.{all_below, one_more_any}
use Rattle.wm_explore.proofs.turn.has_new.Goals as goal

pub loop-place-preserved : goal.loop-place-preserved
loop-place-preserved c = record {
  none = λ i key e lt from at there.
      let arrived = c.args.state.now.arrived in
      let items = c.as_slice-arrived.result.now in
      let n = c.loop-place.place in
      one_more_any (λ j x. (f : Event) → c.args.count ≤ j → event_in c.args.state.now.log x ≡ Some f → WritesNone c.args.op f) arrived n
      (λ x is f _ writes.
      let item : get_or items n (record { thread = 0; number = 0 }) ≡ x = get_or_from_slice_get items n x (record { thread = 0; number = 0 }) (ap (λ xs. slice_get xs n) c.as_slice-arrived.ensures ∙ is) in
      c.if-is_writer.ensures refl f (ap (λ k. event_in c.args.state.now.log k) item ∙ writes))
      (λ j x lt at f from there. c.loop-place.invariant.none j x f lt from at there) i key lt at e from there;
}

pub returns : goal.returns
returns c _ i key e from at there =
    let s = c.args.state.now in
    all_below (λ j x. (f : Event) → c.args.count ≤ j → event_in s.log x ≡ Some f → WritesNone c.args.op f) s.arrived c.loop-place.place
    (subst (λ xs. length xs ≤ c.loop-place.place) c.as_slice-arrived.ensures c.loop-place-test.false) (λ j x lt at f from there. c.loop-place.invariant.none j x f lt from at there) i key at e from there
