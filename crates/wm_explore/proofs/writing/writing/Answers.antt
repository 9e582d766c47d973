use Rattle.std.proofs.Common.{◌≡◌, ℕ, ◌+◌, ◌<◌, ◌≤◌, List, [], ◌∷◌, ◌++◌, get_or, length, Option, None, Some, refl, sym, ap, subst, ◌∙◌}
use Rattle.std.specs.Prelude.{option_and_then, slice_get}
use Rattle.std.proofs.lemmas.Option.{get_or_from_slice_get, none-some}
use Rattle.wm_access.specs.AccessWidth.{bytes_of}
use Rattle.wm_event.specs.Event.{byte_written}
use Rattle.wm_event.specs.Log.{event_in}
use Rattle.wm_event.specs.declared.event.Event.{Event}
use Rattle.wm_event.specs.declared.event.EventKey.{EventKey}
use Rattle.wm_event.specs.declared.log.ThreadLog.{ThreadLog}
use Rattle.wm_event.specs.declared.op.OpFields.{OpFields}
use Rattle.wm_explore.specs.Values.{Has, byte_left}
use Rattle.wm_explore.specs.Writing.{WritesNone}
use Rattle.wm_explore.proofs.Items.{all_below, one_more_any}
use Rattle.wm_explore.proofs.Lists.{kept_pushed, last_pushed}
use Rattle.wm_explore.proofs.writing.writing.Goals as goal

-- an event that writes no byte of the access leaves none
leaves_none : (log : List ThreadLog) (key : EventKey) (op : OpFields) → ((e : Event) → event_in log key ≡ Some e → WritesNone op e) → (k byte : ℕ) → k < bytes_of op.width → byte_left log key (op.address + k) ≡ Some byte → ⊥
leaves_none log key op none k byte within left = by (event_in log key) refl left
  where
    by : (o : Option Event) → event_in log key ≡ o → option_and_then (λ e. byte_written e (op.address + k)) o ≡ Some byte → ⊥
    by None _ is = none-some byte is
    by (Some e) at is = none-some byte (sym (none e at k within) ∙ is)

pub loop-place-preserved-then-not-is_writer : goal.loop-place-preserved-then-not-is_writer
loop-place-preserved-then-not-is_writer c = record {
  listed = λ i key k byte lt within at left.
      let s = c.args.state.now in
      let op = c.args.op in
      let n = c.loop-place.place in
      let items = c.as_slice-arrived.result.now in
      one_more_any (λ j x. (b : ℕ) → byte_left s.log x (op.address + k) ≡ Some b → Has c.loop-place.places j) s.arrived n
      (λ x is b by.
      let item : get_or items n (record { thread = 0; number = 0 }) ≡ x = get_or_from_slice_get items n x (record { thread = 0; number = 0 }) (ap (λ xs. slice_get xs n) c.as_slice-arrived.ensures ∙ is) in
      absurd (leaves_none s.log x op (λ e at_e. c.is_writer.ensures c.if-not-is_writer.true e (ap (event_in s.log) item ∙ at_e)) k b within by))
      (λ j x below at_x b by. c.loop-place.invariant.listed j x k b below within at_x by) i key lt at byte left;
}

pub loop-place-preserved : goal.loop-place-preserved
loop-place-preserved c = record {
  listed = λ i key k byte lt within at left.
      let s = c.args.state.now in
      let op = c.args.op in
      let n = c.loop-place.place in
      let old = c.loop-place.places in
      let has : (j : ℕ) → Has (old ++ n ∷ []) j → Has c.push.new.self j = λ j. subst (λ xs. Has xs j) (sym c.in_ok-push.ensures.ok) in
      one_more_any (λ j x. (b : ℕ) → byte_left s.log x (op.address + k) ≡ Some b → Has c.push.new.self j) s.arrived n
      (λ x is b by. has n (length old, last_pushed old n))
      (λ j x below at_x b by. let there = c.loop-place.invariant.listed j x k b below within at_x by in has j (there.0, kept_pushed old n there.0 j there.1)) i key lt at byte left;
}

pub returns : goal.returns
returns c k within place key byte at left =
    let s = c.args.state.now in
    all_below (λ j x. (b : ℕ) → byte_left s.log x (c.args.op.address + k) ≡ Some b → Has c.loop-place.places j) s.arrived c.loop-place.place
    (subst (λ xs. length xs ≤ c.loop-place.place) c.as_slice-arrived.ensures c.loop-place-test.false) (λ j x below at_x b by. c.loop-place.invariant.listed j x k b below within at_x by) place key at byte left
