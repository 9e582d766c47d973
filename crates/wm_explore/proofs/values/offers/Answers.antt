use Rattle.std.proofs.Common.{◌≡◌, ℕ, List, get_or, Some, sym, ap, subst, ◌∙◌}
use Rattle.std.specs.Prelude.{is_none, option_and_then, slice_get}
use Rattle.std.proofs.lemmas.Option.{get_or_from_slice_get, none-some, same_Some}
use Rattle.wm_explore.specs.declared.values.Part.{Part}
use Rattle.wm_explore.specs.Values.{Adds, Has, IsSource, byte_left, is_new, left_at}
use Rattle.wm_explore.specs.Values.IsSource.{initially, left_by}
use Rattle.wm_explore.proofs.Items.{all_below, one_more_any}
use Rattle.wm_explore.proofs.values.offers.Goals.{in-None, in-Some+in_ok-add-in-Some}
use Rattle.wm_explore.proofs.values.offers.Goals as goal

pub loop-place-preserved : goal.loop-place-preserved
loop-place-preserved c =
    let s = c.args.state.now in
    let a = c.args.address in
    let mark = c.args.mark in
    let n = c.loop-place.place-index in
    let places = c.args.writing.now in
    let here = get_or places n 0 in
    let item : (place : ℕ) → slice_get places n ≡ Some place → here ≡ place = λ place is. get_or_from_slice_get places n place 0 is in
    let P : List Part → ℕ → ℕ → Type 0 = λ offers i place. (byte : ℕ) → left_at s place a ≡ Some byte → Has offers (record { value = byte; is_new = is_new place mark }) in
    elim c.match-left_at.branch [
      | in-None w ↦
          let same : c.match-left_at.offers ≡ c.loop-place.offers = w.offers-is in record {
            initially = λ byte is. subst (λ xs. Has xs (record { value = byte; is_new = is_none mark })) (sym same) (c.loop-place.invariant.initially byte is);
            left = λ i place byte lt is left.
                subst (λ xs. Has xs (record { value = byte; is_new = is_new place mark })) (sym same)
                (one_more_any (P c.loop-place.offers) places n (λ x there b by. absurd (none-some b (sym w.in-None.is ∙ c.left_at.ensures ∙ ap (λ p. left_at s p a) (item x there) ∙ by)))
                (λ j x below at_x b by. c.loop-place.invariant.left j x b below at_x by) i place lt is byte left);
          }
      | in-Some+in_ok-add-in-Some w ↦
          let same : c.match-left_at.offers ≡ w.add.new.parts = w.offers-is in
          let adds : Adds (record { value = w.in-Some.byte; is_new = is_new here mark }) c.loop-place.offers w.add.new.parts =
          subst (λ v. Adds (record { value = v; is_new = is_new here mark }) c.loop-place.offers w.add.new.parts) w.from-value.ensures
          (subst (λ b. Adds (record { value = w.from-value.result; is_new = b }) c.loop-place.offers w.add.new.parts) w.is_new-is_new.ensures w.in_ok-add-in-Some.ensures) in record {
            initially = λ byte is. subst (λ xs. Has xs (record { value = byte; is_new = is_none mark })) (sym same) (adds.kept (record { value = byte; is_new = is_none mark }) (c.loop-place.invariant.initially byte is));
            left = λ i place byte lt is left.
                subst (λ xs. Has xs (record { value = byte; is_new = is_new place mark })) (sym same)
                (one_more_any (P w.add.new.parts) places n
                (λ x there b by.
                let one : w.in-Some.byte ≡ b = same_Some w.in-Some.byte b (sym w.in-Some.is ∙ c.left_at.ensures ∙ ap (λ p. left_at s p a) (item x there) ∙ by) in
                subst (λ v. Has w.add.new.parts (record { value = v; is_new = is_new x mark })) one
                (subst (λ p. Has w.add.new.parts (record { value = w.in-Some.byte; is_new = is_new p mark })) (item x there) adds.added))
                (λ j x below at_x b by. adds.kept (record { value = b; is_new = is_new x mark }) (c.loop-place.invariant.left j x b below at_x by)) i place lt is byte left);
          }
    ]

pub returns : goal.returns
returns c = by
  where
    by : (p : Part) → IsSource c.args.state.now c.args.initial.now c.args.address c.args.mark p → Has c.loop-place.offers p
    by _ (initially byte is) = c.loop-place.invariant.initially byte is
    by _ (left_by place key byte is left) =
        let s = c.args.state.now in
        let a = c.args.address in
        let listed = c.requires place key byte is left in
        all_below (λ j x. (b : ℕ) → left_at s x a ≡ Some b → Has c.loop-place.offers (record { value = b; is_new = is_new x c.args.mark })) c.args.writing.now c.loop-place.place-index c.loop-place-test.false
        (λ j x below at_x b by. c.loop-place.invariant.left j x b below at_x by) listed.0 place listed.1 byte (ap (option_and_then (λ k. byte_left s.log k a)) is ∙ left)
