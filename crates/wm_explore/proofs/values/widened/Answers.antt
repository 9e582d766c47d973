use Rattle.std.proofs.Common.{◌≡◌, ℕ, false, List, get_or, ap, subst, ◌∙◌}
use Rattle.std.proofs.lemmas.Option.{get_or_from_slice_get}
use Rattle.wm_explore.specs.declared.values.Part.{Part}
use Rattle.wm_explore.specs.Values.{Has, joined}
use Rattle.wm_explore.proofs.Items.{all_below, one_more_any}
use Rattle.wm_explore.proofs.values.widened.Goals as goal

-- the part that a loop is at
abbrev at : List Part → ℕ → Part
at parts n = get_or parts n (record { value = 0; is_new = false })

pub loop-offer-preserved : goal.loop-offer-preserved
loop-offer-preserved c =
    let part = at c.args.parts.now c.loop-part.part-index in
    let added = c.in_ok-add.ensures.added in
    let kept = c.in_ok-add.ensures.kept in record {
      before = λ i p q lt is has. kept (joined p q) (c.loop-offer.invariant.before i p q lt is has);
      here = λ j q lt is.
          one_more_any (λ i y. Has c.add.new.parts (joined part y)) c.args.offers.now c.loop-offer.offer-index
          (λ y there.
          let item : at c.args.offers.now c.loop-offer.offer-index ≡ y = get_or_from_slice_get c.args.offers.now c.loop-offer.offer-index y (record { value = 0; is_new = false }) there in
          subst (λ z. Has c.add.new.parts z) (c.joined.ensures ∙ ap (joined part) item) added)
          (λ i y below there. kept (joined part y) (c.loop-offer.invariant.here i y below there)) j q lt is;
    }

pub loop-part-preserved : goal.loop-part-preserved
loop-part-preserved c = record {
  before = λ i p q lt is has.
      one_more_any (λ j x. (y : Part) → Has c.args.offers.now y → Has c.loop-offer.wide (joined x y)) c.args.parts.now c.loop-part.part-index
      (λ x there y has_y.
      let item : at c.args.parts.now c.loop-part.part-index ≡ x = get_or_from_slice_get c.args.parts.now c.loop-part.part-index x (record { value = 0; is_new = false }) there in
      subst (λ z. Has c.loop-offer.wide (joined z y)) item
      (all_below (λ j z. Has c.loop-offer.wide (joined (at c.args.parts.now c.loop-part.part-index) z)) c.args.offers.now c.loop-offer.offer-index c.loop-offer-test.false
      (λ j z below at_z. c.loop-offer.invariant.here j z below at_z) has_y.0 y has_y.1))
      (λ j x below at_x y has_y. c.loop-offer.invariant.before j x y below at_x has_y) i p lt is q has;
}

pub returns : goal.returns
returns c p q has_p has_q =
    all_below (λ j x. (y : Part) → Has c.args.offers.now y → Has c.loop-part.wide (joined x y)) c.args.parts.now c.loop-part.part-index c.loop-part-test.false
    (λ j x below at_x y has_y. c.loop-part.invariant.before j x y below at_x has_y) has_p.0 p has_p.1 q has_q
