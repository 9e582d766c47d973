use Rattle.std.proofs.Common.{◌≡◌, List, length, subst, arith}
use Rattle.wm_witness.specs.declared.offers.Offer.{Offer}
use Rattle.wm_witness.proofs.WholeLaw.{AreLooked, none-of-all, offered, only-of-all}
use Rattle.wm_witness.proofs.whole.choice_of_all.Goals as goal

pub returns-in-None : goal.returns-in-None
returns-in-None c =
    let list : List Offer = c.of_read-offer-items.result.now in
    let all : list ≡ offered c.args.offers.now c.args.event.now = c.of_read-offer-items.ensures in
    let ended : c.loop-offer.offer-index ≡ length list = (let low = c.loop-offer-test.false in let high = c.loop-offer.auto.offer-index-end in omega (arith, low, high)) in
    let each : AreLooked c.args.start.now c.args.assumed.now c.args.event.now list (length list) c.loop-offer.found =
    subst (λ n. AreLooked c.args.start.now c.args.assumed.now c.args.event.now list n c.loop-offer.found) ended c.loop-offer.invariant in
    none-of-all c.args.start.now c.args.assumed.now c.args.event.now c.requires.event c.requires.free c.requires.whole c.args.offers.now c.requires.offers c.requires.init c.loop-offer.found
    (subst (λ (xs : List Offer). AreLooked c.args.start.now c.args.assumed.now c.args.event.now xs (length xs) c.loop-offer.found) all each)
    c.in-None.is

pub returns-in-Some : goal.returns-in-Some
returns-in-Some c =
    let list : List Offer = c.of_read-offer-items.result.now in
    let all : list ≡ offered c.args.offers.now c.args.event.now = c.of_read-offer-items.ensures in
    let ended : c.loop-offer.offer-index ≡ length list = (let low = c.loop-offer-test.false in let high = c.loop-offer.auto.offer-index-end in omega (arith, low, high)) in
    let each : AreLooked c.args.start.now c.args.assumed.now c.args.event.now list (length list) c.loop-offer.found =
    subst (λ n. AreLooked c.args.start.now c.args.assumed.now c.args.event.now list n c.loop-offer.found) ended c.loop-offer.invariant in
    only-of-all c.args.start.now c.args.assumed.now c.args.event.now c.requires.event c.requires.free c.requires.whole c.args.offers.now c.requires.offers c.requires.init c.loop-offer.found
    (subst (λ (xs : List Offer). AreLooked c.args.start.now c.args.assumed.now c.args.event.now xs (length xs) c.loop-offer.found) all each)
    c.in-Some.writer c.in-Some.is
