use Rattle.wm_races.specs.Parts.{IsBeforeAt, IsNotBeforeAt}
use Rattle.wm_races.proofs.PartLemmas.{after_turns, parted}
use Rattle.wm_races.proofs.part.count_not_after.Goals as goal

pub turn_near-requires-clause-turns : goal.turn_near-requires-clause-turns
turn_near-requires-clause-turns c = after_turns c.args.before.now c.args.places.now c.requires c.args.place

pub returns : goal.returns
returns c =
    let run = c.args.before.now in
    parted (λ o. IsNotBeforeAt run c.args.place o) (λ o. IsBeforeAt run c.args.place o) c.args.places.now c.turn_near.result c.turn_near.ensures
