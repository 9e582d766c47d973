use Rattle.wm_races.specs.Parts.{IsBeforeAt, IsNotBeforeAt}
use Rattle.wm_races.proofs.PartLemmas.{before_turns, parted}
use Rattle.wm_races.proofs.part.count_before.Goals as goal

pub turn_near-requires-clause-turns : goal.turn_near-requires-clause-turns
turn_near-requires-clause-turns c = before_turns c.args.before.now c.args.places.now c.requires c.args.place

pub returns : goal.returns
returns c =
    let run = c.args.before.now in
    parted (λ o. IsBeforeAt run o c.args.place) (λ o. IsNotBeforeAt run o c.args.place) c.args.places.now c.turn_near.result c.turn_near.ensures
