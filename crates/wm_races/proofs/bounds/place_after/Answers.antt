use Rattle.std.proofs.Common.{arith}
use Rattle.wm_races.proofs.BoundLemmas.{listed_inside}
use Rattle.wm_races.proofs.CountLemmas.{order-few}
use Rattle.wm_races.proofs.bounds.place_after.Goals as goal

pub overflow_add-result : goal.overflow_add-result
overflow_add-result c =
    let run = c.args.candidate.now in
    let few = order-few run c.log-log.ensures.shape in
    let inside = listed_inside run.witness.order c.args.id c.in-Some.place c.in-Some.ensures.listed in
    omega (arith, few, inside)
