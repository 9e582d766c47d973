use Rattle.std.proofs.Common.{◌≡◌, arith}
use Rattle.std.proofs.lemmas.Grind.{common_steps}
use Rattle.wm_graph.proofs.CycleLaws.{joined_ways}
use Rattle.wm_graph.proofs.ways.Ways.join.Goals as goal

pub returns-then-eq : goal.returns-then-eq
returns-then-eq c =
    let one = c.in-Some-Some.one in
    let other = c.in-Some-Some.other in
    let here : one.to ≡ other.first.from = grind (arith, common_steps) in
    λ x ways. c.add.ensures x ways (joined_ways x one other _ (c.in-Some-Some.ensures x ways) (c.in-Some-Some.ensures' x ways) here)
