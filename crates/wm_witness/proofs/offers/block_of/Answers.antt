use Rattle.std.proofs.Common.{List, ◌<◌, ◌≤◌, subst}
use Rattle.std.specs.List.Sorted.{IsPartitionPoint}
use Rattle.wm_event.proofs.WritesLemmas.{block, whole_rest}
use Rattle.wm_witness.specs.declared.offers.Offer.{Offer}
use Rattle.wm_witness.proofs.offers.block_of.Goals as goal

pub returns-clause-block : goal.returns-clause-block
returns-clause-block c =
    let parted = subst (λ (xs : List Offer). IsPartitionPoint (λ (o : Offer). o.number ≤ c.args.number) (λ (o : Offer). c.args.number < o.number) xs c.count_through.result)
    (whole_rest c.args.offers.now c.count_below-start.result) c.count_through.ensures.parted in
    block (λ (o : Offer). o.number) c.args.offers.now c.args.number c.count_below-start.result c.count_through.result c.count_below-start.ensures.bound
    c.count_below-start.ensures.parted.0 c.count_below-start.ensures.parted.1 parted.0 parted.1
