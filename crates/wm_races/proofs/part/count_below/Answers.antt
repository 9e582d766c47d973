use Rattle.std.proofs.Common.{ltb, rules}
use Rattle.std.proofs.lemmas.List.Sorted.{IsPartitionPoint-from_clause, IsPartitionedBy-ltb}
use Rattle.wm_races.proofs.PartLemmas.{rise, parted_below}
use Rattle.wm_races.proofs.part.count_below.Goals as goal

pub returns : goal.returns
returns c =
    let point = IsPartitionPoint-from_clause (λ o. ltb o c.args.place) c.args.places.now c.partition_point.result c.partition_point.ensures.partitioned
    (IsPartitionedBy-ltb (λ o. o) c.args.places.now c.args.place (rise c.args.places.now c.requires)) (λ a r q k. search rules) in
    parted_below c.args.places.now c.args.place c.partition_point.result c.partition_point.ensures.bound point
