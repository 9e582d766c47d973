use Rattle.std.proofs.Common.{◌≡◌, true, false, leb, rules}
use Rattle.std.specs.List.Sorted.{IsPartitionPoint}
use Rattle.std.proofs.lemmas.List.Sorted.{IsPartitionPoint-from_clause, IsPartitionedBy-leb}
use borrow.Author.Tests.{leb-true, leb-false}
use Rattle.wm_witness.specs.declared.offers.Offer.{Offer}
use Rattle.wm_witness.proofs.offers.count_through.Goals as goal

pub returns-clause-parted : goal.returns-clause-parted
returns-clause-parted c =
    let parted : IsPartitionPoint (λ (o : Offer). leb o.number c.args.number ≡ true) (λ (o : Offer). leb o.number c.args.number ≡ false) c.args.offers.now c.partition_point.result =
    IsPartitionPoint-from_clause (λ (o : Offer). leb o.number c.args.number) c.args.offers.now c.partition_point.result c.partition_point.ensures.partitioned
    (IsPartitionedBy-leb (λ (o : Offer). o.number) c.args.offers.now c.args.number c.requires) (λ a r q k. search rules) in
    ((λ k d l h. leb-true _ _ (parted.0 k d l h)), (λ k d l h. leb-false _ _ (parted.1 k d l h)))
