use Rattle.std.proofs.Common.{rules}
use Rattle.std.proofs.lemmas.List.Sorted.{Contains-permutation, IsNonDecreasingBy-from_sort_by_key}
use Rattle.wm_witness.specs.declared.offers.Offer.{Offer}
use Rattle.wm_witness.specs.Offers.{number_of}
use Rattle.wm_witness.proofs.offers.Offers.of.Goals as goal

pub returns : goal.returns
returns c = record {
  rises = IsNonDecreasingBy-from_sort_by_key (λ (o : Offer). o.number) _ c.in_ok-sort_by_key.ensures.sorted (λ a r q k. search rules);
  filed = λ key e at does. Contains-permutation _ _ (record { number = number_of e.address e.written; writer = key }) c.in_ok-sort_by_key.ensures.permutation (c.in_ok-writes.ensures key e at does);
  wholes = c.in_ok-wholes.ensures;
}
