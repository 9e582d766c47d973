use Rattle.std.proofs.Common.{◌≡◌, ◌∙◌, rules}
use Rattle.std.proofs.lemmas.Fn.{always_returns_same}
use Rattle.std.proofs.lemmas.List.Sorted.{IsNonDecreasingBy-from_sort_by_key}
use Rattle.wm_event.specs.declared.writes.ByteWrite.{ByteWrite}
use Rattle.wm_event.proofs.WritesLemmas.{stable_at}
use Rattle.wm_event.proofs.atomic_writes.WidthIndex.of_order.Goals as goal

pub returns : goal.returns
returns c = record {
  rises = IsNonDecreasingBy-from_sort_by_key (λ (b : ByteWrite). b.address) _ c.in_ok-sort_by_key.ensures.sorted (λ a r q k. search rules);
  each = λ a. stable_at _ _ (c.in_ok-sort_by_key.ensures.stable (λ (b : ByteWrite). b.address) (always_returns_same _ (λ a r. r ≡ a.0.now.address) _ (λ a r q k. search rules))) a ∙ c.in_ok-entries.ensures a;
}
