use Rattle.std.proofs.Common.{◌≡◌, ◌-◌}
use Rattle.wm_decode.specs.ReadingVectors.{items_at}
use Rattle.wm_decode.proofs.VectorLoop.{found_before}
use Rattle.wm_decode.proofs.vectors.items.Given as goal

abbrev pub invariant-loop : goal.invariant-loop
invariant-loop g l = found_before l.found (items_at g.T.Item.item_at (l.count - l.counter) l.rest) ≡ items_at g.T.Item.item_at l.count l.bytes
