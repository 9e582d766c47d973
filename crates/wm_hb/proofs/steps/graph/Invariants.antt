use Rattle.std.proofs.Common.{◌≡◌, ◌<◌, ℕ, length}
use Rattle.wm_event.specs.declared.event.EventKey.{EventKey}
use Rattle.wm_hb.specs.Steps.{StandsAt, AreSources}
use Rattle.wm_closure.specs.Graph.{sources_of}
use Rattle.wm_hb.proofs.steps.graph.Given as goal

abbrev pub invariant-loop-key : goal.invariant-loop-key
invariant-loop-key l = record {
  items : l.key-items ≡ l.candidate.witness.order;
  size : length l.graph.items ≡ l.key-index;
  edges : (n : ℕ) (r : EventKey) → n < l.key-index → StandsAt l.candidate n r → AreSources l.candidate r (sources_of l.graph.items n);
}
