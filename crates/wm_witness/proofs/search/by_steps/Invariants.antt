-- What is left after the steps so far is in the frames, one on the other.
use Rattle.std.proofs.Common.{length}
use Rattle.wm_witness.specs.Search.{Searched, alternatives}
use Rattle.wm_witness.proofs.Frames.{AreStacked}
use Rattle.wm_witness.proofs.search.by_steps.Given as goal

abbrev pub invariant-loop-begun : goal.invariant-loop-begun
invariant-loop-begun l = record {
  searched : Searched l.start l.wanted l.begun (alternatives l.stack.assumed.items l.stack.frames.items);
  stacked : AreStacked 0 l.stack.frames.items (length l.stack.assumed.items);
}
