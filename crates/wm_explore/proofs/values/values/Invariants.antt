use Rattle.std.proofs.Common.{ℕ, ◌+◌, ◌<◌}
use Rattle.wm_access.specs.AccessWidth.{bytes_of}
use Rattle.wm_explore.specs.declared.values.Part.{Part}
use Rattle.wm_explore.specs.Values.{Has, IsSource, highest}
use Rattle.wm_explore.proofs.values.values.Given as goal

abbrev pub invariant-loop-done : goal.invariant-loop-done
invariant-loop-done l = record {
  highest : (bytes : ℕ → Part) → ((k : ℕ) → k < bytes_of l.op.width → IsSource l.state l.initial' (l.op.address + k) l.mark (bytes k))
      → Has l.parts (highest bytes l.mark (bytes_of l.op.width) l.done);
}
