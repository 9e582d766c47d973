-- None so far.
use Rattle.std.specs.Prelude.{◌≡◌, ℕ, ◌+◌, ◌<◌, None}
use Rattle.wm_event.specs.Event.{byte_written}
use Rattle.wm_explore.proofs.asking.gives.Given as goal

abbrev pub invariant-loop-byte : goal.invariant-loop-byte
invariant-loop-byte l = record {
  none : (i : ℕ) → i < l.byte → byte_written l.writer (l.reader.address + i) ≡ None;
}
