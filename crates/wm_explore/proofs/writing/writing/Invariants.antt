-- The places before the one that is next are listed, if their events write a byte of the access.
use Rattle.std.proofs.Common.{◌≡◌, ℕ, ◌+◌, ◌<◌, Some}
use Rattle.std.specs.Prelude.{slice_get}
use Rattle.wm_access.specs.AccessWidth.{bytes_of}
use Rattle.wm_event.specs.declared.event.EventKey.{EventKey}
use Rattle.wm_explore.specs.Values.{Has, byte_left}
use Rattle.wm_explore.proofs.writing.writing.Given as goal

abbrev pub invariant-loop-place : goal.invariant-loop-place
invariant-loop-place l = record {
  listed : (i : ℕ) (key : EventKey) (k byte : ℕ) → i < l.place → k < bytes_of l.op.width → slice_get l.state.arrived i ≡ Some key
      → byte_left l.state.log key (l.op.address + k) ≡ Some byte → Has l.places i;
}
