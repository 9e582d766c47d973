-- Which events write a byte of an access.
use Rattle.std.specs.Prelude.{◌≡◌, ℕ, ◌+◌, ◌<◌, List, None, Some, slice_get}
use Rattle.wm_access.specs.AccessWidth.{bytes_of}
use Rattle.wm_access.specs.declared.AccessWidth.{AccessWidth}
use Rattle.wm_event.specs.Event.{byte_written}
use Rattle.wm_event.specs.declared.event.Event.{Event}
use Rattle.wm_event.specs.declared.event.EventKey.{EventKey}
use Rattle.wm_event.specs.declared.op.OpFields.{OpFields}
use Rattle.wm_explore.specs.Values.{Has, byte_left}
use Rattle.wm_explore.specs.declared.state.State.{State}

abbrev pub WritesNone : OpFields → Event → Type 0
WritesNone op e = (byte : ℕ) → byte < bytes_of op.width → byte_written e (op.address + byte) ≡ None

-- the places are listed at which those events arrived that write the address
abbrev pub ListsAt : State → ℕ → List ℕ → Type 0
ListsAt s a places = (place : ℕ) (key : EventKey) (byte : ℕ) → slice_get s.arrived place ≡ Some key → byte_left s.log key a ≡ Some byte → Has places place

-- those that write a byte of an access
abbrev pub ListsWriting : State → ℕ → AccessWidth → List ℕ → Type 0
ListsWriting s address width places = (k : ℕ) → k < bytes_of width → ListsAt s (address + k) places
