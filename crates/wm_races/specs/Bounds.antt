-- Places of the order before or after which the writes of a byte are ordered with an event.
use Rattle.std.specs.Prelude.{◌≡◌, ◌⊎◌, ℕ, ◌<◌, ◌≤◌, Some, IsTrue, slice_get, true}
use Rattle.wm_event.specs.declared.event.Event.{Event}
use Rattle.wm_event.specs.declared.event.EventKey.{EventKey}
use Rattle.wm_event.specs.declared.event.EventId.{EventId}
use Rattle.wm_event.specs.declared.event.EventId.TheVariants.{At}
use Rattle.wm_event.specs.Event.{key_of, writes}
use Rattle.wm_event.specs.HappensBefore.{HappensBefore}
use Rattle.wm_event.specs.LoggedRun.{LoggedRun, execution}
use Rattle.wm_event.specs.Writes.{writes_byte}

-- the listed write of a byte at a place, by a thread that P holds of
pub record IsWriteBy (run : LoggedRun) (P : ℕ → Type 0) (byte place : ℕ) (w : EventKey) : Type 0 where
  pub listed : slice_get run.witness.order place ≡ Some w
  pub by_thread : P w.thread
  pub written : writes_byte run.log byte w ≡ true

-- each such write before the place happens before the event
abbrev pub IsStart : LoggedRun → (ℕ → Type 0) → ℕ → EventId → ℕ → Type 0
IsStart run P byte event start = (n : ℕ) (w : EventKey) → n < start → IsWriteBy run P byte n w → HappensBefore (execution run) (At w) event

-- the event happens before each such write from the place on
abbrev pub IsEnd : LoggedRun → (ℕ → Type 0) → ℕ → EventId → ℕ → Type 0
IsEnd run P byte event end = (n : ℕ) (w : EventKey) → end ≤ n → IsWriteBy run P byte n w → HappensBefore (execution run) event (At w)

-- the event at a place writes, and its races are named by earlier writes, or it happens before each write of the byte from there on
abbrev pub IsEndFor : LoggedRun → (ℕ → Type 0) → Event → ℕ → ℕ → ℕ → Type 0
IsEndFor run P e place byte end = (IsTrue (writes e) × (end ≡ place)) ⊎ IsEnd run P byte (At (key_of e)) end
