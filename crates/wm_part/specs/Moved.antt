-- A run whose events are at lower addresses: part of the memory moved to address 0.
use Rattle.std.specs.Prelude.{◌≡◌, ℕ, ◌+◌, ◌-◌, ◌%◌, ◌≤◌, Some, drop, length, map, take}
use Rattle.wm_access.specs.AccessWidth.{bytes_of}
use Rattle.wm_event.specs.declared.event.Event.{Event}
use Rattle.wm_event.specs.declared.event.EventKey.{EventKey}
use Rattle.wm_event.specs.declared.log.ThreadLog.{ThreadLog}
use Rattle.wm_event.specs.Log.{event_in}
use Rattle.wm_event.specs.LoggedRun.{LoggedRun, execution}
use Rattle.wm_event.specs.Rules.{IsValid}
use Rattle.wm_event.specs.Shape.{IsWellShaped}

abbrev pub moved_event : ℕ → Event → Event
moved_event base e = record { thread = e.thread; number = e.number; kind = e.kind; order = e.order; address = e.address - base; width = e.width; read = e.read; written = e.written }

abbrev pub moved_thread : ℕ → ThreadLog → ThreadLog
moved_thread base thread = record { start = thread.start; end = thread.end; steps = thread.steps; events = map (moved_event base) thread.events }

-- the same events and witness over the count bytes of the memory from base on, which are at 0
abbrev pub moved : LoggedRun → ℕ → ℕ → LoggedRun
moved run base count = record { log = map (moved_thread base) run.log; witness = run.witness; initial = take count (drop base run.initial) }

-- each event accesses only these bytes
abbrev pub IsInside : LoggedRun → ℕ → ℕ → Type 0
IsInside run base count = (key : EventKey) (e : Event) → event_in run.log key ≡ Some e → (base ≤ e.address) × (e.address + bytes_of e.width ≤ base + count)

-- a valid run all of whose events are in one part of the memory is well shaped and valid once the part is moved to 0, if
-- the part begins at a multiple of 4
abbrev pub MovedIsValid : Type 0
MovedIsValid = (run : LoggedRun) (base count : ℕ) → IsWellShaped run → IsInside run base count → base % 4 ≡ 0 → base + count ≤ length run.initial
    → IsValid (execution run) → IsWellShaped (moved run base count) × IsValid (execution (moved run base count))
