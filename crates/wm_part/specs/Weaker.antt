-- Statements that don't hold; each leaves out of a law what makes it one. The must-fail edits put them in the laws' places.
use Rattle.std.specs.Prelude.{◌≡◌, ◌↔◌, ℕ, ◌+◌, ◌≤◌, Bool, Some, IsTrue, length}
use Rattle.wm_event.specs.declared.event.Event.{Event}
use Rattle.wm_event.specs.declared.event.EventKey.{EventKey}
use Rattle.wm_event.specs.declared.event.EventId.{EventId}
use Rattle.wm_event.specs.declared.event.EventId.TheVariants.{At}
use Rattle.wm_event.specs.Execution.{Execution}
use Rattle.wm_event.specs.HappensBefore.{HappensBefore}
use Rattle.wm_event.specs.Log.{event_in}
use Rattle.wm_event.specs.LoggedRun.{LoggedRun, execution}
use Rattle.wm_event.specs.Rules.{IsValid}
use Rattle.wm_event.specs.Shape.{IsWellShaped}
use Rattle.wm_part.specs.Cut.{cut}
use Rattle.wm_part.specs.Moved.{IsInside, moved}
use Rattle.wm_part.specs.Part.{HasItsPast, HasItsWriters, IsWithin, events_in, part}
use Rattle.wm_part.specs.Pick.{new_key, pick, with_number}

-- any execution is valid if some execution is
abbrev pub AnyIsValid : Type 0
AnyIsValid = (y x : Execution) → IsValid x → IsValid y

-- a part is valid without the writers of its bytes
abbrev pub PartsNeedNoWriters : Type 0
PartsNeedNoWriters = (x : Execution) (D : EventKey → Bool) → IsValid x → IsValid (part x D)

-- without the writers a part of a valid execution may not be valid
abbrev pub WritersAreNeeded : Type 0
WritersAreNeeded = (x : Execution) × (D : EventKey → Bool) × IsValid x × HasItsPast x D × (IsValid (part x D) → ⊥)

-- a part keeps happens-before without its past
abbrev pub PartsNeedNoPast : Type 0
PartsNeedNoPast = (x : Execution) (D : EventKey → Bool) → HasItsWriters x D
    → (a : EventId) (b : EventKey) → IsTrue (D b) → HappensBefore x a (At b) ↔ HappensBefore (part x D) a (At b)

-- a cut is valid without the writers of its bytes
abbrev pub CutsNeedNoWriters : Type 0
CutsNeedNoWriters = (run : LoggedRun) (n : ℕ → ℕ) → IsWellShaped run → IsValid (execution run) → IsWellShaped (cut run n) × IsValid (execution (cut run n))

-- a pick is valid without the writers of its bytes
abbrev pub PicksNeedNoWriters : Type 0
PicksNeedNoWriters = (run : LoggedRun) (D : EventKey → Bool) → IsWellShaped run → IsValid (execution run) → IsWellShaped (pick run D) × IsValid (execution (pick run D))

-- the part at some addresses is valid, although events also access others
abbrev pub InstancesMayOverlap : Type 0
InstancesMayOverlap = (run : LoggedRun) (A : ℕ → Bool) → IsWellShaped run → IsValid (execution run)
    → HasItsWriters (execution run) (events_in (execution run) A) × IsValid (part (execution run) (events_in (execution run) A))

-- the same, renumbered
abbrev pub InstanceRunsMayOverlap : Type 0
InstanceRunsMayOverlap = (run : LoggedRun) (A : ℕ → Bool) → IsWellShaped run → IsValid (execution run)
    → IsWellShaped (pick run (events_in (execution run) A)) × IsValid (execution (pick run (events_in (execution run) A)))

-- any well-shaped run is valid if some run is
abbrev pub AnyPieceIsValid : Type 0
AnyPieceIsValid = (one run : LoggedRun) → IsWellShaped one → IsValid (execution run) → IsValid (execution one)

-- each event of the run is in the pick
abbrev pub PickHasAllEvents : Type 0
PickHasAllEvents = (run : LoggedRun) (D : EventKey → Bool) → IsWellShaped run → HasItsWriters (execution run) D → (key : EventKey) (e : Event)
    → event_in run.log key ≡ Some e → event_in (pick run D).log (new_key D key) ≡ Some (with_number (new_key D key).number e)

-- an event of the pick is the event of that number in the run
abbrev pub PickKeepsNumbers : Type 0
PickKeepsNumbers = (run : LoggedRun) (D : EventKey → Bool) → IsWellShaped run → HasItsWriters (execution run) D → (key : EventKey) (e : Event)
    → event_in (pick run D).log key ≡ Some e → event_in run.log key ≡ Some e

-- the pick lies within the run, each event under its new number
abbrev pub PickLiesUnderNewNumbers : Type 0
PickLiesUnderNewNumbers = (run : LoggedRun) (D : EventKey → Bool) → IsWellShaped run → HasItsWriters (execution run) D
    → IsWithin (execution (pick run D)) (execution run) 0 (λ key. key)

-- a part may be moved from any address
abbrev pub MovesNeedNoAlignment : Type 0
MovesNeedNoAlignment = (run : LoggedRun) (base count : ℕ) → IsWellShaped run → IsInside run base count → base + count ≤ length run.initial
    → IsValid (execution run) → IsWellShaped (moved run base count) × IsValid (execution (moved run base count))
