-- What is asked of a witness in which each event takes its bytes only from events that arrived before it.
use Rattle.std.specs.Prelude.{◌≡◌, ℕ, ◌+◌, ◌<◌, ◌≤◌, List, Some, IsSome, All, slice_get}
use Rattle.wm_event.specs.Event.{byte_written}
use Rattle.wm_event.specs.Log.{event_in}
use Rattle.wm_event.specs.Shape.{read_width}
use Rattle.wm_event.specs.declared.event.Event.{Event}
use Rattle.wm_event.specs.declared.event.EventKey.{EventKey}
use Rattle.wm_event.specs.declared.log.ThreadLog.{ThreadLog}
use Rattle.wm_explore.specs.Values.{Has}
use Rattle.wm_witness.specs.declared.assumption.Assumption.{Assumption}
use Rattle.wm_witness.specs.declared.assumption.Assumption.TheVariants.{TakesNone}

-- f writes a byte that e reads
abbrev pub Gives : Event → Event → Type 0
Gives f e = (k : ℕ) × (k < read_width e) × IsSome (byte_written f (e.address + k))

-- it asks that an event takes nothing from one that did not arrive before it
pub record AsksBack (log : List ThreadLog) (arrived : List EventKey) (a : Assumption) : Type 0 where
  pub reader : EventKey
  pub writer : EventKey
  pub i : ℕ
  pub j : ℕ
  pub no_earlier : i ≤ j
  pub reads_at : slice_get arrived i ≡ Some reader
  pub writes_at : slice_get arrived j ≡ Some writer
  pub there : IsSome (event_in log reader)
  pub asks : a ≡ TakesNone reader writer

-- it is asked that the event at place i takes nothing from the one at place j, if that one writes a byte that it reads
abbrev pub IsAsked : List ThreadLog → List EventKey → List Assumption → ℕ → ℕ → Type 0
IsAsked log arrived wanted i j = (r w : EventKey) (e f : Event) → slice_get arrived i ≡ Some r → slice_get arrived j ≡ Some w → event_in log r ≡ Some e → event_in log w ≡ Some f → Gives f e
    → Has wanted (TakesNone r w)

-- it is asked that each event looks back, and nothing else
pub record AskAll (log : List ThreadLog) (arrived : List EventKey) (wanted : List Assumption) : Type 0 where
  pub only : All (AsksBack log arrived) wanted
  pub all : (i j : ℕ) → i ≤ j → IsAsked log arrived wanted i j

-- all that was asked still is, and what is new asks to look back
pub record AsksMore (log : List ThreadLog) (arrived : List EventKey) (old new : List Assumption) : Type 0 where
  pub kept : (a : Assumption) → Has old a → Has new a
  pub only : All (AsksBack log arrived) old → All (AsksBack log arrived) new

-- the event at place i is asked to take nothing from the one at place j
abbrev pub AddsAsked : List ThreadLog → List EventKey → ℕ → ℕ → List Assumption → List Assumption → Type 0
AddsAsked log arrived i j old new = AsksMore log arrived old new × IsAsked log arrived new i j

-- nor from any that did not arrive before it
abbrev pub AddsFor : List ThreadLog → List EventKey → ℕ → List Assumption → List Assumption → Type 0
AddsFor log arrived i old new = AsksMore log arrived old new × ((j : ℕ) → i ≤ j → IsAsked log arrived new i j)
