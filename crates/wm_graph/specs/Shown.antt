-- The events that a picture shows.
use Rattle.std.specs.Prelude.{◌≡◌, ℕ, List, Bool, Some, true, MatchOption, option_and_then, slice_get, ⊤}
use Rattle.wm_event.specs.declared.event.EventKey.{EventKey}
use Rattle.wm_graph.specs.declared.shown.Shown.{Shown}

-- up to this number of events, all are shown
abbrev pub max_shown : ℕ
max_shown = 60

-- the mark of an event is set; marks are by thread and number
abbrev pub IsMarkedIn : List (List Bool) → EventKey → Type 0
IsMarkedIn marks key = option_and_then (λ (events : List Bool). slice_get events key.number) (slice_get marks key.thread) ≡ Some true

-- a listed event is shown: all are, or it is marked
abbrev pub IsShown : Shown → EventKey → Type 0
IsShown shown key = MatchOption shown.marks ⊤ (λ marks. IsMarkedIn marks.items key)

abbrev pub ShowsAll : Shown → Type 0
ShowsAll shown = (key : EventKey) → IsShown shown key
