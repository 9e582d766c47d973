-- The nodes of a picture.
use Rattle.std.specs.Prelude.{◌≡◌, ◌↔◌, ◌⊎◌, List, Option, None, Some, IsTrue, map}
use Rattle.wm_event.specs.declared.event.Event.{Event}
use Rattle.wm_event.specs.declared.event.EventId.{EventId}
use Rattle.wm_event.specs.declared.event.EventId.TheVariants.{Init, At}
use Rattle.wm_event.specs.declared.log.ThreadLog.{ThreadLog}
use Rattle.wm_event.specs.Event.{key_of}
use Rattle.wm_graph.specs.declared.columns.Column.{Column}
use Rattle.wm_check.specs.declared.verdict.Breach.{Breach}
use Rattle.wm_check.specs.declared.verdict.Breach.TheVariants.{Replay, Rule}
use Rattle.wm_replay.specs.declared.answer.ReplayAnswer.TheVariants.{Differs}
use Rattle.wm_replay.specs.declared.answer.Place.TheVariants as place
use Rattle.wm_graph.specs.declared.columns.Node.{Node}

-- the events that have a node in a column, from the top
abbrev pub events_of : Column → List Event
events_of column = map (λ node. node.event) column.nodes

-- each thread has a column, and each of its events a node there, both in order and once; there is no other node
abbrev pub AreColumnsOf : List ThreadLog → List Column → Type 0
AreColumnsOf log columns = map events_of columns ≡ map (λ thread. thread.events) log

-- the events that what was found broken names, which are drawn in another colour: those of a fault, or the one at which a thread
-- differs from its log
abbrev pub IsMarked : Option Breach → EventId → Type 0
IsMarked None id = ⊥
IsMarked (Some (Rule fault)) id = (id ≡ At fault.event) ⊎ ((id ≡ fault.writer) ⊎ (fault.other ≡ Some id))
IsMarked (Some (Replay answer)) Init = ⊥
IsMarked (Some (Replay answer)) (At key) = answer ≡ Differs key.thread (place.Event key.number)

-- a node is marked exactly if its event is
abbrev pub IsMarkedBy : Option Breach → Node → Type 0
IsMarkedBy breach node = IsTrue node.is_marked ↔ IsMarked breach (At (key_of node.event))
