-- What the rules ask of the events of a log.
use Rattle.std.specs.Prelude.{◌≡◌, List, Option, Some, IsTrue, All, MatchOption}
use Rattle.wm_event.specs.declared.event.Event.{Event}
use Rattle.wm_event.specs.declared.event.EventKey.{EventKey}
use Rattle.wm_event.specs.declared.event.Range.{Range}
use Rattle.wm_event.specs.declared.log.ThreadLog.{ThreadLog}
use Rattle.wm_event.specs.Event.{is_atomic, range_of, writes}
use Rattle.wm_event.specs.Log.{event_in}
use Rattle.wm_event.specs.LoggedRun.{LoggedRun}
use Rattle.wm_witness.specs.declared.assumption.Assumption.{Assumption}
use Rattle.wm_witness.specs.declared.node.Node.{Node}
use Rattle.wm_witness.specs.declared.relation.Kind.TheVariants.{Happens, Stands}
use Rattle.wm_witness.specs.Always.{IsClosed}
use Rattle.wm_witness.specs.Choice.{IsTaken}
use Rattle.wm_witness.specs.Relations.{AreRows, IsPair, IsSynchronized}

-- u and r are atomic with equal ranges, so u synchronizes with r if r takes a byte from it
pub record CanSynchronize (log : List ThreadLog) (u r : EventKey) : Type 0 where
  pub writer : Event
  pub reader : Event
  pub is_writer : event_in log u ≡ Some writer
  pub is_reader : event_in log r ≡ Some reader
  pub writer_atomic : IsTrue (is_atomic writer)
  pub reader_atomic : IsTrue (is_atomic reader)
  pub ranges : range_of writer ≡ range_of reader

-- v is an atomic write of that range
pub record IsAtomicWriteOf (log : List ThreadLog) (v : EventKey) (range : Range) : Type 0 where
  pub event : Event
  pub is_event : event_in log v ≡ Some event
  pub atomic : IsTrue (is_atomic event)
  pub does_write : IsTrue (writes event)
  pub same_range : range_of event ≡ range

-- everything that is known at the node holds in all valid runs that keep the assumptions
pub record IsNode (run : LoggedRun) (assumed : List Assumption) (node : Node) : Type 0 where
  pub of_happens : node.happens.kind ≡ Happens
  pub of_stands : node.stands.kind ≡ Stands
  pub happens : AreRows run assumed node.happens.kind node.happens.rows.items
  pub stands : AreRows run assumed node.stands.kind node.stands.rows.items
  pub synchronized : All (IsSynchronized run assumed) node.synchronized.items
  pub ordered : All (IsPair run assumed Stands) node.ordered.items
  pub taken : All (IsTaken run assumed) node.taken.items

-- what is known; None if no valid run keeps the assumptions
abbrev pub IsSettled : LoggedRun → List Assumption → Option Node → Type 0
IsSettled run assumed result = MatchOption result (IsClosed run assumed) (IsNode run assumed)
