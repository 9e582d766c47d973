-- What happens before an event, or comes before it in the order, in all valid runs that keep the assumptions.
use Rattle.std.specs.Prelude.{◌≡◌, ℕ, ◌<◌, List, All, IsSome, get_or, length, slice_index_or}
use Rattle.wm_event.specs.declared.event.EventKey.{EventKey}
use Rattle.wm_event.specs.declared.event.EventId.TheVariants.{At}
use Rattle.wm_event.specs.Execution.{place}
use Rattle.wm_event.specs.HappensBefore.{HappensBefore, SynchronizesWith}
use Rattle.wm_event.specs.Log.{event_in}
use Rattle.wm_event.specs.LoggedRun.{LoggedRun, execution}
use Rattle.wm_witness.specs.declared.assumption.Assumption.{Assumption}
use Rattle.wm_witness.specs.declared.row.Row.{Row}
use Rattle.wm_witness.specs.declared.relation.Kind.{Kind}
use Rattle.wm_witness.specs.declared.relation.Kind.TheVariants.{Happens, Stands}
use Rattle.wm_witness.specs.declared.relation.Pair.{Pair}
use Rattle.wm_witness.specs.Always.{Always}

-- a happens before b, or stands before it in the order
abbrev pub Relates : Kind → LoggedRun → EventKey → EventKey → Type 0
Relates Happens x a b = HappensBefore (execution x) (At a) (At b)
Relates Stands x a b = place (execution x) (At a) < place (execution x) (At b)

abbrev pub AlwaysRelates : LoggedRun → List Assumption → Kind → EventKey → EventKey → Type 0
AlwaysRelates run assumed kind a b = Always run assumed (λ x. Relates kind x a b)

-- the event is among those that the row counts
abbrev pub Covers : Row → EventKey → Type 0
Covers row a = a.number < get_or row.before a.thread 0

-- each event that the row counts is always before that of the row
pub record IsRow (run : LoggedRun) (assumed : List Assumption) (kind : Kind) (row : Row) : Type 0 where
  pub there : IsSome (event_in run.log row.key)
  pub counted : (a : EventKey) → Covers row a → AlwaysRelates run assumed kind a row.key

abbrev pub AreRows : LoggedRun → List Assumption → Kind → List Row → Type 0
AreRows run assumed kind rows = All (IsRow run assumed kind) rows

-- a row that counts nothing
abbrev pub IsEmptyRow : LoggedRun → Row → Type 0
IsEmptyRow run row = IsSome (event_in run.log row.key) × ((a : EventKey) → Covers row a → ⊥)

-- the row at a place is that of an event
abbrev pub IsAt : List Row → ℕ → EventKey → Type 0
IsAt rows i key = (i < length rows) × ((row : Row) → row ≡ slice_index_or rows i row → row.key ≡ key)

-- the first event of the pair is always before the second
abbrev pub IsPair : LoggedRun → List Assumption → Kind → Pair → Type 0
IsPair run assumed kind p = AlwaysRelates run assumed kind p.first p.second

-- the first event of the pair always synchronizes with the second
abbrev pub IsSynchronized : LoggedRun → List Assumption → Pair → Type 0
IsSynchronized run assumed p = Always run assumed (λ x. SynchronizesWith (execution x) p.first p.second)
