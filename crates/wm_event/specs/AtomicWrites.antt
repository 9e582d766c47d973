-- The index of the atomic writes of each range.
use Rattle.std.specs.Prelude.{◌≡◌, ℕ, ◌==◌, ◌&&◌, List, Bool, false}
use Rattle.std.specs.List.{filter}
use Rattle.std.specs.List.Sorted.{IsNonDecreasingBy}
use Rattle.std.specs.Option.{option_map_or}
use Rattle.wm_access.specs.AccessWidth.{bytes_of}
use Rattle.wm_access.specs.declared.AccessWidth.{AccessWidth}
use Rattle.wm_access.specs.declared.AccessWidth.TheVariants.{One, Two, Four, Eight}
use Rattle.wm_event.specs.declared.event.EventKey.{EventKey}
use Rattle.wm_event.specs.declared.log.ThreadLog.{ThreadLog}
use Rattle.wm_event.specs.declared.writes.ByteWrite.{ByteWrite}
use Rattle.wm_event.specs.declared.atomic_writes.WidthIndex.{WidthIndex}
use Rattle.wm_event.specs.declared.atomic_writes.AtomicWrites.{AtomicWrites}
use Rattle.wm_event.specs.Event.{is_atomic, writes}
use Rattle.wm_event.specs.Log.{event_in}
use Rattle.wm_event.specs.Writes.{IsOfEachThread, is_at, listed_from}

-- whether an event of a log is an atomic write of that width that begins at a
abbrev pub begins_atomic : List ThreadLog → AccessWidth → ℕ → EventKey → Bool
begins_atomic log width a key = option_map_or (λ e. (is_atomic e && (writes e && (bytes_of e.width == bytes_of width))) && (e.address == a)) (event_in log key) false

-- the atomic writes of one width in the order, by their first address
pub record IsWidthIndex (log : List ThreadLog) (width : AccessWidth) (order : List EventKey) (s : WidthIndex) : Type 0 where
  pub rises : IsNonDecreasingBy (λ (b : ByteWrite). b.address) s.entries.items
  pub each : (a : ℕ) → filter (is_at a) s.entries.items ≡ listed_from (begins_atomic log width a) a 0 order

-- the atomic writes of each width
pub record AreAtomicWrites (log : List ThreadLog) (order : List EventKey) (w : AtomicWrites) : Type 0 where
  pub one : IsWidthIndex log One order w.one
  pub two : IsWidthIndex log Two order w.two
  pub four : IsWidthIndex log Four order w.four
  pub eight : IsWidthIndex log Eight order w.eight

-- the atomic writes of each thread alone
abbrev pub AreThreadAtomicWrites : List ThreadLog → List AtomicWrites → Type 0
AreThreadAtomicWrites log ws = IsOfEachThread (AreAtomicWrites log) log ws

abbrev pub begin_in : AtomicWrites → AccessWidth → WidthIndex
begin_in w One = w.one
begin_in w Two = w.two
begin_in w Four = w.four
begin_in w Eight = w.eight
