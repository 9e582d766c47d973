-- The bytes of a read by their writers.
use Rattle.std.specs.Prelude.{◌≡◌, ◌≢◌, ℕ, ◌+◌, ◌<◌, ◌≤◌, List, Some, slice_get}
use Rattle.wm_event.specs.declared.event.EventId.{EventId}
use Rattle.wm_hb.specs.declared.reads_from.WriterRun.{WriterRun}

-- byte k is in this run
abbrev pub NamesByte : WriterRun → ℕ → Type 0
NamesByte run k = (run.first ≤ k) × (k ≤ run.last)

-- byte k is in a run
abbrev pub IsNamed : List WriterRun → ℕ → Type 0
IsNamed runs k = (i : ℕ) × (run : WriterRun) × (slice_get runs i ≡ Some run) × NamesByte run k

-- each run has the writer of its bytes
abbrev pub ComeFromWriters : List EventId → List WriterRun → Type 0
ComeFromWriters writers runs =
    (i : ℕ) (run : WriterRun) → slice_get runs i ≡ Some run → (k : ℕ) → NamesByte run k → slice_get writers k ≡ Some run.writer

-- each run has a byte
abbrev pub HaveBytes : List WriterRun → Type 0
HaveBytes runs = (i : ℕ) (run : WriterRun) → slice_get runs i ≡ Some run → run.first ≤ run.last

-- the byte after each run, if there is one, has another writer
abbrev pub AreEnded : List EventId → List WriterRun → Type 0
AreEnded writers runs = (i : ℕ) (run : WriterRun) → slice_get runs i ≡ Some run → slice_get writers (run.last + 1) ≢ Some run.writer

-- each run ends before the next one begins
abbrev pub Rise : List WriterRun → Type 0
Rise runs = (i j : ℕ) (a b : WriterRun) → i < j → slice_get runs i ≡ Some a → slice_get runs j ≡ Some b → a.last < b.first

-- each byte is in a run of its writer, there is no other run, and runs are as long as they can be
pub record AreFromWriters (writers : List EventId) (runs : List WriterRun) : Type 0 where
  pub from_writers : ComeFromWriters writers runs
  pub have_bytes : HaveBytes runs
  pub each : (k : ℕ) (writer : EventId) → slice_get writers k ≡ Some writer → IsNamed runs k
  pub ended : AreEnded writers runs
  pub rise : Rise runs
