-- Weaker premises, with which runs need not be sequential.
use Rattle.std.specs.Prelude.{◌≡◌, ◌≢◌, ◌⊎◌, ℕ, suc, ◌+◌, ◌*◌, ◌^◌, ◌<◌, List, [], ◌∷◌, ◌++◌, Some, IsTrue, false, length, slice_get, take}
use Rattle.wm_access.specs.AccessWidth.{bytes_of}
use Rattle.wm_event.specs.declared.event.Event.{Event}
use Rattle.wm_event.specs.declared.event.EventKey.{EventKey}
use Rattle.wm_event.specs.declared.event.EventId.{EventId}
use Rattle.wm_event.specs.declared.event.EventId.TheVariants.{At}
use Rattle.wm_event.specs.Byte.{byte_of}
use Rattle.wm_event.specs.Event.{is_atomic, reads, writes}
use Rattle.wm_event.specs.Execution.{Execution, place}
use Rattle.wm_event.specs.LoggedRun.{LoggedRun, execution}
use Rattle.wm_event.specs.Rules.{EachByteRead, IsAtomicWrite, IsValid, KeepsCoherence, KeepsNoTearing, KeepsOrder, KeepsWrittenValues, Overtakes}
use Rattle.wm_event.specs.Shape.{IsWellShaped}
use Rattle.wm_races.specs.Races.{Race}
use Rattle.wm_standard.specs.SharedEvents.{HaveOverlappingRanges}
use Rattle.wm_standard.specs.ValidExecution.{IsValidExecution}
use Rattle.wm_standard.specs.Transcribed.{AreOperations, Operation, candidate_of, order_of}
use Rattle.wm_standard.specs.Agreement.{with_order}
use Rattle.wm_ast.specs.declared.module.Module.{Module}
use Rattle.wm_event.specs.declared.log.ThreadLog.{ThreadLog}
use Rattle.wm_replay.specs.Replay.{IsRun}
use Rattle.wm_sequential.specs.ModulePrograms.{IsCutRun, IsLogOf, AreOfOneAccess, Program}
use Rattle.wm_sequential.specs.Programs.{StandardRace}
use Rattle.wm_sequential.specs.Sequential.{HasNoRace, IsSequential, memory_after}

-- in whatever order its events are listed, the run is not sequential
abbrev pub IsSequentialInNoOrder : LoggedRun → Type 0
IsSequentialInNoOrder run = (order : List EventKey) → IsWellShaped (with_order run order) → IsSequential (execution (with_order run order)) → ⊥

-- a valid run no two events of which race in this sense, and which is sequential in no order
pub record IsNotEnough (Races : Execution → EventKey → EventKey → Type 0) : Type 0 where
  pub run : LoggedRun
  pub shaped : IsWellShaped run
  pub valid : IsValid (execution run)
  pub race_free : (a b : EventKey) → Races (execution run) a b → ⊥
  pub not_sequential : IsSequentialInNoOrder run

-- the event is plain
abbrev pub IsPlain : Execution → EventKey → Type 0
IsPlain x a = (e : Event) × (x.event_of a ≡ Some e) × (is_atomic e ≡ false)

-- a race of which one event is plain: two atomic events never race, whatever their ranges
abbrev pub PlainRace : Execution → EventKey → EventKey → Type 0
PlainRace x a b = Race x a b × (IsPlain x a ⊎ IsPlain x b)

-- V5 without one of its cases
abbrev pub KeepsOtherCases : ℕ → Execution → Type 0
KeepsOtherCases without x = EachByteRead x (λ r e k w. (v : EventId) (c : ℕ) → c ≢ without
    → IsAtomicWrite x v → place x w < place x v → place x v < place x (At r) → Overtakes x w v r e c → ⊥)

-- V1 to V5, but for one of the cases of V5
pub record IsValidWithoutCase (without : ℕ) (x : Execution) : Type 0 where
  pub keeps_written_values : KeepsWrittenValues x
  pub keeps_order : KeepsOrder x
  pub keeps_coherence : KeepsCoherence x
  pub keeps_no_tearing : KeepsNoTearing x
  pub keeps_other_cases : KeepsOtherCases without x

-- in each run that is valid but for this case of V5, without a race, each byte read is that of its last write
abbrev pub AreEnoughCases : ℕ → Type 0
AreEnoughCases without = (run : LoggedRun) → IsWellShaped run → IsValidWithoutCase without (execution run) → HasNoRace (execution run)
    → IsSequential (execution run)

-- a run that is valid but for this case of V5, without a race, and which is sequential in no order
pub record IsCaseNeeded (without : ℕ) : Type 0 where
  pub run : LoggedRun
  pub shaped : IsWellShaped run
  pub valid : IsValidWithoutCase without (execution run)
  pub race_free : HasNoRace (execution run)
  pub not_sequential : IsSequentialInNoOrder run

-- store buffering: races as ECMA-262 defines them for one execution are not enough
abbrev pub StandardRacesAreNotEnough : Type 0
StandardRacesAreNotEnough = IsNotEnough StandardRace

-- two overlapping updates that both read the initial bytes: atomic events of different ranges have to race
abbrev pub PlainRacesAreNotEnough : Type 0
PlainRacesAreNotEnough = IsNotEnough PlainRace

-- store buffering with atomic accesses: the third case of V5 is needed
abbrev pub ThirdCaseIsNeeded : Type 0
ThirdCaseIsNeeded = IsCaseNeeded 3

-- Statements that don't hold; each leaves out of a law what makes it one.

-- a valid run without a race is sequential in whatever order its events are listed
abbrev pub AreSequentialInAnyOrder : Type 0
AreSequentialInAnyOrder = (run : LoggedRun) (order : List EventKey) → IsWellShaped run → IsWellShaped (with_order run order) → IsValid (execution run)
    → HasNoRace (execution run) → IsSequential (execution (with_order run order))

-- each byte read is what one memory has after the read's own event
abbrev pub ReadLaterMemory : Type 0
ReadLaterMemory = (run : LoggedRun) (r : EventKey) (e : Event) (k : ℕ) → IsWellShaped run → KeepsWrittenValues (execution run)
    → IsSequential (execution run) → (execution run).event_of r ≡ Some e → IsTrue (reads e) → k < bytes_of e.width
    → memory_after run (suc ((execution run).place_of r)) (e.address + k) ≡ Some (byte_of e.read k)

-- V1 to V5 allow each sequential run, whatever its values
abbrev pub SequentialRunsNeedNoValues : Type 0
SequentialRunsNeedNoValues = (run : LoggedRun) → IsWellShaped run → IsSequential (execution run) → IsValid (execution run)

-- each valid execution of ECMA-262 is sequential
abbrev pub StandardExecutionsAreSequential : Type 0
StandardExecutionsAreSequential = (run : LoggedRun) (ops : EventKey → Operation) → IsWellShaped run → AreOperations run ops → 8 < length run.initial
    → IsValidExecution HaveOverlappingRanges (candidate_of run ops) (order_of run) → IsSequential (execution run)

-- each race of a valid execution is a data race of ECMA-262
abbrev pub RacesShowAtOnce : Type 0
RacesShowAtOnce = (x : Execution) (a b : EventKey) → IsValid x → Race x a b → StandardRace x a b

-- each valid run of a program is sequential, with or without data races
abbrev pub ProgramsAreSequential : Type 0
ProgramsAreSequential = (p : Program) (run : LoggedRun) → IsLogOf p run.log → run.initial ≡ p.initial → IsWellShaped run → IsValid (execution run) → IsSequential (execution run)

-- a read may have a value that doesn't fit its width
abbrev pub AnyValueIsRead : Type 0
AnyValueIsRead = (m : Module) (k : ℕ) (t : ThreadLog) (n : ℕ) (e : Event) (value : ℕ) → IsRun m k t → slice_get t.events n ≡ Some e → IsTrue (reads e)
    → (cut : ThreadLog) × (d : Event) × AreOfOneAccess e d value × IsCutRun m k t cut (take n t.events ++ d ∷ [])

-- e with another value read
abbrev pub with_read : Event → ℕ → Event
with_read e r = record { thread = e.thread; number = e.number; kind = e.kind; order = e.order; address = e.address; width = e.width; read = r; written = e.written }

-- an event that only reads, only reads whatever the value is
abbrev pub KindsAreKept : Type 0
KindsAreKept = (m : Module) (k : ℕ) (t : ThreadLog) (n : ℕ) (e : Event) (value : ℕ) → IsRun m k t → slice_get t.events n ≡ Some e → IsTrue (reads e)
    → writes e ≡ false → value < 2 ^ (8 * bytes_of e.width) → (cut : ThreadLog) × IsCutRun m k t cut (take n t.events ++ with_read e value ∷ [])
