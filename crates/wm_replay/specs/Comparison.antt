-- How a log compares with the runs of its threads, as answered by the replay.
use Rattle.std.specs.Prelude.{◌≡◌, ◌≢◌, ℕ, ◌<◌, List, Option, Some, None, Result, Ok, Err, length, slice_get, nat_lt, if◌then◌else◌}
use Rattle.wm_ast.specs.declared.module.Module.{Module}
use Rattle.wm_event.specs.declared.log.ThreadLog.{ThreadLog}
use Rattle.wm_machine.specs.declared.fault.StartFault.TheVariants.{OutOfMemory}
use Rattle.wm_replay.specs.declared.answer.Place.{Place}
use Rattle.wm_replay.specs.declared.answer.Place.TheVariants as place
use Rattle.wm_replay.specs.declared.answer.ReplayAnswer.{ReplayAnswer}
use Rattle.wm_replay.specs.declared.answer.ReplayAnswer.TheVariants.{Same, StartRefused, Differs}
use Rattle.wm_replay.specs.declared.compare.ThreadReplay.{ThreadReplay}
use Rattle.wm_replay.specs.Positions.{ArePositionsOf}
use Rattle.wm_replay.specs.Replay.{AreRuns, DiffersAt, IsRun, start_of}

-- ---- a thread

-- the place where a thread that makes no further step differs from its log, after this number of its events
abbrev pub end_place : ℕ → ℕ → Place
end_place made stated = if nat_lt made stated then place.Event made else place.End

abbrev pub IsDifference : Module → ℕ → ThreadLog → Option Place → Type 0
IsDifference m k t None = IsRun m k t
IsDifference m k t (Some place) = DiffersAt m k t place

-- why the log of thread k isn't its run
abbrev pub IsOther : Module → ℕ → ThreadLog → ReplayAnswer → Type 0
IsOther m k t Same = ⊥
IsOther m k t (StartRefused i fault) = (i ≡ k) × (start_of m t ≡ Err fault) × (fault ≢ OutOfMemory)
IsOther m k t (Differs i place) = (i ≡ k) × DiffersAt m k t place

abbrev pub ComparesThread : Module → ℕ → ThreadLog → Option ReplayAnswer → Type 0
ComparesThread m k t None = IsRun m k t
ComparesThread m k t (Some answer) = IsOther m k t answer × (¬ IsRun m k t)

-- ---- the log

-- how thread k of the log compares with its run, and the positions at which it makes its events
pub record ReplaysThread (m : Module) (k : ℕ) (t : ThreadLog) (replay : ThreadReplay) : Type 0 where
  pub compares : ComparesThread m k t replay.difference
  pub positions : ArePositionsOf m k t replay.positions

abbrev pub ReplaysAt : Module → List ThreadLog → ℕ → ThreadReplay → Type 0
ReplaysAt m log k replay = (t : ThreadLog) → slice_get log k ≡ Some t → ReplaysThread m k t replay

-- the replay of each thread, unless an allocation fails
pub record ReplaysEach {E : Type 0} (m : Module) (log : List ThreadLog) (answers : List (Result ThreadReplay E)) : Type 0 where
  pub size : length answers ≡ length log
  pub each : (k : ℕ) (replay : ThreadReplay) → slice_get answers k ≡ Some (Ok replay) → ReplaysAt m log k replay

-- thread k is the first whose log isn't its run, for this reason
pub record IsFirstOther (m : Module) (log : List ThreadLog) (k : ℕ) (answer : ReplayAnswer) : Type 0 where
  pub thread : ThreadLog
  pub is_thread : slice_get log k ≡ Some thread
  pub others : (i : ℕ) (t : ThreadLog) → i < k → slice_get log i ≡ Some t → IsRun m i t
  pub no_run : ¬ IsRun m k thread
  pub other : IsOther m k thread answer

abbrev pub Replays : Module → List ThreadLog → ReplayAnswer → Type 0
Replays m log Same = AreRuns m log
Replays m log (StartRefused k fault) = IsFirstOther m log k (StartRefused k fault)
Replays m log (Differs k place) = IsFirstOther m log k (Differs k place)
