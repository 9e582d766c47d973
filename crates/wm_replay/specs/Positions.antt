-- The positions in the code at which the threads of a log make its events.
use Rattle.std.specs.Prelude.{◌≡◌, ℕ, ◌+◌, ◌≤◌, Bool, true, false, List, [], ◌∷◌, ◌++◌, length, take, drop, Some, Result, Ok, Err, slice_get, ⊤}
use Rattle.wm_ast.specs.declared.module.Module.{Module}
use Rattle.wm_event.specs.declared.log.ThreadLog.{ThreadLog}
use Rattle.wm_machine.specs.declared.fault.StartFault.{StartFault}
use Rattle.wm_machine.specs.declared.thread.CodePosition.{CodePosition}
use Rattle.wm_machine.specs.Paths.{IsAtStart, Moves}
use Rattle.wm_machine.specs.Run.{Ran, steps}
use Rattle.wm_machine.specs.State.{State, config_of, position_of}
use Rattle.wm_machine.specs.Term.{Config}
use Rattle.wm_replay.specs.declared.by_log.Followed.{Followed}
use Rattle.wm_replay.specs.declared.answer.ReplayAnswer.{ReplayAnswer}
use Rattle.wm_replay.specs.declared.answer.ReplayAnswer.TheVariants.{Same, StartRefused, Differs}
use Rattle.wm_replay.specs.Following.{Accesses, FollowsLog, RunsByLog}
use Rattle.wm_replay.specs.Replay.{reads_of, start_of}

-- thread k is in this configuration after this number of steps of its run by the log
pub record IsAfter (m : Module) (k : ℕ) (t : ThreadLog) (count : ℕ) (config : Config) : Type 0 where
  pub start : Config
  pub is_start : start_of m t ≡ Ok start
  pub ran : Ran
  pub ran_so : steps m k start (reads_of t.events) count ≡ Some ran
  pub is_config : ran.config ≡ config

-- thread k is in this state after this number of steps of its run by the log: it was at the start of its function, and
-- each step has moved it
pub data IsReached (m : Module) (k : ℕ) (t : ThreadLog) : ℕ → State → Type 0 where
  begins : {s : State} → start_of m t ≡ Ok (config_of s) → IsAtStart s → IsReached m k t 0 s
  goes_on : {count : ℕ} {s u : State} → IsReached m k t count s → IsAfter m k t (count + 1) (config_of u) → Moves m s u
      → IsReached m k t (count + 1) u

-- thread k makes event n of its log by a step from this position: it is there after some steps, which made the events below n
-- on the values that they read
pub record IsMadeAt (m : Module) (k : ℕ) (t : ThreadLog) (n : ℕ) (position : CodePosition) : Type 0 where
  pub start : Config
  pub is_start : start_of m t ≡ Ok start
  pub state : State
  pub runs_module : state.module ≡ m
  pub count : ℕ
  pub reached : IsReached m k t count state
  pub ran_so : steps m k start (reads_of t.events) count ≡ Some record { events = take n t.events; config = config_of state; reads = reads_of (drop n t.events) }
  pub next : Config
  pub makes : Accesses m (config_of state) next t.events n
  pub is_position : position_of state ≡ position

-- a thread makes an event of its log at one position
abbrev pub OnePosition : Type 0
OnePosition = (m : Module) (k : ℕ) (t : ThreadLog) (n : ℕ) (p q : CodePosition) → IsMadeAt m k t n p → IsMadeAt m k t n q → p ≡ q

-- these are the positions of thread k's first n events
pub record ArePositions (m : Module) (k : ℕ) (t : ThreadLog) (n : ℕ) (positions : List CodePosition) : Type 0 where
  pub count : length positions ≡ n
  pub each : (i : ℕ) (p : CodePosition) → slice_get positions i ≡ Some p → IsMadeAt m k t i p

-- the positions of the events that a thread has made
abbrev pub HasPositions : Module → ℕ → ThreadLog → Result Followed StartFault → Type 0
HasPositions m k t (Ok f) = ArePositions m k t f.events f.positions
HasPositions m k t (Err fault) = ⊤

-- the state that a thread has reached
abbrev pub HasReached : Module → ℕ → ThreadLog → Result Followed StartFault → Type 0
HasReached m k t (Ok f) = IsReached m k t f.steps f.thread
HasReached m k t (Err fault) = ⊤

-- thread k has made this number of steps of its run by the log, and the events below n, at these positions; it is in this state
pub record HasCome (m : Module) (k : ℕ) (t : ThreadLog) (s : State) (count n : ℕ) (positions : List CodePosition) : Type 0 where
  pub start : Config
  pub is_start : start_of m t ≡ Ok start
  pub listed : n ≤ length t.events
  pub ran_so : steps m k start (reads_of t.events) count ≡ Some record { events = take n t.events; config = config_of s; reads = reads_of (drop n t.events) }
  pub reached : IsReached m k t count s
  pub made_at : ArePositions m k t n positions

-- thread k was run by its log
pub record IsFollowed (m : Module) (k : ℕ) (t : ThreadLog) (limit : ℕ) (f : Followed) : Type 0 where
  pub runs : FollowsLog m k t limit (Ok f)
  pub positions : HasPositions m k t (Ok f)
  pub reached : HasReached m k t (Ok f)

-- thread k was run by the first events of its log
pub record HasFollowed (m : Module) (k : ℕ) (t : ThreadLog) (limit : ℕ) (f : Followed) : Type 0 where
  pub first : ThreadLog
  pub start : first.start ≡ t.start
  pub events : first.events ≡ take (length first.events) t.events
  pub followed : IsFollowed m k first limit f

-- the position of a thread in this state is noted if it makes its log's next event
abbrev pub NotesPosition : State → List CodePosition → List CodePosition → Bool → Type 0
NotesPosition s old new true = new ≡ old ++ position_of s ∷ []
NotesPosition s old new false = new ≡ old

-- a step that makes the log's next event moves the thread; otherwise it is unchanged
abbrev pub MovesIfMade : State → State → Bool → Type 0
MovesIfMade old new true = Moves old.module old new
MovesIfMade old new false = new ≡ old

-- ---- the threads of a log

-- the positions at which thread k makes the events of its log, for as many as it makes; none if the thread doesn't start
pub data ArePositionsOf (m : Module) (k : ℕ) (t : ThreadLog) : List CodePosition → Type 0 where
  unstarted : {fault : StartFault} → start_of m t ≡ Err fault → ArePositionsOf m k t []
  ran : {c : Config} {j n : ℕ} {positions : List CodePosition} → RunsByLog m k t t.steps c j n → ArePositions m k t n positions → ArePositionsOf m k t positions

-- the positions of thread k of the log
abbrev pub ArePositionsAt : Module → List ThreadLog → ℕ → List CodePosition → Type 0
ArePositionsAt m log k positions = (t : ThreadLog) → slice_get log k ≡ Some t → ArePositionsOf m k t positions

-- the positions of these threads of the log
abbrev pub ArePositionsIn : Module → List ThreadLog → List (List CodePosition) → Type 0
ArePositionsIn m log table = (k : ℕ) (positions : List CodePosition) → slice_get table k ≡ Some positions → ArePositionsAt m log k positions

-- the positions of all threads of the log
pub record AreLogPositions (m : Module) (log : List ThreadLog) (table : List (List CodePosition)) : Type 0 where
  pub count : length table ≡ length log
  pub each : ArePositionsIn m log table

-- if the threads run as the log states, these are the positions of all of them
abbrev pub HasLogPositions : Module → List ThreadLog → ReplayAnswer → List (List CodePosition) → Type 0
HasLogPositions m log Same table = AreLogPositions m log table
HasLogPositions m log (StartRefused k fault) table = ⊤
HasLogPositions m log (Differs k place) table = ⊤
