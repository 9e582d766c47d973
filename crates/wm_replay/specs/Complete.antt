-- Logs with the steps and the ends of their runs.
use Rattle.std.specs.Prelude.{◌≡◌, ℕ, ◌<◌, ◌≤◌, List, length, Option, None, Some, Result, Ok, Err, slice_get}
use Rattle.wm_ast.specs.declared.module.Module.{Module}
use Rattle.wm_event.specs.Limits.{max_steps}
use Rattle.wm_event.specs.declared.log.End.{End}
use Rattle.wm_event.specs.declared.log.ThreadLog.{ThreadLog}
use Rattle.wm_machine.specs.State.{config_of}
use Rattle.wm_replay.specs.declared.answer.ReplayAnswer.{ReplayAnswer}
use Rattle.wm_replay.specs.declared.answer.ReplayAnswer.TheVariants.{Same, StartRefused, Differs}
use Rattle.wm_replay.specs.declared.by_log.Followed.{Followed}
use Rattle.wm_replay.specs.declared.completing.Completion.{Completion}
use Rattle.wm_replay.specs.declared.completing.Completion.TheVariants.{Completed, NoRun}
use Rattle.wm_replay.specs.declared.completing.LongestRun.{LongestRun}
use Rattle.wm_replay.specs.Comparison.{IsOther}
use Rattle.wm_replay.specs.Following.{RunsByLog}
use Rattle.wm_replay.specs.Replay.{AreRuns, IsRun}

-- the log of a thread, with other steps and another end
abbrev pub ending : ThreadLog → ℕ → End → ThreadLog
ending t n end = record { start = t.start; end = end; steps = n; events = t.events }

-- n steps of thread k make exactly its log's events, on the values that they read
abbrev pub MakesEvents : Module → ℕ → ThreadLog → ℕ → Type 0
MakesEvents m k t n = (end : End) × IsRun m k (ending t n end)

-- the log of thread k with the steps and the end of the longest run of at most 1,000,000 steps that makes its events
pub record IsLongestRun (m : Module) (k : ℕ) (t completed : ThreadLog) : Type 0 where
  pub start : completed.start ≡ t.start
  pub events : completed.events ≡ t.events
  pub is_run : IsRun m k completed
  pub within : completed.steps ≤ max_steps
  pub longest : (n : ℕ) → completed.steps < n → n ≤ max_steps → ¬ MakesEvents m k t n

-- no number of steps makes the events of thread k; a replay of 1,000,000 steps answers this
abbrev pub MakesNoRun : Module → ℕ → ThreadLog → ReplayAnswer → Type 0
MakesNoRun m k t answer = ((n : ℕ) → n ≤ max_steps → ¬ MakesEvents m k t n) × IsOther m k (ending t max_steps t.end) answer

-- the thread has run by its log for at most 1,000,000 steps
abbrev pub RunsWithinLimit : ℕ → ThreadLog → Followed → Type 0
RunsWithinLimit k t f = RunsByLog f.thread.module k t max_steps (config_of f.thread) f.steps f.events

-- the longest run of thread k, or why no number of steps makes its events
abbrev pub FindsLongestRun : Module → ℕ → ThreadLog → Result LongestRun ReplayAnswer → Type 0
FindsLongestRun m k t (Ok run) = IsLongestRun m k t (ending t run.steps run.end)
FindsLongestRun m k t (Err answer) = MakesNoRun m k t answer

-- the log of thread k completed, or why no number of steps makes its events
abbrev pub CompletesThread : Module → ℕ → ThreadLog → Result ThreadLog ReplayAnswer → Type 0
CompletesThread m k t (Ok completed) = IsLongestRun m k t completed
CompletesThread m k t (Err answer) = MakesNoRun m k t answer

-- each thread of the log is completed
pub record IsCompletion (m : Module) (log completed : List ThreadLog) : Type 0 where
  pub count : length completed ≡ length log
  pub threads : (k : ℕ) (t c : ThreadLog) → slice_get log k ≡ Some t → slice_get completed k ≡ Some c → IsLongestRun m k t c
  pub are_runs : AreRuns m completed

-- thread k is the first whose events no number of steps makes; this is the answer of a replay of 1,000,000 steps to it
pub record IsFirstWithoutRun (m : Module) (log : List ThreadLog) (k : ℕ) (answer : ReplayAnswer) : Type 0 where
  pub thread : ThreadLog
  pub is_thread : slice_get log k ≡ Some thread
  pub others : (i : ℕ) (t : ThreadLog) → i < k → slice_get log i ≡ Some t → (n : ℕ) × (n ≤ max_steps) × MakesEvents m i t n
  pub none : (n : ℕ) → n ≤ max_steps → ¬ MakesEvents m k thread n
  pub other : IsOther m k (ending thread max_steps thread.end) answer

abbrev pub IsWithoutRun : Module → List ThreadLog → ReplayAnswer → Type 0
IsWithoutRun m log Same = ⊥
IsWithoutRun m log (StartRefused k fault) = IsFirstWithoutRun m log k (StartRefused k fault)
IsWithoutRun m log (Differs k place) = IsFirstWithoutRun m log k (Differs k place)

abbrev pub CompletesLog : Module → List ThreadLog → Completion → Type 0
CompletesLog m log (Completed completed) = IsCompletion m log completed
CompletesLog m log (NoRun answer) = IsWithoutRun m log answer

-- the log has a completion, or a thread without a run
abbrev pub HasCompletion : Module → List ThreadLog → Option ReplayAnswer → Type 0
HasCompletion m log None = (completed : List ThreadLog) × IsCompletion m log completed
HasCompletion m log (Some answer) = IsWithoutRun m log answer
