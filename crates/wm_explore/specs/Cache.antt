-- What threads were seen to do after some events.
use Rattle.std.specs.Prelude.{◌≡◌, ℕ, Box, List, Option, Some, slice_get}
use Rattle.std.specs.declared.alloc.Global.{Global}
use Rattle.wm_ast.specs.declared.module.Module.{Module}
use Rattle.wm_event.specs.Limits.{max_steps}
use Rattle.wm_event.specs.declared.event.Event.{Event}
use Rattle.wm_event.specs.declared.log.Start.{Start}
use Rattle.wm_event.specs.declared.log.ThreadLog.{ThreadLog}
use Rattle.wm_explore.specs.Moved.{IsMovedBy}
use Rattle.wm_explore.specs.declared.cache.Cache.{Cache}
use Rattle.wm_explore.specs.declared.cache.Entry.{Entry}
use Rattle.wm_replay.specs.declared.by_log.Followed.{Followed}
use Rattle.wm_replay.specs.Positions.{IsFollowed}

-- thread k was run by a log with this start and these events
abbrev pub WasRun : Module → ℕ → Start → List Event → Followed → Type 0
WasRun m k start events f = (t : ThreadLog) × (t.start ≡ start) × (t.events ≡ events) × IsFollowed m k t max_steps f

-- thread k does so after the events of t, and was run by them
pub record IsRecalled (m : Module) (k : ℕ) (t : ThreadLog) (entry : Entry) : Type 0 where
  pub moved : IsMovedBy m k t entry.moved
  pub run : WasRun m k t.start t.events entry.followed

-- where the threads are started so, each entry is right of a thread with its events
abbrev pub AreRecalled : Module → List Start → List (Option (Box Entry Global)) → Type 0
AreRecalled m starts entries = (i : ℕ) (entry : Box Entry Global) (t : ThreadLog) → slice_get entries i ≡ Some (Some entry)
    → slice_get starts entry.value.moved.number ≡ Some t.start → t.events ≡ entry.value.events → IsRecalled m entry.value.moved.number t entry.value

abbrev pub Recalls : Module → List Start → Cache → Type 0
Recalls m starts cache = AreRecalled m starts cache.entries.items

-- the cache is right of thread k, which is started so
abbrev pub RecallsOf : Module → ℕ → Start → Cache → Type 0
RecallsOf m k start cache = (starts : List Start) × (slice_get starts k ≡ Some start) × Recalls m starts cache

-- the entry is of thread k after these events
pub record IsEntryOf (k : ℕ) (events : List Event) (cache : Cache) (entry : Box Entry Global) : Type 0 where
  pub place : ℕ
  pub at : slice_get cache.entries.items place ≡ Some (Some entry)
  pub number : entry.value.moved.number ≡ k
  pub made : entry.value.events ≡ events
