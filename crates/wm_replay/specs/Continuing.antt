-- How the runs of a thread go on that begin with the events of a log.
use Rattle.std.specs.Prelude.{◌≡◌, ◌≢◌, ℕ, ◌<◌, ◌≤◌, length, take, Some, Result, Ok, Err, slice_get}
use Rattle.wm_access.specs.AccessWidth.{Fits}
use Rattle.wm_ast.specs.declared.module.Module.{Module}
use Rattle.wm_event.specs.Limits.{max_steps}
use Rattle.wm_event.specs.Op.{event_made}
use Rattle.wm_event.specs.declared.log.End.TheVariants.{Cut}
use Rattle.wm_event.specs.declared.log.ThreadLog.{ThreadLog}
use Rattle.wm_event.specs.declared.op.OpFields.{OpFields}
use Rattle.wm_machine.specs.declared.fault.StartFault.{StartFault}
use Rattle.wm_machine.specs.declared.fault.StartFault.TheVariants.{OutOfMemory}
use Rattle.wm_replay.specs.declared.continuing.Next.{Next}
use Rattle.wm_replay.specs.declared.continuing.Next.TheVariants.{Ends, Access, Unknown}
use Rattle.wm_replay.specs.Replay.{IsRun, start_of}

-- u begins with the events of t, and is a run of thread k that has ended
pub record IsEndedRun (m : Module) (k : ℕ) (t u : ThreadLog) : Type 0 where
  pub start : u.start ≡ t.start
  pub events : t.events ≡ take (length t.events) u.events
  pub is_run : IsRun m k u
  pub ended : u.end ≢ Cut

-- u has, after the events of t, one that the access makes
abbrev pub HasNextBy : ℕ → ThreadLog → ThreadLog → OpFields → Type 0
HasNextBy k t u op = (r : ℕ) × Fits op.width r × (slice_get u.events (length t.events) ≡ Some (event_made record { thread = k; number = length t.events } op r))

-- u ends so after the events of t, makes this access, or makes more than 1,000,000 steps
abbrev pub GoesOn : ℕ → ThreadLog → ThreadLog → Next → Type 0
GoesOn k t u (Ends end) = (u.events ≡ t.events) × (u.steps ≤ max_steps) × (u.end ≡ end)
GoesOn k t u (Access op) = HasNextBy k t u op
GoesOn k t u Unknown = max_steps < u.steps

-- each ended run of thread k that begins with the events of t goes on so
abbrev pub ContinuesSo : Module → ℕ → ThreadLog → Next → Type 0
ContinuesSo m k t next = (u : ThreadLog) → IsEndedRun m k t u → GoesOn k t u next

-- how each ended run of thread k goes on that begins with the events of t, or why the thread doesn't start
abbrev pub FindsNext : Module → ℕ → ThreadLog → Result Next StartFault → Type 0
FindsNext m k t (Ok next) = ContinuesSo m k t next
FindsNext m k t (Err fault) = (start_of m t ≡ Err fault) × (fault ≢ OutOfMemory)
