-- A thread's log compared with its run.
use Rattle.std.specs.Prelude.{◌≡◌, ℕ, Option, Some, None, slice_get}
use Rattle.wm_ast.specs.declared.module.Module.{Module}
use Rattle.wm_event.specs.Limits.{max_steps}
use Rattle.wm_event.specs.declared.event.Event.{Event}
use Rattle.wm_event.specs.declared.log.ThreadLog.{ThreadLog}
use Rattle.wm_machine.specs.declared.thread.Need.{Need}
use Rattle.wm_machine.specs.declared.thread.Need.TheVariants as need
use Rattle.wm_machine.specs.State.{State, config_of, need_of, position_of}
use Rattle.wm_replay.specs.Following.{RunsByLog}
use Rattle.wm_replay.specs.Positions.{ArePositions, IsReached}
use Rattle.wm_explain.specs.declared.compared.Next.{Next}
use Rattle.wm_explain.specs.declared.compared.Next.TheVariants as next
use Rattle.wm_explain.specs.declared.compared.Compared.{Compared}

-- the log's next event, if it has one
abbrev pub next_by_log : Option Event → Next
next_by_log None = next.NoEvent
next_by_log (Some event) = next.Event event

-- the module's next access, or why there is none
abbrev pub next_by_module : Need → Next
next_by_module need.Local = next.Limit
next_by_module (need.Access op) = next.Access op
next_by_module (need.Ended end) = next.Ended end

-- thread k makes these steps and these events by its log, and no more within 1,000,000 steps; then the log has its next
-- event, and the module what the thread needs for its next step. Its position is that of the state that the thread has
-- reached
pub record IsCompared (m : Module) (k : ℕ) (t : ThreadLog) (compared : Compared) : Type 0 where
  pub thread : State
  pub runs : RunsByLog m k t max_steps (config_of thread) compared.steps compared.events
  pub logged : compared.logged ≡ next_by_log (slice_get t.events compared.events)
  pub made : (read : ℕ) → compared.made ≡ next_by_module (need_of read thread)
  pub position : compared.position ≡ position_of thread
  pub reached : IsReached m k t compared.steps thread
  pub positions : ArePositions m k t compared.events compared.positions
