-- The thread that made the last event of a state.
use Rattle.std.specs.Prelude.{◌≡◌, ℕ, true, Some, slice_get}
use Rattle.wm_ast.specs.declared.module.Module.{Module}
use Rattle.wm_event.specs.declared.log.ThreadLog.{ThreadLog}
use Rattle.wm_explore.specs.Idle.{HasIdleReads}
use Rattle.wm_explore.specs.declared.moved.Moved.{Moved}
use Rattle.wm_explore.specs.declared.state.State.{State}
use Rattle.wm_replay.specs.Continuing.{ContinuesSo}

-- if it is thread k, it goes on so after the events of t
abbrev pub MovesSo : Module → ℕ → ThreadLog → Moved → Type 0
MovesSo m k t moved = moved.number ≡ k → ContinuesSo m k t moved.next

-- it is thread k, and goes on so after the events of t
pub record IsMovedBy (m : Module) (k : ℕ) (t : ThreadLog) (moved : Moved) : Type 0 where
  pub number : moved.number ≡ k
  pub next : ContinuesSo m k t moved.next
  pub idle : moved.is_idle ≡ true → HasIdleReads m k t

-- it goes on so after its events in the state
pub record IsMoved (m : Module) (s : State) (moved : Moved) : Type 0 where
  pub thread : ThreadLog
  pub is_thread : slice_get s.log moved.number ≡ Some thread
  pub moves : IsMovedBy m moved.number thread moved
