-- What is noted of a state beside its events: what its threads do next, and what surely holds of each event.
use Rattle.std.specs.Prelude.{◌≡◌, ◌≢◌, ℕ, List, Option, Some, slice_get}
use Rattle.wm_ast.specs.declared.module.Module.{Module}
use Rattle.wm_event.specs.declared.log.ThreadLog.{ThreadLog}
use Rattle.wm_replay.specs.Continuing.{ContinuesSo}
use Rattle.wm_replay.specs.declared.continuing.Next.{Next}
use Rattle.wm_valid.specs.Valid.{IsInit}
use Rattle.wm_event.specs.declared.event.Event.{Event}
use Rattle.wm_explore.specs.Past.{AreKnownWith, KnowsPast}
use Rattle.wm_explore.specs.States.{IsChild}
use Rattle.wm_explore.specs.Turns.{AreNexts}
use Rattle.wm_explore.specs.declared.state.State.{State}

-- a thread of which it is known does that next
abbrev pub KnowsNexts : Module → State → Type 0
KnowsNexts m s = (k : ℕ) (t : ThreadLog) (next : Next) → slice_get s.log k ≡ Some t → slice_get s.known k ≡ Some (Some next) → ContinuesSo m k t next

-- what is known is one of these
abbrev pub KnowsOnly : List Next → List (Option Next) → Type 0
KnowsOnly nexts known = (k : ℕ) (next : Next) → slice_get known k ≡ Some (Some next) → slice_get nexts k ≡ Some next

-- nothing is known of thread moved
abbrev pub KnowsBut : ℕ → List Next → List (Option Next) → Type 0
KnowsBut moved nexts known = (k : ℕ) (next : Next) → slice_get known k ≡ Some (Some next) → (k ≢ moved) × (slice_get nexts k ≡ Some next)

-- what is noted of the state is right
pub record IsNoted (m : Module) (s : State) : Type 0 where
  pub nexts : KnowsNexts m s
  pub past : (initial : List ℕ) → IsInit m initial → KnowsPast initial s

-- child has the event e of thread k too, where the threads of s did this next; what is noted of it is right if what was noted of s was
pub record IsMade (initial : List ℕ) (nexts : List Next) (k : ℕ) (e : Event) (s child : State) : Type 0 where
  pub is_child : IsChild k e s child
  pub finds : KnowsPast initial s → AreKnownWith initial s e child.pasts
  pub known : (m : Module) → AreNexts m s.log nexts → KnowsNexts m child
