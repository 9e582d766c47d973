-- States that are explored side by side.
use Rattle.std.specs.Prelude.{◌≡◌, ℕ, ◌<◌, ◌⊎◌, List, Some, All, slice_get}
use Rattle.std.specs.List.{AllZip}
use Rattle.wm_ast.specs.declared.module.Module.{Module}
use Rattle.wm_event.specs.LoggedRun.{LoggedRun, execution}
use Rattle.wm_event.specs.Shape.{event_count}
use Rattle.wm_event.specs.declared.log.End.{End}
use Rattle.wm_event.specs.declared.log.Start.{Start}
use Rattle.wm_explore.specs.declared.exploration.Finished.{Finished}
use Rattle.wm_explore.specs.declared.search.Progress.{Progress}
use Rattle.wm_explore.specs.declared.state.State.{State}
use Rattle.wm_explore.specs.declared.subtrees.Subtree.{Subtree}
use Rattle.wm_explore.specs.Executions.{IsCausal, IsExecutionOf}
use Rattle.wm_explore.specs.Idle.{StandsFor}
use Rattle.wm_explore.specs.Known.{IsNoted}
use Rattle.wm_explore.specs.Search.{AreApart, Covers, IsProgress, Lists}
use Rattle.wm_explore.specs.States.{GoesOn, IsState}

-- ---- steps

-- an execution that p covers stands for x, or a shorter one does
abbrev pub CoversOrShortens : Module → List Start → ℕ → Progress → LoggedRun → Type 0
CoversOrShortens m starts events p x = (y : LoggedRun) × StandsFor m starts y x × (Covers events p y ⊎ (event_count y.log < event_count x.log))

-- what is to be shown of steps from p to q
pub record Advances (m : Module) (starts : List Start) (events : ℕ) (p q : Progress) : Type 0 where
  pub progress : IsProgress m starts q
  pub keeps : (x : LoggedRun) → IsExecutionOf m starts x → IsCausal (execution x) → Covers events p x → CoversOrShortens m starts events q x

-- ---- subtrees

-- a state that may be left
pub record MayBeLeft (m : Module) (starts : List Start) (s : State) : Type 0 where
  pub is_state : IsState starts s
  pub noted : IsNoted m s

-- p is what was found and what is left of the executions that go on from s
pub record ComesOf (m : Module) (starts : List Start) (events : ℕ) (s : State) (p : Progress) : Type 0 where
  pub progress : IsProgress m starts p
  pub takes : (x : LoggedRun) → IsExecutionOf m starts x → IsCausal (execution x) → GoesOn x s → CoversOrShortens m starts events p x

-- the subtrees of the states
abbrev pub AreSubtrees : Module → List Start → ℕ → List State → List Subtree → Type 0
AreSubtrees m starts events states trees = AllZip (λ (s : State) (t : Subtree). ComesOf m starts events s t.progress) states trees

-- ---- what is joined

-- all ends of both are listed, each execution is of one of them, and if no two of the first have the same ends, no two have
pub record TakesIn (old others new : List Finished) : Type 0 where
  pub first : (ends : List End) → Lists old ends → Lists new ends
  pub second : (ends : List End) → Lists others ends → Lists new ends
  pub only : (i : ℕ) (f : Finished) → slice_get new i ≡ Some f → ((j : ℕ) × (slice_get old j ≡ Some f)) ⊎ ((j : ℕ) × (slice_get others j ≡ Some f))
  pub apart : AreApart old → AreApart new

-- q covers what p and the other cover
pub record Joins (p other q : Progress) : Type 0 where
  pub progress : (m : Module) (starts : List Start) → IsProgress m starts p → IsProgress m starts other → IsProgress m starts q
  pub first : (events : ℕ) (x : LoggedRun) → Covers events p x → Covers events q x
  pub second : (events : ℕ) (x : LoggedRun) → Covers events other x → Covers events q x

-- q covers what p and each of the trees cover
pub record JoinsAll (p : Progress) (trees : List Subtree) (q : Progress) : Type 0 where
  pub progress : (m : Module) (starts : List Start) → IsProgress m starts p → All (λ (t : Subtree). IsProgress m starts t.progress) trees → IsProgress m starts q
  pub first : (events : ℕ) (x : LoggedRun) → Covers events p x → Covers events q x
  pub each : (i : ℕ) (t : Subtree) → slice_get trees i ≡ Some t → (events : ℕ) (x : LoggedRun) → Covers events t.progress x → Covers events q x
