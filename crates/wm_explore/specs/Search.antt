-- What an exploration has found, and what it has left.
use Rattle.std.specs.Prelude.{◌≡◌, ◌≢◌, ℕ, ◌<◌, ◌⊎◌, List, [], ◌∷◌, ◌++◌, Option, None, Some, All, map, slice_get}
use Rattle.wm_ast.specs.declared.module.Module.{Module}
use Rattle.wm_event.specs.LoggedRun.{LoggedRun, execution}
use Rattle.wm_event.specs.declared.log.End.{End}
use Rattle.wm_event.specs.declared.log.End.TheVariants.{Cut}
use Rattle.wm_event.specs.declared.log.Start.{Start}
use Rattle.wm_explore.specs.declared.bound.Bound.TheVariants.{Steps, Events}
use Rattle.wm_explore.specs.declared.exploration.Exploration.{Exploration}
use Rattle.wm_explore.specs.declared.exploration.Finished.{Finished}
use Rattle.wm_explore.specs.declared.search.Progress.{Progress}
use Rattle.wm_explore.specs.declared.state.State.{State}
use Rattle.wm_explore.specs.Bounds.{IsExcused}
use Rattle.wm_explore.specs.Executions.{IsCausal, IsExecutionOf, IsOutcome, IsOutcomeWithin, ends_of}
use Rattle.wm_event.specs.declared.witness.Witness.{Witness}
use Rattle.wm_explore.specs.Idle.{StandsFor}
use Rattle.wm_explore.specs.Judging.{IsAllowedWith, LooksBack, run_with}
use Rattle.wm_explore.specs.Known.{IsMade, IsNoted}
use Rattle.wm_explore.specs.Past.{FindsPast, KnowsPast}
use Rattle.wm_event.specs.declared.event.Event.{Event}
use Rattle.wm_replay.specs.declared.continuing.Next.{Next}
use Rattle.wm_explore.specs.States.{GoesOn, IsAlike, IsState}
use Rattle.wm_explore.specs.Turns.{EndSo}
use Rattle.wm_valid.specs.Valid.{IsInit}

-- ---- what was found

-- some execution that was found has these ends
abbrev pub Lists : List Finished → List End → Type 0
Lists finished ends = (i : ℕ) × (f : Finished) × (slice_get finished i ≡ Some f) × (ends_of f.log ≡ ends)

-- some execution that was found ends as these threads do next
abbrev pub EndsFound : List Finished → List Next → Type 0
EndsFound finished nexts = (i : ℕ) × (f : Finished) × (slice_get finished i ≡ Some f) × EndSo f.log nexts

-- over the initial memory of the module it is a valid and causal execution of it in which each thread has ended
abbrev pub IsFound : Module → List Start → Finished → Type 0
IsFound m starts f = (initial : List ℕ) → IsInit m initial → IsExecutionOf m starts (run_with f.log initial f.witness) × IsCausal (execution (run_with f.log initial f.witness))

-- no two have the same ends
abbrev pub AreApart : List Finished → Type 0
AreApart finished = (i j : ℕ) (f g : Finished) → i < j → slice_get finished i ≡ Some f → slice_get finished j ≡ Some g → ends_of f.log ≢ ends_of g.log

-- ---- what is left

-- x's ends are found, or it goes on from a state that is left, or a bound excuses it
pub data Covers (events : ℕ) (p : Progress) (x : LoggedRun) : Type 0 where
  left : (i : ℕ) (s : State) → slice_get p.work.items i ≡ Some s → GoesOn x s → Covers events p x
  listed : Lists p.finished.items (ends_of x.log) → Covers events p x
  excused : IsExcused events p.met x.log → Covers events p x

-- an execution that p covers stands for x
abbrev pub CoversFor : Module → List Start → ℕ → Progress → LoggedRun → Type 0
CoversFor m starts events p x = (y : LoggedRun) × StandsFor m starts y x × Covers events p y

pub record IsProgress (m : Module) (starts : List Start) (p : Progress) : Type 0 where
  pub states : All (IsState starts) p.work.items
  pub noted : All (IsNoted m) p.work.items
  pub found : All (IsFound m starts) p.finished.items
  pub apart : AreApart p.finished.items

-- each causal execution that p covers, q covers
abbrev pub Keeps : Module → List Start → ℕ → Progress → Progress → Type 0
Keeps m starts events p q = (x : LoggedRun) → IsExecutionOf m starts x → IsCausal (execution x) → Covers events p x → Covers events q x

-- and each that goes on from the state
abbrev pub Takes : Module → List Start → ℕ → State → Progress → Type 0
Takes m starts events s q = (x : LoggedRun) → IsExecutionOf m starts x → IsCausal (execution x) → GoesOn x s → Covers events q x

-- what is to be shown of a step from p to q that takes the state s
pub record Extends (m : Module) (starts : List Start) (events : ℕ) (s : State) (p q : Progress) : Type 0 where
  pub progress : IsProgress m starts q
  pub keeps : Keeps m starts events p q
  pub takes : Takes m starts events s q

-- the same, whatever the starts
abbrev pub IsStep : Module → ℕ → State → Progress → Progress → Type 0
IsStep m events s p q = (starts : List Start) → IsState starts s → IsProgress m starts p → Extends m starts events s p q

-- the child was added, or no witness that looks back makes its log valid
abbrev pub AddsPermitted : List ℕ → State → List State → List State → Type 0
AddsPermitted initial child old new =
    ((added : State) × IsAlike child added × (new ≡ old ++ added ∷ [])) ⊎ ((new ≡ old) × ((witness : Witness) → IsAllowedWith child.log initial witness → LooksBack (execution (run_with child.log initial witness)) child.arrived → ⊥))

-- the state with the event e of thread k was added, unless it isn't permitted; or no execution that has the state and keeps the
-- mark of the thread has e next
abbrev pub AddsRead : List ℕ → List Next → ℕ → Event → State → List State → List State → Type 0
AddsRead initial nexts k e s old new =
    ((child : State) × IsMade initial nexts k e s child × AddsPermitted initial child old new) ⊎ ((new ≡ old) × (KnowsPast initial s → FindsPast initial s e None))

-- the threads are started so, and nothing has happened
pub record IsFirstState (starts : List Start) (s : State) : Type 0 where
  pub log : s.log ≡ map (λ start. record { start = start; end = Cut; steps = 0; events = [] }) starts
  pub arrived : s.arrived ≡ []
  pub marks : (k : ℕ) (mark : Option ℕ) → slice_get s.marks k ≡ Some mark → mark ≡ None
  pub pasts : s.pasts ≡ []
  pub known : s.known ≡ []

-- ---- an exploration

-- each execution that was found is valid and causal; no two have the same ends; without a bound each outcome was found; with a
-- bound of a thread each outcome within the bounds
pub record Explores (m : Module) (starts : List Start) (events : ℕ) (e : Exploration) : Type 0 where
  pub found : All (IsFound m starts) e.finished
  pub apart : AreApart e.finished
  pub all : e.met ≡ None → (ends : List End) → IsOutcome m starts ends → Lists e.finished ends
  pub within : (k : ℕ) → (e.met ≡ Some (Steps k)) ⊎ (e.met ≡ Some (Events k)) → (ends : List End) → IsOutcomeWithin events m starts ends → Lists e.finished ends
