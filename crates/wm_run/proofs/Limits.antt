-- No thread of a script makes more steps than it may.
use Rattle.std.proofs.Common.{◌≡◌, ℕ, ◌<◌, ◌≤◌, List, [], ◌∷◌, length, Some, slice_get, arith, subst}
use Rattle.std.proofs.lemmas.Option.{slice_get_within}
use Rattle.wm_event.specs.declared.log.Start.{Start}
use Rattle.wm_memory.specs.declared.history_step.HistoryStep.{HistoryStep}
use Rattle.wm_replay.proofs.Comparisons.{item_there}
use Rattle.wm_run.specs.declared.turn.Turn.{Turn}
use Rattle.wm_run.specs.Script.{TurnsLead, ScriptState, Setting, ThreadState, StepsTo, TurnLeads, access, drains, keeps, local, rests, steps_on}
use Rattle.wm_run.specs.Scripted.{IsFirstState}
use Rattle.wm_run.proofs.Runs.{new, other, set_at}

-- no thread made more
abbrev pub AllWithin : Setting → ScriptState → Type 0
AllWithin g state = (t : ℕ) (thread : ThreadState) → slice_get state.threads t ≡ Some thread → thread.made ≤ g.limit

pub first_within : (g : Setting) (starts : List Start) (state : ScriptState) → IsFirstState g.program starts state → AllWithin g state
first_within g starts state f t thread at =
    let within : t < length starts = omega (arith, slice_get_within state.threads t thread at, f.count) in
    let start = item_there starts t within in
    let none = (f.each t start.0 thread start.1 at).made in
    omega (arith, none)

step_within : (g : Setting) (h : List HistoryStep) (t : ℕ) (old new : ThreadState) (items : List HistoryStep) → StepsTo g h t old new items → new.made ≤ g.limit
step_within g h t old _ _ (local lt leads) = lt
step_within g h t old _ _ (access lt few asks leads) = lt

turn_within : (g : Setting) (old new : ScriptState) (turn : Turn) → TurnLeads g old turn new → AllWithin g old → AllWithin g new
turn_within g old _ _ (steps_on {t = u} {thread = thread} {next = next} {items = items} at st) within t z of_z =
    elim (set_at old.threads u t thread next z at of_z) [
      | new same is ↦ subst (λ (x : ThreadState). x.made ≤ g.limit) is (step_within g old.history u thread next items st)
      | other not there ↦ within t z there
    ]
turn_within g old _ _ (rests at rest) within t z of_z = within t z of_z
turn_within g old _ turn (drains is may) within t z of_z = within t z of_z
turn_within g old _ turn (keeps is cannot) within t z of_z = within t z of_z

pub turns_within : (g : Setting) (first last : ScriptState) (turns : List Turn) → TurnsLead g first turns last → AllWithin g first → AllWithin g last
turns_within g first last [] plays within = subst (AllWithin g) plays within
turns_within g first last (turn ∷ turns) plays within = turns_within g plays.0 last turns plays.2 (turn_within g first plays.0 turn plays.1 within)
