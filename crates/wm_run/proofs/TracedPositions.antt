-- The positions of a script's threads, turn by turn.
use Rattle.std.proofs.Common.{◌≡◌, ◌≢◌, ℕ, suc, ◌<◌, ◌⊎◌, List, inl, inr, Some, refl, sym, ap, subst, ◌∙◌, arith, length, length-set, map, set, slice_get}
use Rattle.std.specs.Prelude.{option_map, slice_set}
use Rattle.std.proofs.lemmas.Bool.{cases_eq}
use Rattle.std.proofs.lemmas.List.{length-map, map-set, set-get_or}
use Rattle.std.proofs.lemmas.Option.{get_or_from_slice_get, same_Some, slice_get-map, slice_get_within}
use Rattle.std.proofs.lemmas.Simd.{map-map}
use Rattle.wm_ast.specs.declared.module.Module.{Module}
use Rattle.wm_event.specs.declared.log.Start.{Start}
use Rattle.wm_machine.specs.declared.thread.CodePosition.{CodePosition}
use Rattle.wm_machine.specs.Paths.{Moves}
use Rattle.wm_machine.specs.Reach.{HasEnded}
use Rattle.wm_machine.specs.State.{State, config_of, position_of}
use Rattle.wm_machine.specs.Term.{Config, Over, Running}
use Rattle.wm_memory.proofs.Chunks.{slice_get-set_other, slice_get-set_same}
use Rattle.wm_recorder.specs.Recorder.{Recording}
use Rattle.wm_replay.proofs.Comparisons.{item_there}
use Rattle.wm_run.specs.declared.runner.Runner.{Runner}
use Rattle.wm_run.specs.Launch.{AreLaunched}
use Rattle.wm_run.specs.Runner.{IsSet, RunnersMove, StepsFrom, none_moves, one_moves, runner_state, script_state}
use Rattle.wm_run.specs.Script.{ScriptState}
use Rattle.wm_run.specs.Traced.{AreStartsOf, IsAt, IsStartOf, StepMoves, TurnMoves, goes_on, stays}
use Rattle.wm_run.specs.Traced as traced
use Rattle.wm_run.specs.Tracing.{ArePositions, machines_of}
use Rattle.wm_run.proofs.Turns.{IsOf, program_at, standing_at}

-- a list with the same item again
same_set : {X : Type 0} (xs : List X) (t : ℕ) (x y : X) → slice_get xs t ≡ Some x → y ≡ x → set xs t y ≡ xs
same_set xs t x y at is = ap (set xs t) (is ∙ sym (get_or_from_slice_get xs t x x at)) ∙ set-get_or xs t x

ended_or_not : (c : Config) → HasEnded c ⊎ (HasEnded c → ⊥)
ended_or_not (Running func vars body) = inr (λ over. over)
ended_or_not (Over end) = inl tt

-- a position for each thread
pub many_positions : (xs : List Runner) (machines : List State) (ps : List CodePosition) → ArePositions xs machines ps → length ps ≡ length xs
many_positions xs machines ps are = ap length are.positions_are ∙ length-map machines position_of ∙ are.count

-- the state of a thread, among those of all
machine_at : (xs : List Runner) (machines : List State) (ps : List CodePosition) (t : ℕ) (x : Runner) → ArePositions xs machines ps → slice_get xs t ≡ Some x → (s : State) × (slice_get machines t ≡ Some s)
machine_at xs machines ps t x are at = item_there machines t (let within = slice_get_within xs t x at in omega (arith, within, are.count))

-- the position of its state
position_at : (xs : List Runner) (machines : List State) (ps : List CodePosition) (t : ℕ) (s : State) (p : CodePosition) → ArePositions xs machines ps → slice_get machines t ≡ Some s → slice_get ps t ≡ Some p
    → position_of s ≡ p
position_at xs machines ps t s p are at noted =
    let mapped : slice_get (map position_of machines) t ≡ Some (position_of s) = slice_get-map position_of machines t ∙ ap (option_map position_of) at in
    same_Some (position_of s) p (sym mapped ∙ ap (λ qs. slice_get qs t) (sym are.positions_are) ∙ noted)

pub is_at : (xs : List Runner) (r : Recording) (t : ℕ) (x : Runner) (machines : List State) (ps : List CodePosition) (p : CodePosition) → slice_get xs t ≡ Some x → ArePositions xs machines ps → slice_get ps t ≡ Some p
    → IsAt (script_state xs r) machines t p
is_at xs r t x machines ps p at are noted =
    let s = machine_at xs machines ps t x are at in
    record {
      thread = runner_state x;
      listed = standing_at xs t x at;
      machine = s.0;
      is_machine = s.1;
      config = λ runs. ap config_of (are.each t x s.0 at s.1 runs);
      is_position = position_at xs machines ps t s.0 p are s.1 noted;
    }

-- a thread that was moved, with its new state, which is its own unless it has ended
moved_positions : (xs : List Runner) (machines : List State) (ps : List CodePosition) (t : ℕ) (next : Runner) (u : State) (p : CodePosition) → t < length xs → ArePositions xs machines ps → p ≡ position_of u
    → ((HasEnded (config_of next.thread) → ⊥) → u ≡ next.thread) → ArePositions (set xs t next) (set machines t u) (set ps t p)
moved_positions xs machines ps t next u p there are is own = record {
  count = length-set machines t u ∙ are.count ∙ sym (length-set xs t next);
  each = each;
  positions_are = ap (set ps t) is ∙ ap (λ qs. set qs t (position_of u)) are.positions_are ∙ sym (map-set position_of machines t u);
}
  where
    each_by : (k : ℕ) (y : Runner) (s : State) → (k ≡ t) ⊎ (k ≢ t) → slice_get (set xs t next) k ≡ Some y → slice_get (set machines t u) k ≡ Some s → (HasEnded (config_of y.thread) → ⊥) → s ≡ y.thread
    each_by k y s (inl same) of_y of_s runs =
        let y_is : next ≡ y = same_Some next y (sym (slice_get-set_same xs t next there) ∙ ap (slice_get (set xs t next)) (sym same) ∙ of_y) in
        let there' : t < length machines = omega (arith, there, are.count) in
        let s_is : u ≡ s = same_Some u s (sym (slice_get-set_same machines t u there') ∙ ap (slice_get (set machines t u)) (sym same) ∙ of_s) in
        sym s_is ∙ own (subst (λ (z : Runner). HasEnded (config_of z.thread) → ⊥) (sym y_is) runs) ∙ ap (λ (z : Runner). z.thread) y_is
    each_by k y s (inr not) of_y of_s runs =
        are.each k y s (sym (slice_get-set_other xs t k next not) ∙ of_y) (sym (slice_get-set_other machines t k u not) ∙ of_s) runs

    each : (k : ℕ) (y : Runner) (s : State) → slice_get (set xs t next) k ≡ Some y → slice_get (set machines t u) k ≡ Some s → (HasEnded (config_of y.thread) → ⊥) → s ≡ y.thread
    each k y s of_y of_s runs = each_by k y s (cases_eq k t) of_y of_s runs

-- the position of a thread after a turn, if it was p before: that of its next step, or p if it has ended
pub record IsPositionAfter (y : Runner) (p after : CodePosition) : Type 0 where
  pub goes_on : (HasEnded (config_of y.thread) → ⊥) → after ≡ position_of y.thread
  pub ended : HasEnded (config_of y.thread) → after ≡ p

-- the states of the threads after a turn
pub record HasMoved (m : Module) (t : ℕ) (old new : ScriptState) (ys : List Runner) (machines : List State) (ps : List CodePosition) : Type 0 where
  pub moved : List State
  pub are : ArePositions ys moved ps
  pub moves : TurnMoves m t old new machines moved

-- no thread was moved
none_moved : (m : Module) (t : ℕ) (xs : List Runner) (r r' : Recording) (x : Runner) (machines : List State) (ps : List CodePosition) (p after : CodePosition) → slice_get xs t ≡ Some x → ArePositions xs machines ps
    → slice_get ps t ≡ Some p → IsPositionAfter x p after → HasMoved m t (script_state xs r) (script_state xs r') xs machines (set ps t after)
none_moved m t xs r r' x machines ps p after at are noted is = record {
  moved = machines;
  are = subst (ArePositions xs machines) (sym (same_set ps t p after noted (by_end (ended_or_not (config_of x.thread))))) are;
  moves = traced.none_moves refl;
}
  where
    by_end : HasEnded (config_of x.thread) ⊎ (HasEnded (config_of x.thread) → ⊥) → after ≡ p
    by_end (inl over) = is.ended over
    by_end (inr runs) =
        let s = machine_at xs machines ps t x are at in
        is.goes_on runs ∙ ap position_of (sym (are.each t x s.0 at s.1 runs)) ∙ position_at xs machines ps t s.0 p are s.1 noted

-- thread t was moved
one_moved : (m : Module) (t : ℕ) (xs : List Runner) (r r' : Recording) (x next : Runner) (machines : List State) (ps : List CodePosition) (p after : CodePosition) → IsOf m x → IsOf m next → slice_get xs t ≡ Some x
    → next.made ≡ suc x.made → StepsFrom x.thread next.thread → ArePositions xs machines ps → slice_get ps t ≡ Some p → IsPositionAfter next p after
    → HasMoved m t (script_state xs r) (script_state (set xs t next) r') (set xs t next) machines (set ps t after)
one_moved m t xs r r' x next machines ps p after of_x of_next at made from are noted is = by_end (ended_or_not (config_of next.thread))
  where
    there : t < length xs
    there = slice_get_within xs t x at

    s : (s : State) × (slice_get machines t ≡ Some s)
    s = machine_at xs machines ps t x are at

    from_own : s.0 ≡ x.thread
    from_own = are.each t x s.0 at s.1 from.runs

    by : (u : State) → StepMoves m (config_of next.thread) s.0 u → after ≡ position_of u → ((HasEnded (config_of next.thread) → ⊥) → u ≡ next.thread)
        → HasMoved m t (script_state xs r) (script_state (set xs t next) r') (set xs t next) machines (set ps t after)
    by u moves is_after own = record {
      moved = set machines t u;
      are = moved_positions xs machines ps t next u after there are is_after own;
      moves = traced.one_moves (standing_at xs t x at) (standing_at (set xs t next) t next (slice_get-set_same xs t next there)) made s.1 moves;
    }

    by_end : HasEnded (config_of next.thread) ⊎ (HasEnded (config_of next.thread) → ⊥) → HasMoved m t (script_state xs r) (script_state (set xs t next) r') (set xs t next) machines (set ps t after)
    by_end (inl over) = by s.0 (stays over) (is.ended over ∙ sym (position_at xs machines ps t s.0 p are s.1 noted)) (λ runs. absurd (runs over))
    by_end (inr runs) =
        let moves : Moves m s.0 next.thread = subst (λ z. Moves m z next.thread) (sym from_own) (subst (λ n. Moves n x.thread next.thread) of_x from.moves) in
        by next.thread (goes_on runs of_next refl moves) (is.goes_on runs) (λ runs'. refl)

-- a turn of thread t
pub turn_moved : (m : Module) (t : ℕ) (xs ys : List Runner) (r r' : Recording) (x y : Runner) (machines : List State) (ps : List CodePosition) (p after : CodePosition) → IsSet m xs r → IsSet m ys r' → RunnersMove t xs ys
    → slice_get xs t ≡ Some x → slice_get ys t ≡ Some y → ArePositions xs machines ps → slice_get ps t ≡ Some p → IsPositionAfter y p after
    → HasMoved m t (script_state xs r) (script_state ys r') ys machines (set ps t after)
turn_moved m t xs _ r r' x y machines ps p after set set' (one_moves {runner = runner} {next = next} at' made from) at at_y are noted is =
    let there : t < length xs = slice_get_within xs t x at in
    let now : slice_get (slice_set xs t next) t ≡ Some next = slice_get-set_same xs t next there in
    let is' : IsPositionAfter next p after = subst (λ z. IsPositionAfter z p after) (same_Some y next (sym at_y ∙ now)) is in
    one_moved m t xs r r' runner next machines ps p after (program_at m xs t runner set.programs at') (program_at m (slice_set xs t next) t next set'.programs now) at' made from are noted is'
turn_moved m t xs _ r r' x y machines ps p after set set' none_moves at at_y are noted is =
    none_moved m t xs r r' x machines ps p after at are noted (subst (λ z. IsPositionAfter z p after) (same_Some y x (sym at_y ∙ at)) is)

-- the threads that are there, with the positions of their next steps
pub first_positions : (xs : List Runner) (ps : List CodePosition) → ps ≡ map (λ (x : Runner). position_of x.thread) xs → ArePositions xs (machines_of xs) ps
first_positions xs ps is = record {
  count = length-map xs (λ (x : Runner). x.thread);
  each = λ t x s of_x of_s runs.
      same_Some s x.thread (sym of_s ∙ slice_get-map (λ (z : Runner). z.thread) xs t ∙ ap (option_map (λ (z : Runner). z.thread)) of_x);
  positions_are = is ∙ sym (map-map position_of (λ (x : Runner). x.thread) xs);
}

-- the threads that were started
pub first_machines : (m : Module) (starts : List Start) (xs : List Runner) (r : Recording) → AreLaunched m starts xs → AreStartsOf m (script_state xs r) (machines_of xs)
first_machines m starts xs r launched = record {
  count = length-map xs (λ (x : Runner). x.thread) ∙ sym (length-map xs runner_state);
  each = λ t z s of_z of_s.
      let there : t < length xs = let within = slice_get_within (map runner_state xs) t z of_z in omega (arith, within, length-map xs runner_state) in
      let x = item_there xs t there in
      let start = item_there starts t (omega (arith, there, launched.count)) in
      let is = launched.each t start.0 x.0 start.1 x.1 in
      let z_is : runner_state x.0 ≡ z = same_Some (runner_state x.0) z (sym (standing_at xs t x.0 x.1) ∙ of_z) in
      let s_is : x.0.thread ≡ s = same_Some x.0.thread s (sym (slice_get-map (λ (y : Runner). y.thread) xs t ∙ ap (option_map (λ (y : Runner). y.thread)) x.1) ∙ of_s) in
      let own : IsStartOf m (runner_state x.0).config x.0.thread = record { program = is.program; config_is = refl; at_start = is.at_start } in
      subst (λ w. IsStartOf m w.config s) z_is (subst (IsStartOf m (runner_state x.0).config) s_is own);
}
