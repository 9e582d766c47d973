-- What a turn makes of the threads and of their recorder.
use Rattle.std.proofs.Common.{◌≡◌, ℕ, List, ◌++◌, refl, sym, ap, subst, ◌∙◌, length, map, slice_get, Some, All, set, length-set}
use Rattle.std.specs.Prelude.{option_map}
use Rattle.std.proofs.lemmas.List.{length-map, map-set, set-get_or}
use Rattle.std.proofs.lemmas.List.Elements.{All-get_or, All-set}
use Rattle.std.proofs.lemmas.Option.{get_or_from_slice_get, slice_get-map, slice_get_within}
use Rattle.wm_ast.specs.declared.module.Module.{Module}
use Rattle.wm_machine.specs.State.{State}
use Rattle.wm_memory.specs.declared.history_step.HistoryStep.{HistoryStep}
use Rattle.wm_memory.specs.Legal.{MayFollow}
use Rattle.wm_recorder.specs.Recorder.{Recording, initial_of, steps_of, threads_of}
use Rattle.wm_valid.specs.Valid.{IsInit}
use Rattle.wm_run.specs.declared.runner.Moved.TheVariants.{Rested}
use Rattle.wm_run.specs.declared.runner.Runner.{Runner}
use Rattle.wm_run.specs.declared.turn.Turn.{Turn}
use Rattle.wm_run.specs.declared.turn.Turn.TheVariants.{Step}
use Rattle.wm_run.specs.Runner.{Advances, DrainsBy, IsSet, Moves, RunnerStep, RunnersMove, TakesTurn, script_state, setting_of, runner_state}
use Rattle.wm_run.specs.Runner as runner
use Rattle.wm_run.specs.Script.{Rests, TurnLeads, drain_of, drains, keeps, rests, steps_on}

-- a thread that rests is as it was
pub rested : (t limit : ℕ) (old : Runner) (r : Recording) (new : State) (r' : Recording) → Advances t old.thread r new r' Rested
    → Moves t limit old r (record { thread = new; made = old.made }) r'
rested t limit old r new r' h =
    runner.rests (ap (λ (thread : State). record { thread = thread; made = old.made }) h.0) h.1 (h.2 old.made limit)

abbrev pub IsOf : Module → Runner → Type 0
IsOf m x = x.thread.module ≡ m

-- the thread of this number is of the module
pub program_at : (m : Module) (xs : List Runner) (t : ℕ) (x : Runner) → All (IsOf m) xs → slice_get xs t ≡ Some x → IsOf m x
program_at m xs t x all is = subst (IsOf m) (get_or_from_slice_get xs t x x is) (All-get_or (IsOf m) xs t x (slice_get_within xs t x is) all)

-- another thread of the module in its place
pub all_set : (m : Module) (xs : List Runner) (t : ℕ) (x : Runner) → All (IsOf m) xs → IsOf m x → All (IsOf m) (set xs t x)
all_set m xs t x all is = All-set (IsOf m) xs t x is all

pub standing_at : (xs : List Runner) (t : ℕ) (x : Runner) → slice_get xs t ≡ Some x → slice_get (map runner_state xs) t ≡ Some (runner_state x)
standing_at xs t x is = slice_get-map runner_state xs t ∙ ap (option_map runner_state) is

set_same : (xs : List Runner) (t : ℕ) (x : Runner) → slice_get xs t ≡ Some x → set xs t x ≡ xs
set_same xs t x is = ap (set xs t) (sym (get_or_from_slice_get xs t x x is)) ∙ set-get_or xs t x

-- a step of thread t
pub turn_stepped : (m : Module) (limit t : ℕ) (xs : List Runner) (r r' : Recording) (old new : Runner) → IsSet m xs r → slice_get xs t ≡ Some old
    → All (IsOf m) (set xs t new) → Moves t limit old r new r' → TakesTurn m limit (Step t) xs r (set xs t new) r'
turn_stepped m limit t xs r r' old new is-set at all (runner.steps_on made from g) =
    let is = program_at m xs t old is-set.programs at in
    let g' : RunnerStep m t limit (runner_state old) r (runner_state new) r' = subst (λ p. RunnerStep p t limit (runner_state old) r (runner_state new) r') is g in
    let count : length (set xs t new) ≡ length xs = length-set xs t new in
    let state : record { threads = set (map runner_state xs) t (runner_state new); history = r.history ++ g'.items } ≡ script_state (set xs t new) r' =
    ap (λ ths. record { threads = ths; history = r.history ++ g'.items }) (sym (map-set runner_state xs t new))
    ∙ ap (λ h. record { threads = map runner_state (set xs t new); history = h }) (sym g'.adds.history) in
    record {
      takes = subst (TurnLeads (setting_of m r limit) (script_state xs r) (Step t)) state (steps_on (standing_at xs t old at) g'.steps);
      moves = runner.one_moves at made from;
      set = record { programs = all; count = g'.adds.threads ∙ is-set.count ∙ sym count; initial = subst (IsInit m) (sym g'.adds.initial) is-set.initial };
      count = count;
      initial = g'.adds.initial;
    }
turn_stepped m limit t xs r r' old new is-set at all (runner.rests same same' rest) =
    let is = program_at m xs t old is-set.programs at in
    let unchanged : set xs t new ≡ xs = ap (set xs t) same ∙ set_same xs t old at in
    let state : script_state xs r ≡ script_state (set xs t new) r' =
    ap (λ ys. script_state ys r) (sym unchanged) ∙ ap (script_state (set xs t new)) (sym same') in
    let rest' = subst (λ p. Rests (setting_of p r limit) r.history (runner_state old)) is rest in
    record {
      takes = subst (TurnLeads (setting_of m r limit) (script_state xs r) (Step t)) state (rests (standing_at xs t old at) rest');
      moves = subst (RunnersMove t xs) (sym unchanged) runner.none_moves;
      set = subst (IsSet m (set xs t new)) (sym same') (subst (λ ys. IsSet m ys r) (sym unchanged) is-set);
      count = length-set xs t new;
      initial = ap initial_of same';
    }

-- a drain
pub turn_drained : (m : Module) (limit : ℕ) (turn : Turn) (drain : HistoryStep) (xs : List Runner) (r r' : Recording) → IsSet m xs r → drain_of turn ≡ Some drain
    → DrainsBy drain r r' → TakesTurn m limit turn xs r xs r'
turn_drained m limit turn drain xs r r' is-set is (runner.drains may adds) =
    let count : threads_of r ≡ length (map runner_state xs) = is-set.count ∙ sym (length-map xs runner_state) in
    let may' = subst (λ n. MayFollow n (length (initial_of r)) (steps_of r) drain) count may in
    record {
      takes = subst (λ h. TurnLeads (setting_of m r limit) (script_state xs r) turn (record { threads = map runner_state xs; history = h })) (sym adds.history) (drains is may');
      moves = runner.none_moves;
      set = record { programs = is-set.programs; count = adds.threads ∙ is-set.count; initial = subst (IsInit m) (sym adds.initial) is-set.initial };
      count = refl;
      initial = adds.initial;
    }
turn_drained m limit turn drain xs r r' is-set is (runner.keeps cannot same) =
    let count : length (map runner_state xs) ≡ threads_of r = length-map xs runner_state ∙ sym is-set.count in
    record {
      takes = subst (λ x. TurnLeads (setting_of m r limit) (script_state xs r) turn (script_state xs x)) (sym same)
          (keeps is (λ may. cannot (subst (λ n. MayFollow n (length (initial_of r)) (steps_of r) drain) count may)));
      moves = runner.none_moves;
      set = subst (IsSet m xs) (sym same) is-set;
      count = refl;
      initial = ap initial_of same;
    }
