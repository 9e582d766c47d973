-- A thread that differs from its log isn't run by it.
use Rattle.std.proofs.Common.{◌≡◌, ℕ, suc, ◌-◌, ◌<◌, inl, inr, List, [], ◌∷◌, ◌++◌, length, take, Option, Some, None, refl, sym, ap, subst, ◌∙◌, length-take-le, arith}
use Rattle.std.specs.Prelude.{Ok, ◌⊎◌, slice_get}
use Rattle.std.proofs.Math.Nat.{eq-or-lt_of_le}
use Rattle.std.proofs.lemmas.Option.{none-some, same_Some}
use Rattle.wm_ast.specs.declared.module.Module.{Module}
use Rattle.wm_event.specs.declared.event.Event.{Event}
use Rattle.wm_event.specs.declared.log.ThreadLog.{ThreadLog}
use Rattle.wm_event.specs.declared.op.OpFields.{OpFields}
use Rattle.wm_event.specs.Op.{event_made}
use Rattle.wm_machine.specs.Term.{Config, NoStep}
use Rattle.wm_machine.specs.Step.{access_of, step}
use Rattle.wm_machine.specs.Run.{Ran, and_run_on, end_of, run_from, run_on, steps}
use Rattle.wm_replay.specs.declared.answer.Place.{Place}
use Rattle.wm_replay.specs.Replay.{DiffersAt, IsRun, MakesNo, Reaches, reads_of, start_of}
use Rattle.wm_replay.specs.Replay.DiffersAt.{access, left_over, end}
use Rattle.wm_replay.proofs.Runs.{more, more_grows, more_none, next_event, outcome_some, steps_more}

-- where the thread is its run, this is how far it is after its stated steps
pub record Whole (m : Module) (k : ℕ) (t : ThreadLog) (start : Config) : Type 0 where
  pub ran : Ran
  pub ran_so : steps m k start (reads_of t.events) t.steps ≡ Some ran
  pub made : ran.events ≡ t.events
  pub ended : end_of ran.config ≡ t.end

pub whole_of : (m : Module) (k : ℕ) (t : ThreadLog) (start : Config) → start_of m t ≡ Ok start → IsRun m k t → Whole m k t start
whole_of m k t start is run =
    let from : run_from m k (Ok start) (reads_of t.events) t.steps ≡ Some record { events = t.events; end = t.end } =
    subst (λ r. run_from m k r (reads_of t.events) t.steps ≡ Some record { events = t.events; end = t.end }) is run in
    let parts = outcome_some (steps m k start (reads_of t.events) t.steps) _ from in
    record { ran = parts.0; ran_so = parts.1; made = parts.2; ended = parts.3 }

-- where no step is made after j of the stated ones, all of them are made by then
pub no_step : (m : Module) (k : ℕ) (ran : Ran) → step m 0 ran.config ≡ NoStep → run_on m k ran ≡ None
no_step m k ran e = rw (e) (rw (e) refl)

-- one step more of the run
pub one_step_more : (m : Module) (k : ℕ) (t : ThreadLog) (start : Config) (w : Whole m k t start) (j : ℕ) (ran : Ran) → steps m k start (reads_of t.events) j ≡ Some ran → j < t.steps
    → (next : Ran) × (run_on m k ran ≡ Some next) × ((es : List Event) × (t.events ≡ next.events ++ es))
one_step_more m k t start w j ran so lt =
    let i = t.steps - suc j in
    let split : steps m k start (reads_of t.events) t.steps ≡ more m k i (steps m k start (reads_of t.events) (suc j)) =
    steps_more m k start (reads_of t.events) i (suc j) t.steps (omega (arith, lt)) in
    let from : Some w.ran ≡ more m k i (run_on m k ran) = sym w.ran_so ∙ split ∙ ap (λ o. more m k i (and_run_on m k o)) so in
    on (run_on m k ran) refl from
  where
    on : (o : Option Ran) → run_on m k ran ≡ o → Some w.ran ≡ more m k (t.steps - suc j) o → (next : Ran) × (run_on m k ran ≡ Some next) × ((es : List Event) × (t.events ≡ next.events ++ es))
    on None is e = absurd (none-some w.ran (sym (more_none m k (t.steps - suc j)) ∙ sym e))
    on (Some next) is e =
        let grown = more_grows m k (t.steps - suc j) next w.ran (sym e) in
        (next, is, (grown.0, sym w.made ∙ grown.1))

-- the event after a list
pub get_behind : (xs : List Event) (e : Event) (es : List Event) → slice_get ((xs ++ e ∷ []) ++ es) (length xs) ≡ Some e
get_behind [] e es = refl
get_behind (x ∷ xs) e es = get_behind xs e es

not_access : (m : Module) (k : ℕ) (t : ThreadLog) (j n : ℕ) (ran : Ran) (a : OpFields) → (r : Reaches m k t j n ran) → j < t.steps
    → ((v : ℕ) → access_of (step m v ran.config) ≡ Some a) → MakesNo record { thread = k; number = n } a (slice_get t.events n) → Whole m k t r.start → ⊥
not_access m k t j n ran a r lt is none w =
    let next = one_step_more m k t r.start w j ran r.ran_so lt in
    let made = next_event m k ran a next.0 is next.1 in
    let count : length ran.events ≡ n = ap length r.made ∙ length-take-le n t.events r.listed in
    let all : t.events ≡ (ran.events ++ event_made record { thread = k; number = length ran.events } a made.0 ∷ []) ++ next.2.0 =
    next.2.1 ∙ ap (λ es. es ++ next.2.0) made.2 in
    let there : slice_get t.events (length ran.events) ≡ Some (event_made record { thread = k; number = length ran.events } a made.0) =
    ap (λ es. slice_get es (length ran.events)) all ∙ get_behind ran.events _ next.2.0 in
    none made.0 made.1 (subst (λ i. slice_get t.events i ≡ Some (event_made record { thread = k; number = i } a made.0)) count there)

-- after all stated steps
at_end : (m : Module) (k : ℕ) (t : ThreadLog) (j n : ℕ) (ran : Ran) (r : Reaches m k t j n ran) → j ≡ t.steps → (w : Whole m k t r.start) → w.ran ≡ ran
at_end m k t j n ran r e w = same_Some w.ran ran (sym w.ran_so ∙ ap (steps m k r.start (reads_of t.events)) (sym e) ∙ r.ran_so)

not_stopped : (m : Module) (k : ℕ) (t : ThreadLog) (j n : ℕ) (ran : Ran) (r : Reaches m k t j n ran) → j < t.steps → step m 0 ran.config ≡ NoStep → Whole m k t r.start → ⊥
not_stopped m k t j n ran r lt e w =
    let next = one_step_more m k t r.start w j ran r.ran_so lt in
    none-some next.0 (sym (no_step m k ran e) ∙ next.1)

not_left : (m : Module) (k : ℕ) (t : ThreadLog) (j n : ℕ) (ran : Ran) (r : Reaches m k t j n ran) → n < length t.events → j ≡ t.steps → Whole m k t r.start → ⊥
not_left m k t j n ran r lt e w =
    let same : take n t.events ≡ t.events = sym r.made ∙ ap (λ (x : Ran). x.events) (sym (at_end m k t j n ran r e w)) ∙ w.made in
    let count : n ≡ length t.events = sym (length-take-le n t.events r.listed) ∙ ap length same in
    omega (arith, lt, count)

-- no further step is made, and an event is left over
not_rest : (m : Module) (k : ℕ) (t : ThreadLog) (j n : ℕ) (ran : Ran) (r : Reaches m k t j n ran) → n < length t.events → step m 0 ran.config ≡ NoStep → Whole m k t r.start → ⊥
not_rest m k t j n ran r lt e w = or_end (eq-or-lt_of_le r.within)
  where
    or_end : (j ≡ t.steps) ⊎ (j < t.steps) → ⊥
    or_end (inl at) = not_left m k t j n ran r lt at w
    or_end (inr before) = not_stopped m k t j n ran r before e w

pub no_run : (m : Module) (k : ℕ) (t : ThreadLog) (place : Place) → DiffersAt m k t place → ¬ IsRun m k t
no_run m k t place (access {j} {n} {ran} {a} r lt is none) run = not_access m k t j n ran a r lt is none (whole_of m k t r.start r.is_start run)
no_run m k t place (left_over {j} {n} {ran} r lt (inl e)) run = not_left m k t j n ran r lt e (whole_of m k t r.start r.is_start run)
no_run m k t place (left_over {j} {n} {ran} r lt (inr e)) run = not_rest m k t j n ran r lt e (whole_of m k t r.start r.is_start run)
no_run m k t place (end {j} {ran} r (inl e)) run =
    let w = whole_of m k t r.start r.is_start run in
    e.1 (ap (λ (x : Ran). end_of x.config) (sym (at_end m k t j (length t.events) ran r e.0 w)) ∙ w.ended)
no_run m k t place (end {j} {ran} r (inr e)) run = not_stopped m k t j (length t.events) ran r e.0 e.1 (whole_of m k t r.start r.is_start run)
