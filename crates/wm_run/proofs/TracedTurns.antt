-- What the turns of a script do, as the threads and their recorder show it.
use Rattle.std.proofs.Common.{◌≡◌, ℕ, ◌<◌, ◌≤◌, List, [], ◌∷◌, ◌++◌, Bool, true, false, inl, inr, Option, Some, None, refl, sym, ap, subst, ◌∙◌, arith, length, map, reverse, set, slice_get, append_assoc}
use Rattle.std.specs.Prelude.{if◌then◌else◌}
use Rattle.std.proofs.lemmas.Bool.{cases_lt}
use Rattle.std.proofs.lemmas.List.{append-nil, length-map, length-reverse, reverse-reverse}
use Rattle.std.proofs.lemmas.Option.{none-some, same_Some, slice_get_within}
use Rattle.wm_ast.specs.declared.module.Module.{Module}
use Rattle.wm_event.specs.declared.event.Event.{Event}
use Rattle.wm_event.specs.declared.event.EventKey.{EventKey}
use Rattle.wm_event.specs.declared.op.OpFields.{OpFields}
use Rattle.wm_event.specs.Event.{key_of}
use Rattle.wm_machine.specs.declared.thread.CodePosition.{CodePosition}
use Rattle.wm_machine.specs.State.{State}
use Rattle.wm_memory.specs.Memory.{Buffered, CannotLeave, DrainsFirst, MayLeave, drains_first}
use Rattle.wm_memory.specs.Visibility.{Drained, Passes, Step, accesses, steps, waiting}
use Rattle.wm_recorder.specs.Recorder.{IsRecording, Recording, initial_of, steps_of, threads_of}
use Rattle.wm_replay.proofs.Comparisons.{item_there}
use Rattle.wm_run.specs.declared.plan.Plan.{Plan}
use Rattle.wm_run.specs.declared.runner.Runner.{Runner}
use Rattle.wm_run.specs.declared.scripts.traced.TracedTurn.{TracedTurn}
use Rattle.wm_run.specs.declared.scripts.traced.TurnDone.{TurnDone}
use Rattle.wm_run.specs.declared.scripts.traced.TurnDone.TheVariants as turn_done
use Rattle.wm_run.specs.declared.turn.Turn.{Turn}
use Rattle.wm_run.specs.declared.turn.Turn.TheVariants as turn
use Rattle.wm_run.specs.Plan.{thread_of}
use Rattle.wm_run.specs.Run.{Record}
use Rattle.wm_run.specs.Runner.{IsSet, TakesTurn, runner_state, script_state, setting_of}
use Rattle.wm_run.specs.Script.{ScriptState, Setting, ThreadState, TurnsLead}
use Rattle.wm_run.specs.Traced.{DrainDoes, Does, IsTraced, IsTracedTurn, StepDoes, TracesTurns, absent, drained, event_of, held, pending, store_before}
use Rattle.wm_run.specs.Tracing.{ArePositions, TakesTraced, TurnDoes, machines_of}
use Rattle.wm_run.proofs.Driving.{Drives, first_scene, logged}
use Rattle.wm_run.proofs.Recordings.{buffered, may_not}
use Rattle.wm_run.proofs.TracedPositions.{IsPositionAfter, first_machines, is_at, turn_moved}
use Rattle.wm_run.proofs.Turns.{program_at, standing_at}
use Rattle.wm_valid.specs.Valid.{IsInit}

-- ---- what the memory shows

-- the stores of a buffer
pub stores_of : (r : Recording) (t : ℕ) (stores : List Event) → IsRecording r → t < threads_of r → ((b : Buffered) → slice_get r.memory.buffers t ≡ Some b → stores ≡ b.stores)
    → stores ≡ reverse (waiting (steps_of r) t)
stores_of r t stores k there is =
    let b = buffered r t k there in
    is b.0 b.1 ∙ sym (reverse-reverse b.0.stores) ∙ ap reverse b.2

pub pending_of : (r : Recording) (t : ℕ) (stores : List Event) → IsRecording r → t < threads_of r → ((b : Buffered) → slice_get r.memory.buffers t ≡ Some b → stores ≡ b.stores)
    → map key_of stores ≡ pending (steps_of r) t
pending_of r t stores k there is = ap (map key_of) (stores_of r t stores k there is)

-- how many accesses a thread made
accesses_are : (r : Recording) (t n : ℕ) → IsRecording r → t < threads_of r → ((b : Buffered) → slice_get r.memory.buffers t ≡ Some b → n ≡ b.accesses) → n ≡ accesses (steps_of r) t
accesses_are r t n k there is =
    let b = buffered r t k there in
    is b.0 b.1 ∙ (k.fits.buffers t b.0 b.1).accesses

-- a drain is no access
accesses_by : (s : List Step) (t u : ℕ) (b : Bool) → accesses (if b then Drained t 0 ∷ s else s) u ≡ accesses s u
accesses_by s t u true = refl
accesses_by s t u false = refl

pub key_is : (m : Module) (limit : ℕ) (r : Recording) (t n : ℕ) (op : OpFields) → IsRecording r → t < threads_of r → ((b : Buffered) → slice_get r.memory.buffers t ≡ Some b → n ≡ b.accesses)
    → record { thread = t; number = n } ≡ event_of (setting_of m r limit) (steps_of r) t op
key_is m limit r t n op k there is =
    ap (λ (number : ℕ). let key : EventKey = record { thread = t; number = number } in key)
    (accesses_are r t n k there is ∙ sym (accesses_by (steps_of r) t t (drains_first (steps_of r) t op)))

-- the store before an access
pub no_store_before : (r : Recording) (t : ℕ) (op : OpFields) (b : Bool) → IsRecording r → DrainsFirst t op r.memory b → b ≡ false → None ≡ store_before (steps_of r) t op
no_store_before r t op b k first is =
    ap (λ (x : Bool). if◌then◌else◌ {A = Option EventKey} x (slice_get (pending (steps_of r) t) 0) None) (sym is ∙ first (threads_of r) (initial_of r) (steps_of r) k.fits)

pub some_store_before : (r : Recording) (t : ℕ) (op : OpFields) (b : Bool) → IsRecording r → DrainsFirst t op r.memory b → b ≡ true → slice_get (pending (steps_of r) t) 0 ≡ store_before (steps_of r) t op
some_store_before r t op b k first is =
    ap (λ (x : Bool). if◌then◌else◌ {A = Option EventKey} x (slice_get (pending (steps_of r) t) 0) None) (sym is ∙ first (threads_of r) (initial_of r) (steps_of r) k.fits)

-- ---- a drain

past_none : {X : Type 0} (xs : List X) (k : ℕ) → slice_get xs k ≡ None → length xs ≤ k
past_none xs k is = elim (cases_lt k (length xs)) [
  | inr past ↦ past
  | inl below ↦ let some = item_there xs k below in absurd (none-some some.0 (sym is ∙ some.1))
]

-- as many stores are pending as wait
pending_count : (s : List Step) (t : ℕ) → length (pending s t) ≡ length (waiting s t)
pending_count s t = length-map (reverse (waiting s t)) key_of ∙ length-reverse (waiting s t)

pub is_absent : (s : List Step) (t k : ℕ) → slice_get (pending s t) k ≡ None → DrainDoes s t k turn_done.Absent
is_absent s t k none = absent (let past = past_none (pending s t) k none in omega (arith, pending_count s t, past))

pub is_held : (r : Recording) (t k : ℕ) (store : EventKey) → IsRecording r → t < threads_of r → slice_get (pending (steps_of r) t) k ≡ Some store → CannotLeave t k r.memory
    → DrainDoes (steps_of r) t k turn_done.Held
is_held r t k store keeps there at cannot =
    let waits : k < length (waiting (steps_of r) t) = omega (arith, pending_count (steps_of r) t, slice_get_within (pending (steps_of r) t) k store at) in
    held waits (may_not r t k keeps cannot there waits)

pub is_drained : (r : Recording) (t k : ℕ) (store : EventKey) → IsRecording r → t < threads_of r → slice_get (pending (steps_of r) t) k ≡ Some store → MayLeave t k r.memory
    → DrainDoes (steps_of r) t k (turn_done.Drained store)
is_drained r t k store keeps there at may =
    let b = buffered r t keeps there in
    let same : may.0 ≡ b.0 = same_Some may.0 b.0 (sym may.1 ∙ b.1) in
    drained store at (subst (Passes k) (ap (λ (x : Buffered). reverse x.stores) same ∙ b.2) may.3)

-- ---- a step

-- an access by the event and the store that were found
pub access_told : (g : Setting) (s : List Step) (t : ℕ) (thread : ThreadState) (op : OpFields) (key : EventKey) (store : Option EventKey)
    → StepDoes g s t thread (turn_done.Accessed (event_of g s t op) (store_before s t op)) → key ≡ event_of g s t op → store ≡ store_before s t op
    → StepDoes g s t thread (turn_done.Accessed key store)
access_told g s t thread op key store does is before =
    subst (λ (k : EventKey). StepDoes g s t thread (turn_done.Accessed k store)) (sym is)
    (subst (λ (o : Option EventKey). StepDoes g s t thread (turn_done.Accessed (event_of g s t op) o)) (sym before) does)

-- ---- a turn

pub does_of : (m : Module) (limit : ℕ) (xs : List Runner) (r : Recording) (t : Turn) (x : Runner) (what : TurnDone) → IsSet m xs r → slice_get xs (thread_of t) ≡ Some x
    → TurnDoes x r limit t what → Does (setting_of m r limit) (script_state xs r) t what
does_of m limit xs r (turn.Step t) x what set at does = (
  runner_state x,
  standing_at xs t x at,
  subst (λ p. StepDoes (setting_of p r limit) (steps_of r) t (runner_state x) what) (program_at m xs t x set.programs at) does,
)
does_of m limit xs r (turn.Drain t) x what set at does = does
does_of m limit xs r (turn.DrainAt t k) x what set at does = does

pub takes_traced : (m : Module) (limit : ℕ) (t : Turn) (xs : List Runner) (r : Recording) (ps : List CodePosition) (x y : Runner) (entry : TracedTurn) (ys : List Runner) (r' : Recording) (after : CodePosition)
    → IsSet m xs r → slice_get xs (thread_of t) ≡ Some x → TakesTurn m limit t xs r ys r' → slice_get ys (thread_of t) ≡ Some y → entry.turn ≡ t → TurnDoes x r limit t entry.done
    → slice_get ps (thread_of t) ≡ Some entry.position → IsPositionAfter y entry.position after → entry.pending ≡ pending (steps_of r') (thread_of t)
    → TakesTraced m limit t xs r ps entry ys r' (set ps (thread_of t) after)
takes_traced m limit t xs r ps x y entry ys r' after set at takes at_y is does noted is_after left = record {
  takes = takes;
  traces = λ machines are.
      let moved = turn_moved m (thread_of t) xs ys r r' x y machines ps entry.position after set takes.set takes.moves at at_y are noted is_after in
      record {
        moved = moved.moved;
        are_positions = moved.are;
        traced = record {
          turn_is = is;
          leads = takes.takes;
          does = does_of m limit xs r t x entry.done set at does;
          at = is_at xs r (thread_of t) x machines ps entry.position at are noted;
          moves = moved.moves;
          left = left ∙ ap (λ (init : List ℕ). pending (steps_over init) (thread_of t)) takes.initial;
        };
      };
}
  where
    steps_over : List ℕ → List Step
    steps_over init = steps init (reverse r'.history)

-- ---- all turns

-- the entries so far, where those of the turns that are left follow
abbrev pub Continues : Setting → ScriptState → List State → List Turn → List TracedTurn → ScriptState → List State → List Turn → Type 0
Continues g first machines turns entries now moved left =
    (more : List TracedTurn) (last : ScriptState) → TracesTurns g now moved left more last → TracesTurns g first machines turns (entries ++ more) last

pub one_more : (g : Setting) (first : ScriptState) (machines : List State) (turns : List Turn) (entries : List TracedTurn) (now next : ScriptState) (moved after : List State) (t : Turn) (left : List Turn) (entry : TracedTurn)
    → Continues g first machines turns entries now moved (t ∷ left) → IsTracedTurn g now moved t entry next after → Continues g first machines turns (entries ++ entry ∷ []) next after left
one_more g first machines turns entries now next moved after t left entry continues traced more last traces =
    subst (λ (xs : List TracedTurn). TracesTurns g first machines turns xs last) (sym (append_assoc entries (entry ∷ []) more)) (continues (entry ∷ more) last (next, after, traced, traces))

-- the same for states of the threads that have these positions
pub record HasTraced (g : Setting) (first : ScriptState) (machines : List State) (turns : List Turn) (entries : List TracedTurn) (runners : List Runner) (r : Recording) (positions : List CodePosition) (left : List Turn) : Type 0 where
  pub moved : List State
  pub are : ArePositions runners moved positions
  pub continues : Continues g first machines turns entries (script_state runners r) moved left

pub all_traced : (g : Setting) (first : ScriptState) (machines : List State) (turns : List Turn) (entries : List TracedTurn) (runners : List Runner) (r : Recording) (positions : List CodePosition) (left : List Turn) → left ≡ []
    → HasTraced g first machines turns entries runners r positions left → TracesTurns g first machines turns entries (script_state runners r)
all_traced g first machines turns entries runners r positions left none has =
    let now = script_state runners r in
    let rest : TracesTurns g now has.moved left [] now = subst (λ (ts : List Turn). TracesTurns g now has.moved ts [] now) (sym none) refl in
    subst (λ (xs : List TracedTurn). TracesTurns g first machines turns xs now) (append-nil entries) (has.continues [] now rest)

-- what is traced is what the turns lead to
pub turns_of_trace : (g : Setting) (first : ScriptState) (machines : List State) (turns : List Turn) (entries : List TracedTurn) (last : ScriptState) → TracesTurns g first machines turns entries last → TurnsLead g first turns last
turns_of_trace g first machines [] [] last traces = traces
turns_of_trace g first machines (t ∷ turns) (entry ∷ entries) last traces = (traces.0, traces.2.leads, turns_of_trace g traces.0 traces.1 turns entries last traces.3)
turns_of_trace g first machines [] (entry ∷ entries) last traces = absurd traces
turns_of_trace g first machines (t ∷ turns) [] last traces = absurd traces

-- ---- the run

pub is_traced : (m : Module) (plan : Plan) (turns : List Turn) (xs : List Runner) (r : Recording) (ys : List Runner) (r' : Recording) (run : Record) (entries : List TracedTurn)
    → Drives m plan turns xs r ys r' run → TracesTurns (setting_of m r plan.steps) (script_state xs r) (machines_of xs) turns entries (script_state ys r')
    → IsTraced m plan turns run entries
is_traced m plan turns xs r ys r' run entries d traces = record {
  setting = setting_of m r plan.steps;
  program = refl;
  initial = subst (IsInit m) (sym d.new.initial) d.is_init;
  limit = refl;
  first = script_state xs r;
  last = script_state ys r';
  begins = first_scene m plan.starts xs d.initial r d.launched d.new;
  machines = machines_of xs;
  at_start = first_machines m plan.starts xs r d.launched;
  traces = traces;
  logged = logged m plan turns xs r ys r' run d;
}
