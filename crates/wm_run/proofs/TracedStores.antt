-- The stores that a trace names are writes of its run.
use Rattle.std.proofs.Common.{◌≡◌, ℕ, zero, suc, ◌<◌, ◌==◌, inl, inr, Bool, true, false, List, [], ◌∷◌, ◌++◌, Option, Some, None, refl, sym, ap, subst, ◌∙◌, arith, length, map, reverse, slice_get}
use Rattle.std.specs.Prelude.{if◌then◌else◌}
use Rattle.std.proofs.lemmas.Bool.{cases_eq}
use Rattle.std.proofs.lemmas.Option.{none-some, slice_get_within}
use Rattle.wm_event.specs.declared.event.Event.{Event}
use Rattle.wm_event.specs.declared.event.EventKey.{EventKey}
use Rattle.wm_event.specs.declared.op.OpFields.{OpFields}
use Rattle.wm_event.specs.Event.{is_atomic, key_of, writes}
use Rattle.wm_machine.specs.State.{State}
use Rattle.wm_memory.specs.declared.history_step.HistoryStep.{HistoryStep}
use Rattle.wm_memory.specs.declared.history_step.HistoryStep.TheVariants as item
use Rattle.wm_memory.specs.Memory.{drains_first}
use Rattle.wm_memory.specs.Recorded.{events_of}
use Rattle.wm_memory.specs.Visibility.{In, Made, Step, accesses, made_after, own_write, steps, waiting, writers_after}
use Rattle.wm_memory.proofs.Listed.{get-end, get-front, length-events_of}
use Rattle.wm_memory.proofs.Leaving.{in_reverse}
use Rattle.wm_memory.proofs.Members.{own_is, waits_drained, waits_made}
use Rattle.wm_recorder.proofs.Updates.{events_made, others_events}
use Rattle.wm_run.specs.declared.scripts.traced.TracedTurn.{TracedTurn}
use Rattle.wm_run.specs.declared.scripts.traced.TurnDone.{TurnDone}
use Rattle.wm_run.specs.declared.turn.Turn.{Turn}
use Rattle.wm_run.specs.declared.turn.Turn.TheVariants as turn
use Rattle.wm_run.specs.Plan.{thread_of}
use Rattle.wm_run.specs.Script.{ScriptState, Setting, ThreadState, done}
use Rattle.wm_run.specs.Traced.{Does, DrainDoes, IsTracedTurn, StepDoes, TracesTurns, pending}
use Rattle.wm_run.specs.Traced as traced
use Rattle.wm_run.specs.TracedEvents.{TracedStoresAreLogged, store_of}
use Rattle.wm_run.proofs.OneEach.{among_others, first_is}
use Rattle.wm_run.proofs.Runs.{turns_count}
use Rattle.wm_run.proofs.TracedEvents.{HasAt, IsMade, is_logged, stays_made}
use Rattle.wm_run.proofs.TracedTurns.{turns_of_trace}

-- ---- a waiting store is a write of its thread

record IsWriteOf (s : List Step) (t : ℕ) (x : Event) : Type 0 where
  pub at : slice_get (events_of s t) x.number ≡ Some x
  pub thread : x.thread ≡ t
  pub writes : writes x ≡ true

-- what an access does to the steps
abbrev accessed : List ℕ → List Step → ℕ → OpFields → List Step
accessed initial s u op = Made (made_after initial s u op) (writers_after initial s (made_after initial s u op)) ∷ s

own_store : (initial : List ℕ) (s : List Step) (u t : ℕ) (op : OpFields) (x : Event) → u ≡ t → In x (own_write (made_after initial s u op)) → IsWriteOf (accessed initial s u op) t x
own_store initial s u t op x same own =
    let e : Event = made_after initial s u op in
    let is = own_is e x (writes e) refl own in
    let last : slice_get (events_of (accessed initial s u op) u) e.number ≡ Some e =
    ap (λ (es : List Event). slice_get es (accesses s u)) (events_made initial s u op) ∙ ap (slice_get (events_of s u ++ e ∷ [])) (sym (length-events_of s u)) ∙ get-end (events_of s u) e in
    record {
      at = subst (λ (y : Event). slice_get (events_of (accessed initial s u op) t) y.number ≡ Some y) is.0 (subst (λ v. slice_get (events_of (accessed initial s u op) v) e.number ≡ Some e) same last);
      thread = ap (λ (y : Event). y.thread) (sym is.0) ∙ same;
      writes = is.1;
    }

older_store : (initial : List ℕ) (s : List Step) (u t : ℕ) (op : OpFields) (x : Event) → IsWriteOf s t x → IsWriteOf (accessed initial s u op) t x
older_store initial s u t op x w = elim (cases_eq t u) [
  | inl same ↦
      let e : Event = made_after initial s u op in
      let more : events_of (accessed initial s u op) t ≡ events_of s t ++ e ∷ [] =
      subst (λ v. events_of (accessed initial s u op) v ≡ events_of s v ++ e ∷ []) (sym same) (events_made initial s u op) in
      record {
        at = ap (λ (es : List Event). slice_get es x.number) more
            ∙ get-front (events_of s t) e x.number (λ last. let within = slice_get_within (events_of s t) x.number x w.at in omega (arith, within, last)) ∙ w.at;
        thread = w.thread;
        writes = w.writes;
      }
  | inr not ↦ record { at = ap (λ (es : List Event). slice_get es x.number) (others_events initial s u op t not) ∙ w.at; thread = w.thread; writes = w.writes }
]

waiting_is_write : (initial : List ℕ) (h : List HistoryStep) (t : ℕ) (x : Event) → In x (waiting (steps initial h) t) → IsWriteOf (steps initial h) t x
waiting_is_write initial [] t x waits = absurd waits
waiting_is_write initial (item.Drain u ∷ h) t x waits =
    let w = waiting_is_write initial h t x (waits_drained u 0 (steps initial h) t x (u == t) refl waits) in
    record { at = w.at; thread = w.thread; writes = w.writes }
waiting_is_write initial (item.DrainAt u k ∷ h) t x waits =
    let w = waiting_is_write initial h t x (waits_drained u k (steps initial h) t x (u == t) refl waits) in
    record { at = w.at; thread = w.thread; writes = w.writes }
waiting_is_write initial (item.Access u op ∷ h) t x waits =
    let s : List Step = steps initial h in
    let e : Event = made_after initial s u op in
    elim (waits_made e (writers_after initial s e) s t x (e.thread == t) (is_atomic e) refl refl waits) [
      | inl own ↦ own_store initial s u t op x own.0 own.1
      | inr older ↦ older_store initial s u t op x (waiting_is_write initial h t x older)
    ]

named_by : (xs : List Event) (k : ℕ) (key : EventKey) → slice_get (map key_of xs) k ≡ Some key → (x : Event) × In x xs × (key_of x ≡ key)
named_by [] k key at = absurd (let within : k < 0 = slice_get_within (map key_of []) k key at in omega (arith, within))
named_by (y ∷ ys) zero key at = (y, inl refl, first_is (key_of y) (map key_of ys) key at)
named_by (y ∷ ys) (suc k) key at = let later = named_by ys k key (among_others (key_of y) (map key_of ys) k key at) in (later.0, inr later.1, later.2)

-- ---- the store of a turn was waiting

some_if : {X : Type 0} (b : Bool) (o : Option X) (x : X) → (if b then o else None) ≡ Some x → o ≡ Some x
some_if true o x is = is
some_if false o x is = absurd (none-some x is)

abbrev WasPending : List Step → ℕ → EventKey → Type 0
WasPending s t store = (k : ℕ) × (slice_get (pending s t) k ≡ Some store)

step_pending : (g : Setting) (s : List Step) (t : ℕ) (thread : ThreadState) (what : TurnDone) (store : EventKey) → StepDoes g s t thread what → store_of what ≡ Some store → WasPending s t store
step_pending g s t thread _ store (traced.ended over) is = absurd (none-some store is)
step_pending g s t thread _ store (traced.spent running all) is = absurd (none-some store is)
step_pending g s t thread _ store (traced.full op below asks much) is = absurd (none-some store is)
step_pending g s t thread _ store (traced.stepped running below none) is = absurd (none-some store is)
step_pending g s t thread _ store (traced.accessed op below asks few) is = (0, some_if (drains_first s t op) (slice_get (pending s t) 0) store is)

drain_pending : (s : List Step) (t k : ℕ) (what : TurnDone) (store : EventKey) → DrainDoes s t k what → store_of what ≡ Some store → WasPending s t store
drain_pending s t k _ store (traced.drained left at passes) is = (k, at ∙ is)
drain_pending s t k _ store (traced.held waits cannot) is = absurd (none-some store is)
drain_pending s t k _ store (traced.absent past) is = absurd (none-some store is)

turn_pending : (g : Setting) (old : ScriptState) (t : Turn) (what : TurnDone) (store : EventKey) → Does g old t what → store_of what ≡ Some store → WasPending (done g old.history) (thread_of t) store
turn_pending g old (turn.Step t) what store does is = step_pending g (done g old.history) t does.0 what store does.2 is
turn_pending g old (turn.Drain t) what store does is = drain_pending (done g old.history) t 0 what store does is
turn_pending g old (turn.DrainAt t k) what store does is = drain_pending (done g old.history) t k what store does is

-- ---- all turns

-- a thread of the state made the write of this key
abbrev IsMadeWrite : Setting → ScriptState → EventKey → Type 0
IsMadeWrite g state store = (e : Event) × IsMade g state store e × (writes e ≡ true)

turn_names : (g : Setting) (old new : ScriptState) (machines moved : List State) (t : Turn) (entry : TracedTurn) (store : EventKey) → IsTracedTurn g old machines t entry new moved → store_of entry.done ≡ Some store → IsMadeWrite g old store
turn_names g old new machines moved t entry store is names =
    let was = turn_pending g old t entry.done store is.does names in
    let x = named_by (reverse (waiting (done g old.history) (thread_of t))) was.0 store was.1 in
    let w = waiting_is_write g.initial (reverse old.history) (thread_of t) x.0 (in_reverse x.0 (waiting (done g old.history) (thread_of t)) x.1) in
    let thread : store.thread ≡ thread_of t = ap (λ (key : EventKey). key.thread) (sym x.2) ∙ w.thread in (
      x.0,
      record {
        made = subst (λ key. HasAt (done g old.history) key x.0) x.2 (subst (λ u. slice_get (events_of (done g old.history) u) x.0.number ≡ Some x.0) (sym w.thread) w.at);
        named = x.2;
        there = let within = slice_get_within old.threads (thread_of t) is.at.thread is.at.listed in omega (arith, within, thread);
      },
      w.writes,
    )

stores_in : (g : Setting) (first last : ScriptState) (machines : List State) (turns : List Turn) (entries : List TracedTurn) (k : ℕ) (entry : TracedTurn) (store : EventKey) → TracesTurns g first machines turns entries last
    → slice_get entries k ≡ Some entry → store_of entry.done ≡ Some store → IsMadeWrite g last store
stores_in g first last machines [] [] k entry store traces at is = absurd (let within : k < 0 = slice_get_within [] k entry at in omega (arith, within))
stores_in g first last machines [] (x ∷ entries) k entry store traces at is = absurd traces
stores_in g first last machines (t ∷ turns) [] k entry store traces at is = absurd traces
stores_in g first last machines (t ∷ turns) (x ∷ entries) zero entry store traces at is =
    let names : store_of x.done ≡ Some store = ap (λ (y : TracedTurn). store_of y.done) (first_is x entries entry at) ∙ is in
    let made = turn_names g first traces.0 machines traces.1 t x store traces.2 names in
    (made.0, stays_made g first last (t ∷ turns) store made.0 (turns_of_trace g first machines (t ∷ turns) (x ∷ entries) last traces) made.1, made.2)
stores_in g first last machines (t ∷ turns) (x ∷ entries) (suc k) entry store traces at is =
    stores_in g traces.0 last traces.1 turns entries k entry store traces.3 (among_others x entries k entry at) is

pub stores_are_logged : TracedStoresAreLogged
stores_are_logged m plan turns run entries is k entry store at names =
    let count : length is.last.threads ≡ length plan.starts = turns_count is.setting is.first is.last turns (turns_of_trace is.setting is.first is.machines turns entries is.last is.traces) ∙ is.begins.count in
    let made = stores_in is.setting is.first is.last is.machines turns entries k entry store is.traces at names in
    (made.0, is_logged plan.starts is.setting is.last run store made.0 count is.logged made.1, made.1.named, made.2)
