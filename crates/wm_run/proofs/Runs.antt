-- Each thread of a scripted run is its run on the values that it read.
use Rattle.std.proofs.Common.{◌≡◌, ℕ, suc, ◌*◌, ◌^◌, ◌<◌, ◌≤◌, ◌==◌, inl, inr, List, [], ◌∷◌, ◌++◌, Bool, true, false, Option, Some, None, Ok, refl, sym, ap, subst, ◌∙◌, arith, length, slice_get, set, nat_lt, append_assoc, All, length-set}
use Rattle.std.specs.Prelude.{if◌then◌else◌}
use Rattle.std.proofs.lemmas.Bool.{cases_Bool, eqb-false, eqb-true, ltb-false}
use Rattle.std.proofs.lemmas.List.{append-nil}
use Rattle.std.proofs.lemmas.Option.{none-some, same_Some, slice_get_within}
use Rattle.wm_access.specs.AccessWidth.{Fits, bytes_of}
use Rattle.wm_ast.specs.declared.module.Module.{Module}
use Rattle.wm_event.specs.declared.event.Event.{Event}
use Rattle.wm_event.specs.declared.log.Start.{Start}
use Rattle.wm_event.specs.declared.op.OpFields.{OpFields}
use Rattle.wm_event.specs.Event.{reads}
use Rattle.wm_event.specs.Op.{event_made, kind_finds}
use Rattle.wm_machine.specs.Run.{Ran, Taken, and_run_on, outcome_of, ran_on, ran_with, run_from, steps, take_read, take_where}
use Rattle.wm_machine.specs.Start.{started}
use Rattle.wm_machine.specs.Step.{access_of, step}
use Rattle.wm_machine.specs.Term.{Config, ReducesTo}
use Rattle.wm_memory.specs.declared.history_step.HistoryStep.{HistoryStep}
use Rattle.wm_memory.specs.declared.history_step.HistoryStep.TheVariants as item
use Rattle.wm_memory.specs.Memory.{drains_first, ready}
use Rattle.wm_memory.specs.Recorded.{events_of}
use Rattle.wm_memory.specs.Visibility.{Step, accesses, made_after, step_of}
use Rattle.wm_memory.proofs.Chunks.{slice_get-set_other, slice_get-set_same}
use Rattle.wm_memory.proofs.Listed.{length-events_of}
use Rattle.wm_recorder.specs.Transcript.{access_items}
use Rattle.wm_recorder.proofs.Updates.{events_made, others_events}
use Rattle.wm_recorder.proofs.Recording.{reads_made}
use Rattle.wm_replay.specs.Replay.{IsRun, reads_of}
use Rattle.wm_run.specs.declared.turn.Turn.{Turn}
use Rattle.wm_run.specs.declared.turn.Turn.TheVariants as turn
use Rattle.wm_run.specs.Script.{TurnsLead, ScriptState, Setting, ThreadState, StepsTo, TurnLeads, access, done, drain_of, drains, keeps, local, rests, steps_on}
use Rattle.wm_run.specs.Scripted.{Begins, IsFirstState, thread_log}
use Rattle.wm_run.proofs.Accesses.{added, fits_after, made_again, no_read, one_added, ready_events}

-- ---- one thread

-- thread t has run from its start to its current state, on the values that these events read, whatever would be read
-- next
pub record HasRun (m : Module) (t : ℕ) (start : Start) (thread : ThreadState) (es : List Event) : Type 0 where
  pub first : Config
  pub is_first : started m start.name start.args ≡ Ok first
  pub ran : (more : List ℕ) → steps m t first (reads_of es ++ more) thread.made ≡ Some (record { events = es; config = thread.config; reads = more })

abbrev pub own_read : Event → List ℕ
own_read e = if reads e then e.read ∷ [] else []

reads_one : (e : Event) (b : Bool) (rest : List ℕ) → (if b then e.read ∷ rest else rest) ≡ (if b then e.read ∷ [] else []) ++ rest
reads_one e true rest = refl
reads_one e false rest = refl

reads_cons : (e : Event) (es : List Event) → reads_of (e ∷ es) ≡ own_read e ++ reads_of es
reads_cons e es = reads_one e (reads e) (reads_of es)

reads_append : (es fs : List Event) → reads_of (es ++ fs) ≡ reads_of es ++ reads_of fs
reads_append [] fs = refl
reads_append (e ∷ es) fs =
    reads_cons e (es ++ fs) ∙ ap (λ rs. own_read e ++ rs) (reads_append es fs) ∙ sym (append_assoc (own_read e) (reads_of es) (reads_of fs))
    ∙ ap (λ rs. rs ++ reads_of fs) (sym (reads_cons e es))

reads_last : (es : List Event) (e : Event) (more : List ℕ) → reads_of (es ++ e ∷ []) ++ more ≡ reads_of es ++ (own_read e ++ more)
reads_last es e more =
    ap (λ rs. rs ++ more) (reads_append es (e ∷ []) ∙ ap (λ rs. reads_of es ++ rs) (reads_cons e [] ∙ append-nil (own_read e)))
    ∙ append_assoc (reads_of es) (own_read e) more

-- a step without an access
pub ran_local : (m : Module) (t : ℕ) (start : Start) (thread : ThreadState) (es : List Event) (next : Config) → HasRun m t start thread es → step m 0 thread.config ≡ ReducesTo None next
    → HasRun m t start (record { config = next; made = suc thread.made }) es
ran_local m t start thread es next h leads = record {
  first = h.first;
  is_first = h.is_first;
  ran = λ more.
      ap (and_run_on m t) (h.ran more)
      ∙ ap (λ s. ran_with m t (record { events = es; config = thread.config; reads = more }) (take_read (access_of s) more)) leads
      ∙ ap (ran_on t (record { events = es; config = thread.config; reads = more }) (record { read = 0; others = more })) leads
      ∙ ap (λ fs. Some (record { events = fs; config = next; reads = more })) (append-nil es);
}

fitting : (op : OpFields) (v : ℕ) (more : List ℕ) (b : Bool) → nat_lt v (2 ^ (8 * bytes_of op.width)) ≡ b → v < 2 ^ (8 * bytes_of op.width)
    → if◌then◌else◌ {A = Option Taken} b (Some (record { read = v; others = more })) None ≡ Some (record { read = v; others = more })
fitting op v more true is lt = refl
fitting op v more false is lt = absurd (let past : 2 ^ (8 * bytes_of op.width) ≤ v = ltb-false v (2 ^ (8 * bytes_of op.width)) is in omega (arith, past, lt))

-- the value that the event read is taken
taken : (op : OpFields) (e : Event) (more : List ℕ) (b : Bool) → kind_finds op.kind ≡ b → reads e ≡ b → Fits op.width e.read → (b ≡ false → e.read ≡ 0)
    → take_where b op ((if b then e.read ∷ [] else []) ++ more) ≡ Some (record { read = e.read; others = more })
taken op e more true finds_so reads_so fits none = fitting op e.read more _ refl fits
taken op e more false finds_so reads_so fits none = ap (λ v. Some (record { read = v; others = more })) (sym (none refl))

-- an access that makes this event
pub ran_access : (m : Module) (t : ℕ) (start : Start) (thread : ThreadState) (es : List Event) (op : OpFields) (e : Event) (next : Config) → HasRun m t start thread es
    → access_of (step m 0 thread.config) ≡ Some op → step m e.read thread.config ≡ ReducesTo (Some op) next → reads e ≡ kind_finds op.kind → Fits op.width e.read → (kind_finds op.kind ≡ false → e.read ≡ 0)
    → event_made (record { thread = t; number = length es }) op e.read ≡ e → HasRun m t start (record { config = next; made = suc thread.made }) (es ++ e ∷ [])
ran_access m t start thread es op e next h asks leads reads_so fits none is = record {
  first = h.first;
  is_first = h.is_first;
  ran = λ more.
      let before : Ran = record { events = es; config = thread.config; reads = own_read e ++ more } in
      let takes : take_read (Some op) (own_read e ++ more) ≡ Some (record { read = e.read; others = more }) =
      ap (λ b. take_where (kind_finds op.kind) op ((if b then e.read ∷ [] else []) ++ more)) reads_so ∙ taken op e more (kind_finds op.kind) refl reads_so fits none in
      ap (λ rs. and_run_on m t (steps m t h.first rs thread.made)) (reads_last es e more)
      ∙ ap (and_run_on m t) (h.ran (own_read e ++ more))
      ∙ ap (λ o. ran_with m t before (take_read o (own_read e ++ more))) asks
      ∙ ap (ran_with m t before) takes
      ∙ ap (ran_on t before (record { read = e.read; others = more })) leads
      ∙ ap (λ f. Some (record { events = es ++ f ∷ []; config = next; reads = more })) is;
}

-- at the end nothing is left to be read
pub is_run : (m : Module) (t : ℕ) (start : Start) (thread : ThreadState) (s : List Step) → HasRun m t start thread (events_of s t) → IsRun m t (thread_log s t start thread)
is_run m t start thread s h =
    ap (λ r. run_from m t r (reads_of (events_of s t)) thread.made) h.is_first
    ∙ ap (λ rs. outcome_of (steps m t h.first rs thread.made)) (sym (append-nil (reads_of (events_of s t))))
    ∙ ap outcome_of (h.ran [])

-- ---- all threads

-- each thread of a state has run so
abbrev pub AllRun : Setting → List Start → ScriptState → Type 0
AllRun g starts state = (t : ℕ) (start : Start) (thread : ThreadState) → slice_get starts t ≡ Some start → slice_get state.threads t ≡ Some thread
    → HasRun g.program t start thread (events_of (done g state.history) t)

pub first_run : (g : Setting) (starts : List Start) (state : ScriptState) → IsFirstState g.program starts state → AllRun g starts state
first_run g starts state f t start thread of_start of_thread =
    let begins : Begins g.program start thread = f.each t start thread of_start of_thread in
    let at_once : HasRun g.program t start thread [] = record { first = thread.config; is_first = begins.config; ran = λ more. ap (steps g.program t thread.config more) begins.made } in
    subst (λ h. HasRun g.program t start thread (events_of (done g h) t)) (sym f.history) at_once

-- the thread of a number is the new one there, or another as it was
pub data IsSetAt (xs : List ThreadState) (u : ℕ) (y : ThreadState) (t : ℕ) (z : ThreadState) : Type 0 where
  new : t ≡ u → y ≡ z → IsSetAt xs u y t z
  other : (t ≡ u → ⊥) → slice_get xs t ≡ Some z → IsSetAt xs u y t z

pub set_at : (xs : List ThreadState) (u t : ℕ) (x y z : ThreadState) → slice_get xs u ≡ Some x → slice_get (set xs u y) t ≡ Some z → IsSetAt xs u y t z
set_at xs u t x y z there at = elim (cases_Bool (t == u)) [
  | inl same ↦
      let is : t ≡ u = eqb-true t u same in
      new is (same_Some y z (sym (slice_get-set_same xs u y (slice_get_within xs u x there)) ∙ ap (slice_get (set xs u y)) (sym is) ∙ at))
  | inr differs ↦
      let not : t ≡ u → ⊥ = eqb-false t u differs in
      other not (sym (slice_get-set_other xs u t y not) ∙ at)
]

-- what an access of thread u makes
abbrev pub event_after : Setting → List HistoryStep → ℕ → OpFields → Event
event_after g h u op = made_after g.initial (ready (done g h) u op) u op

-- its thread has one event more
pub own_events : (g : Setting) (h : List HistoryStep) (u : ℕ) (op : OpFields) → events_of (done g (h ++ access_items (drains_first (done g h) u op) u op)) u ≡ events_of (done g h) u ++ event_after g h u op ∷ []
own_events g h u op =
    ap (λ s. events_of s u) (added g.initial h u op) ∙ events_made g.initial (ready (done g h) u op) u op ∙ ap (λ es. es ++ event_after g h u op ∷ []) (ready_events (done g h) u u op)

-- another thread has the same ones
pub same_events : (g : Setting) (h : List HistoryStep) (u t : ℕ) (op : OpFields) → (t ≡ u → ⊥) → events_of (done g (h ++ access_items (drains_first (done g h) u op) u op)) t ≡ events_of (done g h) t
same_events g h u t op not =
    ap (λ s. events_of s t) (added g.initial h u op) ∙ others_events g.initial (ready (done g h) u op) u op t not ∙ ready_events (done g h) u t op

pub drain_events : (g : Setting) (h : List HistoryStep) (t : ℕ) (turn : Turn) (drain : HistoryStep) → drain_of turn ≡ Some drain → events_of (done g (h ++ drain ∷ [])) t ≡ events_of (done g h) t
drain_events g h t (turn.Step u) drain is = absurd (none-some drain is)
drain_events g h t (turn.Drain u) drain is =
    ap (λ s. events_of s t) (one_added g.initial h drain) ∙ ap (λ d. events_of (step_of g.initial (done g h) d ∷ done g h) t) (sym (same_Some (item.Drain u) drain is))
drain_events g h t (turn.DrainAt u k) drain is =
    ap (λ s. events_of s t) (one_added g.initial h drain) ∙ ap (λ d. events_of (step_of g.initial (done g h) d ∷ done g h) t) (sym (same_Some (item.DrainAt u k) drain is))

-- a step of thread u
stepped_run : (g : Setting) (h : List HistoryStep) (u : ℕ) (start : Start) (thread next : ThreadState) (items : List HistoryStep) → All (λ b. b < 256) g.initial → StepsTo g h u thread next items
    → HasRun g.program u start thread (events_of (done g h) u) → HasRun g.program u start next (events_of (done g (h ++ items)) u)
stepped_run g h u start thread _ _ bytes (local {next = next} lt leads) run =
    subst (λ k. HasRun g.program u start (record { config = next; made = suc thread.made }) (events_of (done g k) u)) (sym (append-nil h)) (ran_local g.program u start thread (events_of (done g h) u) next run leads)
stepped_run g h u start thread _ _ bytes (access {op = op} {next = next} lt few asks leads) run =
    let s = ready (done g h) u op in
    let e = event_after g h u op in
    let count : length (events_of (done g h) u) ≡ accesses s u = ap length (sym (ready_events (done g h) u u op)) ∙ length-events_of s u in
    let is : event_made (record { thread = u; number = length (events_of (done g h) u) }) op e.read ≡ e =
    ap (λ n. event_made (record { thread = u; number = n }) op e.read) count ∙ made_again (record { thread = u; number = accesses s u }) op _ in
    subst (HasRun g.program u start (record { config = next; made = suc thread.made })) (sym (own_events g h u op))
    (ran_access g.program u start thread (events_of (done g h) u) op e next run (asks 0) leads (reads_made op.kind _) (fits_after g.initial s u op bytes) (no_read g.initial s u op) is)

others_run : (g : Setting) (h : List HistoryStep) (u t : ℕ) (start : Start) (thread next z : ThreadState) (items : List HistoryStep) → (t ≡ u → ⊥) → StepsTo g h u thread next items
    → HasRun g.program t start z (events_of (done g h) t) → HasRun g.program t start z (events_of (done g (h ++ items)) t)
others_run g h u t start thread _ z _ not (local lt leads) run = subst (λ k. HasRun g.program t start z (events_of (done g k) t)) (sym (append-nil h)) run
others_run g h u t start thread _ z _ not (access {op = op} lt few asks leads) run = subst (HasRun g.program t start z) (sym (same_events g h u t op not)) run

-- a turn
pub turn_run : (g : Setting) (starts : List Start) (old new : ScriptState) (turn : Turn) → All (λ b. b < 256) g.initial → TurnLeads g old turn new → AllRun g starts old → AllRun g starts new
turn_run g starts old _ _ bytes (steps_on {t = u} {thread = thread} {next = next} {items = items} at st) run t start z of_start of_z =
    elim (set_at old.threads u t thread next z at of_z) [
      | new same is ↦
          let start_there : slice_get starts u ≡ Some start = ap (slice_get starts) (sym same) ∙ of_start in
          let own : HasRun g.program u start next (events_of (done g (old.history ++ items)) u) = stepped_run g old.history u start thread next items bytes st (run u start thread start_there at) in
          subst (λ x. HasRun g.program t start x (events_of (done g (old.history ++ items)) t)) is (subst (λ k. HasRun g.program k start next (events_of (done g (old.history ++ items)) k)) (sym same) own)
      | other not there ↦ others_run g old.history u t start thread next z items not st (run t start z of_start there)
    ]
turn_run g starts old _ _ bytes (rests at rest) run t start z of_start of_z = run t start z of_start of_z
turn_run g starts old _ turn bytes (drains {drain = drain} is may) run t start z of_start of_z =
    subst (HasRun g.program t start z) (sym (drain_events g old.history t turn drain is)) (run t start z of_start of_z)
turn_run g starts old _ turn bytes (keeps is cannot) run t start z of_start of_z = run t start z of_start of_z

-- as many threads
pub turn_count : (g : Setting) (old new : ScriptState) (turn : Turn) → TurnLeads g old turn new → length new.threads ≡ length old.threads
turn_count g old _ _ (steps_on {t = u} {next = next} at st) = length-set old.threads u next
turn_count g old _ _ (rests at rest) = refl
turn_count g old _ turn (drains is may) = refl
turn_count g old _ turn (keeps is cannot) = refl

-- all turns
pub turns_run : (g : Setting) (starts : List Start) (first last : ScriptState) (turns : List Turn) → All (λ b. b < 256) g.initial → TurnsLead g first turns last → AllRun g starts first → AllRun g starts last
turns_run g starts first last [] bytes plays run = subst (AllRun g starts) plays run
turns_run g starts first last (turn ∷ turns) bytes plays run =
    turns_run g starts plays.0 last turns bytes plays.2 (turn_run g starts first plays.0 turn bytes plays.1 run)

pub turns_count : (g : Setting) (first last : ScriptState) (turns : List Turn) → TurnsLead g first turns last → length last.threads ≡ length first.threads
turns_count g first last [] plays = ap (λ (s : ScriptState). length s.threads) (sym plays)
turns_count g first last (turn ∷ turns) plays = turns_count g plays.0 last turns plays.2 ∙ turn_count g first plays.0 turn plays.1
