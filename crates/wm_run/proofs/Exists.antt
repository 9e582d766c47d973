-- A valid module, a plan and turns have a scripted run.
use Rattle.std.proofs.Common.{◌≡◌, ℕ, zero, suc, ◌+◌, ◌<◌, ◌⊎◌, inl, inr, List, [], ◌∷◌, ◌++◌, Option, Some, None, Ok, refl, sym, ap, subst, ◌∙◌, arith, length, slice_get, set}
use Rattle.std.proofs.lemmas.Bool.{cases_Bool, cases_lt}
use Rattle.std.proofs.lemmas.Option.{get_or_from_slice_get, slice_get-get_or, slice_get_within}
use Rattle.wm_access.specs.AccessWidth.{bytes_of}
use Rattle.wm_ast.specs.declared.module.Module.{Module}
use Rattle.wm_ast.specs.Module.{memory_size}
use Rattle.wm_event.specs.declared.event.Event.{Event}
use Rattle.wm_event.specs.declared.log.Start.{Start}
use Rattle.wm_event.specs.declared.log.ThreadLog.{ThreadLog}
use Rattle.wm_event.specs.declared.op.OpFields.{OpFields}
use Rattle.wm_event.specs.Event.{writes}
use Rattle.wm_machine.specs.Reach.{HasEnded, LeadsTo, at_once, then_steps}
use Rattle.wm_machine.specs.Start.{started}
use Rattle.wm_machine.specs.Step.{access_of, next_config, step}
use Rattle.wm_machine.specs.Term.{Config, Over, Running}
use Rattle.wm_machine.proofs.Runs.{runs_on}
use Rattle.wm_memory.specs.declared.history_step.HistoryStep.{HistoryStep}
use Rattle.wm_memory.specs.declared.history_step.HistoryStep.TheVariants as item
use Rattle.wm_memory.specs.Memory.{Overlaps, drains_first}
use Rattle.wm_memory.specs.Recorded.{by_thread, order_of, writers_of}
use Rattle.wm_memory.specs.Visibility.{In, Passes, Step, behind, events, pick, waiting}
use Rattle.wm_memory.proofs.Leaving.{meets, overlaps}
use Rattle.wm_memory.proofs.Listed.{get-by_thread, length-by_thread}
use Rattle.wm_recorder.specs.Transcript.{access_items}
use Rattle.wm_replay.proofs.Needs.{made_access, made_local}
use Rattle.wm_replay.proofs.Comparisons.{item_there}
use Rattle.wm_valid.specs.Memory.{init}
use Rattle.wm_valid.specs.Valid.{IsInit, Valid}
use Rattle.wm_run.specs.declared.turn.Turn.{Turn}
use Rattle.wm_run.specs.declared.turn.Turn.TheVariants as turn
use Rattle.wm_run.specs.Plan.{AreTurnsOf, thread_of}
use Rattle.wm_run.specs.Refusal.{AllStart}
use Rattle.wm_run.specs.Run.{Record}
use Rattle.wm_run.specs.Script.{MayDrain, Rests, ScriptState, Setting, StepsTo, ThreadState, TurnLeads, TurnsLead, access, done, drains, ended, full, keeps, local, rests, spent, steps_on, value_read}
use Rattle.wm_run.specs.Scripted.{Begins, HasScriptedRun, IsLogOf, thread_log}
use Rattle.wm_run.proofs.OneEach.{among_others, first_is, one_later}
use Rattle.wm_run.proofs.Runs.{IsSetAt, set_at, turn_count, turns_count}
use Rattle.wm_run.proofs.Runs as runs
use Rattle.wm_run.proofs.SameAccess.{same_access}

-- ---- the initial memory

has_init : (m : Module) → (bytes : List ℕ) × IsInit m bytes
has_init m =
    let bytes : List ℕ = by_thread (init m) (memory_size m) in (
      bytes,
      record {
        size = length-by_thread (init m) (memory_size m);
        each = λ k lt. get_or_from_slice_get bytes k (init m k) 0 (get-by_thread (init m) (memory_size m) k lt);
      },
    )

-- ---- whether a store may leave

meet_or_not : (x y : Event) → Overlaps x y ⊎ (Overlaps x y → ⊥)
meet_or_not x y = elim (cases_Bool (writes x)) [
  | inr none ↦ inr (λ o. let is = (meets x y o).first in absurd cc)
  | inl first ↦ elim (cases_Bool (writes y)) [
    | inr none ↦ inr (λ o. let is = (meets x y o).second in absurd cc)
    | inl second ↦ elim (cases_lt x.address (y.address + bytes_of y.width)) [
      | inr past ↦ inr (λ o. let is = (meets x y o).low in omega (arith, is, past))
      | inl low ↦ elim (cases_lt y.address (x.address + bytes_of x.width)) [
        | inr past ↦ inr (λ o. let is = (meets x y o).high in omega (arith, is, past))
        | inl high ↦ inl (overlaps x y first second low high)
      ]
    ]
  ]
]

-- a write overlaps none of these
abbrev IsApart : Event → List Event → Type 0
IsApart x ys = (y : Event) → In y ys → Overlaps x y → ⊥

apart_or_not : (x : Event) (ys : List Event) → IsApart x ys ⊎ (IsApart x ys → ⊥)
apart_or_not x [] = inl (λ y none o. none)
apart_or_not x (y ∷ ys) = elim (meet_or_not x y) [
  | inl o ↦ inr (λ apart. apart y (inl refl) o)
  | inr not ↦ elim (apart_or_not x ys) [
    | inr meet ↦ inr (λ apart. meet (λ z is o. apart z (inr is) o))
    | inl apart ↦ inl (λ z is o. elim is [ inl same ↦ not (subst (Overlaps x) (sym same) o) | inr later ↦ apart z later o ])
  ]
]

-- each of the ones overlaps none of the others
abbrev AreApart : List Event → List Event → Type 0
AreApart xs ys = (x : Event) → In x xs → IsApart x ys

all_apart_or_not : (xs ys : List Event) → AreApart xs ys ⊎ (AreApart xs ys → ⊥)
all_apart_or_not [] ys = inl (λ x none. absurd none)
all_apart_or_not (x ∷ xs) ys = elim (apart_or_not x ys) [
  | inr meet ↦ inr (λ apart. meet (apart x (inl refl)))
  | inl first ↦ elim (all_apart_or_not xs ys) [
    | inr meet ↦ inr (λ apart. meet (λ z is. apart z (inr is)))
    | inl others ↦ inl (λ z is. elim is [ inl same ↦ subst (λ w. IsApart w ys) same first | inr later ↦ others z later ])
  ]
]

passes_or_not : (k : ℕ) (w : List Event) → Passes k w ⊎ (Passes k w → ⊥)
passes_or_not k w = elim (all_apart_or_not (pick k w) (behind k w)) [
  | inl apart ↦ inl (λ x y a of_x of_y first second. apart x of_x y of_y (a, first, second))
  | inr meet ↦ inr (λ passes. meet (λ x of_x y of_y o. passes x y o.0 of_x of_y o.1 o.2))
]

may_drain_or_not : (g : Setting) (state : ScriptState) (t : ℕ) → t < length state.threads → MayDrain g state (item.Drain t) ⊎ (MayDrain g state (item.Drain t) → ⊥)
may_drain_or_not g state t there = elim (cases_lt 0 (length (waiting (done g state.history) t))) [
  | inl waits ↦ inl (there, waits)
  | inr none ↦ inr (λ may. let some = may.1 in omega (arith, some, none))
]

may_drain_at_or_not : (g : Setting) (state : ScriptState) (t k : ℕ) → t < length state.threads → MayDrain g state (item.DrainAt t k) ⊎ (MayDrain g state (item.DrainAt t k) → ⊥)
may_drain_at_or_not g state t k there = elim (cases_lt k (length (waiting (done g state.history) t))) [
  | inr none ↦ inr (λ may. let some = may.1 in omega (arith, some, none))
  | inl waits ↦ elim (passes_or_not k (waiting (done g state.history) t)) [
    | inl passes ↦ inl (there, waits, passes)
    | inr cannot ↦ inr (λ may. cannot may.2)
  ]
]

-- ---- a step

-- steps of a thread of the module lead to there
record Reaches (m : Module) (c : Config) : Type 0 where
  pub name : List ℕ
  pub args : List ℕ
  pub first : Config
  pub is_first : started m name args ≡ Ok first
  pub leads : LeadsTo m first c

one_further : (m : Module) (read : ℕ) (c next : Config) → Reaches m c → next_config (step m read c) ≡ Some next → Reaches m next
one_further m read c next r is = record { name = r.name; args = r.args; first = r.first; is_first = r.is_first; leads = then_steps read r.leads is }

-- a thread makes a step, or rests
data Goes (g : Setting) (h : List HistoryStep) (t : ℕ) (thread : ThreadState) : Type 0 where
  goes_on : (next : ThreadState) (items : List HistoryStep) → StepsTo g h t thread next items → Reaches g.program next.config → Goes g h t thread
  stays : Rests g h thread → Goes g h t thread

goes_to : (g : Setting) (h : List HistoryStep) (t : ℕ) (thread : ThreadState) → Valid g.program → Reaches g.program thread.config → (HasEnded thread.config → ⊥) → thread.made < g.limit
    → (o : Option OpFields) → access_of (step g.program 0 thread.config) ≡ o → Goes g h t thread
goes_to g h t thread valid r running below None is =
    let next = runs_on g.program r.name r.args r.first thread.config valid r.is_first r.leads running 0 in
    goes_on (record { config = next.0; made = suc thread.made }) [] (local below (made_local (step g.program 0 thread.config) next.0 is next.1)) (one_further g.program 0 thread.config next.0 r next.1)
goes_to g h t thread valid r running below (Some op) is =
    let asks : (read : ℕ) → access_of (step g.program read thread.config) ≡ Some op = λ read. same_access g.program read 0 thread.config ∙ is in
    elim (cases_lt (length (events (done g h))) 16384) [
      | inr much ↦ stays (full op asks much)
      | inl few ↦
          let read = value_read g h t op in
          let next = runs_on g.program r.name r.args r.first thread.config valid r.is_first r.leads running read in
          goes_on (record { config = next.0; made = suc thread.made }) (access_items (drains_first (done g h) t op) t op)
          (access below few asks (made_access (step g.program read thread.config) op next.0 (asks read) next.1)) (one_further g.program read thread.config next.0 r next.1)
    ]

goes_from : (g : Setting) (h : List HistoryStep) (t : ℕ) (thread : ThreadState) (c : Config) → thread.config ≡ c → Valid g.program → Reaches g.program thread.config → thread.made < g.limit → Goes g h t thread
goes_from g h t thread (Over end) is valid r below = stays (ended end is)
goes_from g h t thread (Running func vars body) is valid r below =
    goes_to g h t thread valid r (λ over. let none : HasEnded (Running func vars body) = subst HasEnded is over in none) below (access_of (step g.program 0 thread.config)) refl

goes : (g : Setting) (h : List HistoryStep) (t : ℕ) (thread : ThreadState) → Valid g.program → Reaches g.program thread.config → Goes g h t thread
goes g h t thread valid r = elim (cases_lt thread.made g.limit) [
  | inr all ↦ stays (spent all)
  | inl below ↦ goes_from g h t thread thread.config refl valid r below
]

-- ---- a turn

abbrev AllReach : Module → ScriptState → Type 0
AllReach m state = (t : ℕ) (thread : ThreadState) → slice_get state.threads t ≡ Some thread → Reaches m thread.config

-- the turn leads somewhere
abbrev HasNext : Setting → ScriptState → Turn → Type 0
HasNext g state t = (next : ScriptState) × TurnLeads g state t next × AllReach g.program next

reach_at : (m : Module) (threads : List ThreadState) (u : ℕ) (new : ThreadState) (t : ℕ) (thread : ThreadState) → Reaches m new.config
    → ((k : ℕ) (other : ThreadState) → slice_get threads k ≡ Some other → Reaches m other.config) → IsSetAt threads u new t thread → Reaches m thread.config
reach_at m threads u new t thread r all (runs.new is same) = subst (λ (x : ThreadState). Reaches m x.config) same r
reach_at m threads u new t thread r all (runs.other not at) = all t thread at

reach_set : (m : Module) (threads : List ThreadState) (u : ℕ) (old new : ThreadState) (h : List HistoryStep) → slice_get threads u ≡ Some old → Reaches m new.config
    → ((k : ℕ) (other : ThreadState) → slice_get threads k ≡ Some other → Reaches m other.config) → AllReach m (record { threads = set threads u new; history = h })
reach_set m threads u old new h at r all t thread is = reach_at m threads u new t thread r all (set_at threads u t old new thread at is)

goes_turn : (g : Setting) (state : ScriptState) (t : ℕ) (thread : ThreadState) → slice_get state.threads t ≡ Some thread → AllReach g.program state → Goes g state.history t thread → HasNext g state (turn.Step t)
goes_turn g state t thread at all (goes_on next items st r) = (_, steps_on at st, reach_set g.program state.threads t thread next (state.history ++ items) at r all)
goes_turn g state t thread at all (stays rest) = (state, rests at rest, all)

turn_leads : (g : Setting) (state : ScriptState) (t : Turn) → Valid g.program → AllReach g.program state → thread_of t < length state.threads → HasNext g state t
turn_leads g state (turn.Step t) valid all there =
    let thread = item_there state.threads t there in
    goes_turn g state t thread.0 thread.1 all (goes g state.history t thread.0 valid (all t thread.0 thread.1))
turn_leads g state (turn.Drain t) valid all there = elim (may_drain_or_not g state t there) [
  | inl may ↦ (_, drains refl may, all)
  | inr cannot ↦ (state, keeps refl cannot, all)
]
turn_leads g state (turn.DrainAt t k) valid all there = elim (may_drain_at_or_not g state t k there) [
  | inl may ↦ (_, drains refl may, all)
  | inr cannot ↦ (state, keeps refl cannot, all)
]

turns_lead : (g : Setting) (state : ScriptState) (turns : List Turn) → Valid g.program → AllReach g.program state → AreTurnsOf (length state.threads) turns → (last : ScriptState) × TurnsLead g state turns last
turns_lead g state [] valid all there = (state, refl)
turns_lead g state (t ∷ turns) valid all there =
    let next = turn_leads g state t valid all (there 0 t (slice_get-get_or (t ∷ turns) 0 t (omega arith))) in
    let count : length next.0.threads ≡ length state.threads = turn_count g state next.0 t next.1 in
    let rest = turns_lead g next.0 turns valid next.2 (λ k other at. subst (λ n. thread_of other < n) (sym count) (there (suc k) other (one_later t turns k other at))) in
    (rest.0, (next.0, next.1, rest.1))

-- ---- the first state

record AreBegun (m : Module) (starts : List Start) : Type 0 where
  pub threads : List ThreadState
  pub count : length threads ≡ length starts
  pub each : (t : ℕ) (start : Start) (thread : ThreadState) → slice_get starts t ≡ Some start → slice_get threads t ≡ Some thread → Begins m start thread

begun_at : (m : Module) (start : Start) (starts : List Start) (first : ThreadState) (threads : List ThreadState) → Begins m start first
    → ((t : ℕ) (start : Start) (thread : ThreadState) → slice_get starts t ≡ Some start → slice_get threads t ≡ Some thread → Begins m start thread)
    → (t : ℕ) (other : Start) (thread : ThreadState) → slice_get (start ∷ starts) t ≡ Some other → slice_get (first ∷ threads) t ≡ Some thread → Begins m other thread
begun_at m start starts first threads begins each zero other thread of_start of_thread =
    subst (λ s. Begins m s thread) (first_is start starts other of_start) (subst (Begins m start) (first_is first threads thread of_thread) begins)
begun_at m start starts first threads begins each (suc t) other thread of_start of_thread =
    each t other thread (among_others start starts t other of_start) (among_others first threads t thread of_thread)

begun : (m : Module) (starts : List Start) → AllStart m starts → AreBegun m starts
begun m [] all = record { threads = []; count = refl; each = λ t start thread at. absurd (let within : t < 0 = slice_get_within [] t start at in omega (arith, within)) }
begun m (start ∷ starts) all =
    let c = all 0 start (slice_get-get_or (start ∷ starts) 0 start (omega arith)) in
    let first : ThreadState = record { config = c.0; made = 0 } in
    let rest = begun m starts (λ t other at. all (suc t) other (one_later start starts t other at)) in
    let others = rest.count in
    record {
      threads = first ∷ rest.threads;
      count = omega (arith, others);
      each = begun_at m start starts first rest.threads (record { config = c.1; made = refl }) rest.each;
    }

-- ---- the logs

abbrev logs_behind : List Step → ℕ → List Start → List ThreadState → List ThreadLog
logs_behind s n [] threads = []
logs_behind s n (start ∷ starts) [] = []
logs_behind s n (start ∷ starts) (thread ∷ threads) = thread_log s n start thread ∷ logs_behind s (suc n) starts threads

count_logs : (s : List Step) (n : ℕ) (starts : List Start) (threads : List ThreadState) → length threads ≡ length starts → length (logs_behind s n starts threads) ≡ length starts
count_logs s n [] threads count = refl
count_logs s n (start ∷ starts) [] count = absurd (omega (arith, count))
count_logs s n (start ∷ starts) (thread ∷ threads) count = let rest = count_logs s (suc n) starts threads (omega (arith, count)) in omega (arith, rest)

log_behind : (s : List Step) (n : ℕ) (starts : List Start) (threads : List ThreadState) (t : ℕ) (start : Start) (thread : ThreadState) → slice_get starts t ≡ Some start → slice_get threads t ≡ Some thread
    → slice_get (logs_behind s n starts threads) t ≡ Some (thread_log s (n + t) start thread)
log_behind s n [] threads t start thread of_start of_thread = absurd (let within : t < 0 = slice_get_within [] t start of_start in omega (arith, within))
log_behind s n (x ∷ starts) [] t start thread of_start of_thread = absurd (let within : t < 0 = slice_get_within [] t thread of_thread in omega (arith, within))
log_behind s n (x ∷ starts) (y ∷ threads) zero start thread of_start of_thread =
    let here : slice_get (logs_behind s n (x ∷ starts) (y ∷ threads)) 0 ≡ Some (thread_log s n x y) = slice_get-get_or (logs_behind s n (x ∷ starts) (y ∷ threads)) 0 (thread_log s n x y) (omega arith) in
    let number : n ≡ n + 0 = omega arith in
    here ∙ (ap (λ k. Some (thread_log s k x y)) number ∙ (ap (λ z. Some (thread_log s (n + 0) z y)) (first_is x starts start of_start) ∙ ap (λ z. Some (thread_log s (n + 0) start z)) (first_is y threads thread of_thread)))
log_behind s n (x ∷ starts) (y ∷ threads) (suc t) start thread of_start of_thread =
    let later = log_behind s (suc n) starts threads t start thread (among_others x starts t start of_start) (among_others y threads t thread of_thread) in
    let number : suc n + t ≡ n + suc t = omega arith in
    one_later (thread_log s n x y) (logs_behind s (suc n) starts threads) t (thread_log s (suc n + t) start thread) later ∙ ap (λ k. Some (thread_log s k start thread)) number

has_log : (starts : List Start) (threads : List ThreadState) (s : List Step) → length threads ≡ length starts → (run : Record) × IsLogOf starts threads s run
has_log starts threads s count = (
  record { log = logs_behind s 0 starts threads; witness = record { writers = by_thread (writers_of s) (length starts); order = order_of s } },
  record {
    count = count_logs s 0 starts threads count;
    each = λ t start thread of_start of_thread.
        log_behind s 0 starts threads t start thread of_start of_thread ∙ ap (λ k. Some (thread_log s k start thread)) (let same : 0 + t ≡ t = omega arith in same);
    writers = refl;
    order = refl;
  },
)

-- ---- the whole

reach_first : (m : Module) (starts : List Start) (b : AreBegun m starts) → AllReach m (record { threads = b.threads; history = [] })
reach_first m starts b t thread at =
    let within : t < length b.threads = slice_get_within b.threads t thread at in
    let start = item_there starts t (let count = b.count in omega (arith, within, count)) in
    record { name = start.0.name; args = start.0.args; first = thread.config; is_first = (b.each t start.0 thread start.1 at).config; leads = at_once }

pub has_run : HasScriptedRun
has_run m plan turns valid is all =
    let initial = has_init m in
    let g : Setting = record { program = m; initial = initial.0; limit = plan.steps } in
    let b = begun m plan.starts all in
    let first : ScriptState = record { threads = b.threads; history = [] } in
    let last = turns_lead g first turns valid (reach_first m plan.starts b) (subst (λ n. AreTurnsOf n turns) (sym b.count) is.there) in
    let count : length last.0.threads ≡ length plan.starts = turns_count g first last.0 turns last.1 ∙ b.count in
    let log = has_log plan.starts last.0.threads (done g last.0.history) count in (
      log.0,
      record {
        setting = g;
        program = refl;
        initial = initial.1;
        limit = refl;
        first = first;
        last = last.0;
        begins = record { count = b.count; each = b.each; history = refl };
        plays = last.1;
        logged = log.1;
      },
    )
