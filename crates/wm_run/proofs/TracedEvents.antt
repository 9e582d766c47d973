-- The accesses that a trace names are events of its run.
use Rattle.std.proofs.Common.{◌≡◌, ℕ, zero, suc, ◌<◌, inl, inr, List, [], ◌∷◌, ◌++◌, Option, Some, refl, sym, ap, subst, ◌∙◌, arith, length, slice_get, option_and_then}
use Rattle.std.proofs.lemmas.Bool.{cases_eq}
use Rattle.std.proofs.lemmas.List.{append-nil}
use Rattle.std.proofs.lemmas.Option.{none-some, same_Some, slice_get_within}
use Rattle.wm_event.specs.declared.event.Event.{Event}
use Rattle.wm_event.specs.declared.event.EventKey.{EventKey}
use Rattle.wm_event.specs.declared.log.Start.{Start}
use Rattle.wm_event.specs.declared.log.ThreadLog.{ThreadLog}
use Rattle.wm_event.specs.declared.op.OpFields.{OpFields}
use Rattle.wm_event.specs.Event.{key_of}
use Rattle.wm_event.specs.Limits.{max_events}
use Rattle.wm_event.specs.Log.{event_in}
use Rattle.wm_machine.specs.State.{State}
use Rattle.wm_machine.specs.Step.{access_of, step}
use Rattle.wm_memory.specs.declared.history_step.HistoryStep.{HistoryStep}
use Rattle.wm_memory.specs.Memory.{drains_first, ready}
use Rattle.wm_memory.specs.Recorded.{events_of}
use Rattle.wm_memory.specs.Visibility.{Step, accesses, events}
use Rattle.wm_memory.proofs.Listed.{get-end, get-front, length-events_of}
use Rattle.wm_recorder.specs.Transcript.{access_items}
use Rattle.wm_replay.proofs.Comparisons.{item_there}
use Rattle.wm_run.specs.declared.scripts.traced.TracedTurn.{TracedTurn}
use Rattle.wm_run.specs.declared.scripts.traced.TurnDone.{TurnDone}
use Rattle.wm_run.specs.declared.scripts.traced.TurnDone.TheVariants.{Accessed}
use Rattle.wm_run.specs.declared.turn.Turn.{Turn}
use Rattle.wm_run.specs.declared.turn.Turn.TheVariants as turn
use Rattle.wm_run.specs.Run.{Record}
use Rattle.wm_run.specs.Script.{Rests, ScriptState, Setting, StepsTo, ThreadState, TurnLeads, TurnsLead, access, done, drains, ended, full, keeps, local, rests, spent, steps_on}
use Rattle.wm_run.specs.Scripted.{IsLogOf}
use Rattle.wm_run.specs.Traced.{Asks, Does, DrainDoes, StepDoes, TracesTurns, event_of}
use Rattle.wm_run.specs.Traced as traced
use Rattle.wm_run.specs.TracedEvents.{TracedAccessesAreLogged}
use Rattle.wm_run.proofs.Accesses.{ready_events}
use Rattle.wm_run.proofs.Once.{no_access}
use Rattle.wm_run.proofs.OneEach.{among_others, first_is}
use Rattle.wm_run.proofs.Runs.{drain_events, event_after, own_events, same_events, turn_count, turns_count}
use Rattle.wm_run.proofs.TracedTurns.{turns_of_trace}

-- the steps made this event as the one of this key
abbrev pub HasAt : List Step → EventKey → Event → Type 0
HasAt s key e = slice_get (events_of s key.thread) key.number ≡ Some e

-- a thread of the state made this event, which has this key
pub record IsMade (g : Setting) (state : ScriptState) (key : EventKey) (e : Event) : Type 0 where
  pub made : HasAt (done g state.history) key e
  pub named : key_of e ≡ key
  pub there : key.thread < length state.threads

-- ---- an event that was made stays

after_step : (g : Setting) (h : List HistoryStep) (u : ℕ) (thread next : ThreadState) (items : List HistoryStep) (key : EventKey) (e : Event) → StepsTo g h u thread next items → HasAt (done g h) key e
    → HasAt (done g (h ++ items)) key e
after_step g h u thread _ _ key e (local lt leads) at = subst (λ k. HasAt (done g k) key e) (sym (append-nil h)) at
after_step g h u thread _ _ key e (access {op = op} lt few asks leads) at = elim (cases_eq key.thread u) [
  | inl same ↦
      let older : List Event = events_of (done g h) key.thread in
      let more : events_of (done g (h ++ access_items (drains_first (done g h) u op) u op)) key.thread ≡ older ++ event_after g h u op ∷ [] =
      subst (λ t. events_of (done g (h ++ access_items (drains_first (done g h) u op) u op)) t ≡ events_of (done g h) t ++ event_after g h u op ∷ []) (sym same) (own_events g h u op) in
      ap (λ (es : List Event). slice_get es key.number) more
      ∙ get-front older (event_after g h u op) key.number (λ last. let within = slice_get_within older key.number e at in omega (arith, within, last)) ∙ at
  | inr not ↦ ap (λ (es : List Event). slice_get es key.number) (same_events g h u key.thread op not) ∙ at
]

after_turn : (g : Setting) (old new : ScriptState) (t : Turn) (key : EventKey) (e : Event) → TurnLeads g old t new → HasAt (done g old.history) key e → HasAt (done g new.history) key e
after_turn g old _ _ key e (steps_on {t = u} {thread = thread} {next = next} {items = items} at st) made = after_step g old.history u thread next items key e st made
after_turn g old _ _ key e (rests at rest) made = made
after_turn g old _ t key e (drains {drain = drain} is may) made = ap (λ (es : List Event). slice_get es key.number) (drain_events g old.history key.thread t drain is) ∙ made
after_turn g old _ t key e (keeps is cannot) made = made

after_turns : (g : Setting) (now last : ScriptState) (turns : List Turn) (key : EventKey) (e : Event) → TurnsLead g now turns last → HasAt (done g now.history) key e → HasAt (done g last.history) key e
after_turns g now last [] key e leads made = subst (λ (s : ScriptState). HasAt (done g s.history) key e) leads made
after_turns g now last (t ∷ turns) key e leads made = after_turns g leads.0 last turns key e leads.2 (after_turn g now leads.0 t key e leads.1 made)

pub stays_made : (g : Setting) (now last : ScriptState) (turns : List Turn) (key : EventKey) (e : Event) → TurnsLead g now turns last → IsMade g now key e → IsMade g last key e
stays_made g now last turns key e leads made = record {
  made = after_turns g now last turns key e leads made.made;
  named = made.named;
  there = let there = made.there in let count = turns_count g now last turns leads in omega (arith, count, there);
}

-- ---- an access makes its event

-- it is the last one of its thread
last_made : (g : Setting) (h : List HistoryStep) (t : ℕ) (op : OpFields) → HasAt (done g (h ++ access_items (drains_first (done g h) t op) t op)) (event_of g (done g h) t op) (event_after g h t op)
last_made g h t op =
    let s : List Step = ready (done g h) t op in
    let count : accesses s t ≡ length (events_of (done g h) t) = sym (length-events_of s t) ∙ ap length (ready_events (done g h) t t op) in
    ap (λ (es : List Event). slice_get es (accesses s t)) (own_events g h t op)
    ∙ ap (slice_get (events_of (done g h) t ++ event_after g h t op ∷ [])) count ∙ get-end (events_of (done g h) t) (event_after g h t op)

made_by : (g : Setting) (h : List HistoryStep) (t : ℕ) (thread next : ThreadState) (items : List HistoryStep) (op : OpFields) → Asks g thread op → StepsTo g h t thread next items
    → HasAt (done g (h ++ items)) (event_of g (done g h) t op) (event_after g h t op)
made_by g h t thread _ _ op asks (local {next = c} lt leads) = absurd (no_access op c (step g.program 0 thread.config) leads (asks 0))
made_by g h t thread _ _ op asks (access {op = other} lt few asks' leads) =
    let same : op ≡ other = same_Some op other (sym (asks 0) ∙ asks' 0) in
    subst (λ o. HasAt (done g (h ++ access_items (drains_first (done g h) t other) t other)) (event_of g (done g h) t o) (event_after g h t o)) (sym same) (last_made g h t other)

cannot_rest : (g : Setting) (h : List HistoryStep) (thread : ThreadState) (op : OpFields) → thread.made < g.limit → Asks g thread op → length (events (done g h)) < max_events → Rests g h thread → ⊥
cannot_rest g h thread op below asks few (ended end over) = none-some op (sym (ap (λ c. access_of (step g.program 0 c)) over) ∙ asks 0)
cannot_rest g h thread op below asks few (spent all) = omega (arith, below, all)
cannot_rest g h thread op below asks few (full other asks' much) = omega (arith, few, much)

made_in : (g : Setting) (old new : ScriptState) (t : ℕ) (thread : ThreadState) (op : OpFields) → slice_get old.threads t ≡ Some thread → thread.made < g.limit → Asks g thread op
    → length (events (done g old.history)) < max_events → TurnLeads g old (turn.Step t) new → HasAt (done g new.history) (event_of g (done g old.history) t op) (event_after g old.history t op)
made_in g old _ t thread op at below asks few (steps_on {thread = other} {next = next} {items = items} at' st) =
    let same : other ≡ thread = same_Some other thread (sym at' ∙ at) in
    made_by g old.history t thread next items op asks (subst (λ x. StepsTo g old.history t x next items) same st)
made_in g old _ t thread op at below asks few (rests {thread = other} at' rest) =
    let same : other ≡ thread = same_Some other thread (sym at' ∙ at) in
    absurd (cannot_rest g old.history thread op below asks few (subst (Rests g old.history) same rest))
made_in g old _ t thread op at below asks few (drains {drain = drain} is may) = absurd (none-some drain is)
made_in g old _ t thread op at below asks few (keeps {drain = drain} is cannot) = absurd (none-some drain is)

step_makes : (g : Setting) (old new : ScriptState) (t : ℕ) (thread : ThreadState) (what : TurnDone) (key : EventKey) (store : Option EventKey) → slice_get old.threads t ≡ Some thread
    → StepDoes g (done g old.history) t thread what → what ≡ Accessed key store → TurnLeads g old (turn.Step t) new → (e : Event) × IsMade g new key e
step_makes g old new t thread _ key store at (traced.ended over) is leads = absurd (cc is)
step_makes g old new t thread _ key store at (traced.spent running all) is leads = absurd (cc is)
step_makes g old new t thread _ key store at (traced.full op below asks much) is leads = absurd (cc is)
step_makes g old new t thread _ key store at (traced.stepped running below none) is leads = absurd (cc is)
step_makes g old new t thread _ key store at (traced.accessed op below asks few) is leads =
    let same : event_of g (done g old.history) t op ≡ key = cc in (
      event_after g old.history t op,
      subst (λ k. IsMade g new k (event_after g old.history t op)) same (record {
        made = made_in g old new t thread op at below asks few leads;
        named = refl;
        there = let within = slice_get_within old.threads t thread at in let count = turn_count g old new (turn.Step t) leads in omega (arith, within, count);
      }),
    )

no_drain : (s : List Step) (t k : ℕ) (what : TurnDone) (key : EventKey) (store : Option EventKey) → DrainDoes s t k what → what ≡ Accessed key store → ⊥
no_drain s t k _ key store (traced.drained left at passes) is = absurd (cc is)
no_drain s t k _ key store (traced.held waits cannot) is = absurd (cc is)
no_drain s t k _ key store (traced.absent past) is = absurd (cc is)

turn_makes : (g : Setting) (old new : ScriptState) (t : Turn) (what : TurnDone) (key : EventKey) (store : Option EventKey) → Does g old t what → what ≡ Accessed key store → TurnLeads g old t new
    → (e : Event) × IsMade g new key e
turn_makes g old new (turn.Step t) what key store does is leads = step_makes g old new t does.0 what key store does.1 does.2 is leads
turn_makes g old new (turn.Drain t) what key store does is leads = absurd (no_drain (done g old.history) t 0 what key store does is)
turn_makes g old new (turn.DrainAt t k) what key store does is leads = absurd (no_drain (done g old.history) t k what key store does is)

-- ---- all turns

named_in : (g : Setting) (first last : ScriptState) (machines : List State) (turns : List Turn) (entries : List TracedTurn) (k : ℕ) (entry : TracedTurn) (key : EventKey) (store : Option EventKey)
    → TracesTurns g first machines turns entries last → slice_get entries k ≡ Some entry → entry.done ≡ Accessed key store → (e : Event) × IsMade g last key e
named_in g first last machines [] [] k entry key store traces at is = absurd (let within : k < 0 = slice_get_within [] k entry at in omega (arith, within))
named_in g first last machines [] (x ∷ entries) k entry key store traces at is = absurd traces
named_in g first last machines (t ∷ turns) [] k entry key store traces at is = absurd traces
named_in g first last machines (t ∷ turns) (x ∷ entries) zero entry key store traces at is =
    let done_is : x.done ≡ Accessed key store = ap (λ (y : TracedTurn). y.done) (first_is x entries entry at) ∙ is in
    let made = turn_makes g first traces.0 t x.done key store traces.2.does done_is traces.2.leads in
    (made.0, stays_made g traces.0 last turns key made.0 (turns_of_trace g traces.0 traces.1 turns entries last traces.3) made.1)
named_in g first last machines (t ∷ turns) (x ∷ entries) (suc k) entry key store traces at is =
    named_in g traces.0 last traces.1 turns entries k entry key store traces.3 (among_others x entries k entry at) is

-- the log has what was made
pub is_logged : (starts : List Start) (g : Setting) (last : ScriptState) (run : Record) (key : EventKey) (e : Event) → length last.threads ≡ length starts → IsLogOf starts last.threads (done g last.history) run
    → IsMade g last key e → event_in run.log key ≡ Some e
is_logged starts g last run key e count logged made =
    let thread = item_there last.threads key.thread made.there in
    let start = item_there starts key.thread (let there = made.there in omega (arith, there, count)) in
    ap (option_and_then (λ (log : ThreadLog). slice_get log.events key.number)) (logged.each key.thread start.0 thread.0 start.1 thread.1) ∙ made.made

pub accesses_are_logged : TracedAccessesAreLogged
accesses_are_logged m plan turns run entries is k entry key store at accessed =
    let count : length is.last.threads ≡ length plan.starts = turns_count is.setting is.first is.last turns (turns_of_trace is.setting is.first is.machines turns entries is.last is.traces) ∙ is.begins.count in
    let made = named_in is.setting is.first is.last is.machines turns entries k entry key store is.traces at accessed in
    (made.0, is_logged plan.starts is.setting is.last run key made.0 count is.logged made.1, made.1.named)
