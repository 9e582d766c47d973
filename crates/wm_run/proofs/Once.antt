-- A script has one run.
use Rattle.std.proofs.Common.{◌≡◌, ℕ, suc, ◌<◌, List, [], ◌∷◌, ◌++◌, Some, None, Ok, refl, sym, ap, ap₂, subst, ◌∙◌, arith, length, slice_get, get_or}
use Rattle.std.specs.Prelude.{slice_set}
use Rattle.std.proofs.lemmas.List.{same_lists}
use Rattle.std.proofs.lemmas.Option.{get_or_from_slice_get, none-some, same_Some, slice_get-get_or}
use Rattle.wm_ast.specs.declared.module.Module.{Module}
use Rattle.wm_event.specs.declared.log.Start.{Start}
use Rattle.wm_event.specs.declared.log.ThreadLog.{ThreadLog}
use Rattle.wm_event.specs.declared.op.OpFields.{OpFields}
use Rattle.wm_machine.specs.Step.{access_of, step}
use Rattle.wm_machine.specs.Term.{Config, Step as Outcome, ReducesTo, NoStep}
use Rattle.wm_memory.specs.declared.history_step.HistoryStep.{HistoryStep}
use Rattle.wm_memory.specs.Memory.{drains_first}
use Rattle.wm_memory.specs.Visibility.{Step}
use Rattle.wm_recorder.specs.Transcript.{access_items}
use Rattle.wm_valid.proofs.Initial.{one_init}
use Rattle.wm_replay.proofs.Comparisons.{item_there}
use Rattle.wm_run.specs.declared.plan.Plan.{Plan}
use Rattle.wm_run.specs.declared.turn.Turn.{Turn}
use Rattle.wm_run.specs.declared.turn.Turn.TheVariants as turn
use Rattle.wm_run.specs.Run.{Record}
use Rattle.wm_run.specs.Script.{MayDrain, TurnsLead, Rests, ScriptState, Setting, ThreadState, StepsTo, TurnLeads, access, done, drain_of, drains, ended, full, keeps, local, rests, spent, steps_on, value_read}
use Rattle.wm_run.specs.Scripted.{IsFirstState, IsLogOf, IsScripted, thread_log}
use Rattle.wm_run.proofs.Runs.{turns_count}

-- ---- a turn leads to one state

pub no_access : (op : OpFields) (next : Config) (s : Outcome) → s ≡ ReducesTo None next → access_of s ≡ Some op → ⊥
no_access op next s local_step asks = none-some op (sym (ap access_of local_step) ∙ asks)

one_step : (g : Setting) (h : List HistoryStep) (t : ℕ) (old a b : ThreadState) (is js : List HistoryStep) → StepsTo g h t old a is → StepsTo g h t old b js → (a ≡ b) × (is ≡ js)
one_step g h t old _ _ _ _ (local {next = c} lt leads) (local {next = d} lt' leads') =
    let same : ReducesTo None c ≡ ReducesTo None d = sym leads ∙ leads' in
    let next : c ≡ d = cc in
    (ap (λ x. record { config = x; made = suc old.made }) next, refl)
one_step g h t old _ _ _ _ (local {next = c} lt leads) (access {op = op} lt' few asks leads') = absurd (no_access op c (step g.program 0 old.config) leads (asks 0))
one_step g h t old _ _ _ _ (access {op = op} lt few asks leads) (local {next = c} lt' leads') = absurd (no_access op c (step g.program 0 old.config) leads' (asks 0))
one_step g h t old _ _ _ _ (access {op = p} {next = c} lt few asks leads) (access {op = q} {next = d} lt' few' asks' leads') =
    let same_op : p ≡ q = same_Some p q (sym (asks 0) ∙ asks' 0) in
    let next_config : step g.program (value_read g h t q) old.config ≡ ReducesTo (Some q) c = subst (λ o. step g.program (value_read g h t o) old.config ≡ ReducesTo (Some o) c) same_op leads in
    let same : ReducesTo (Some q) c ≡ ReducesTo (Some q) d = sym next_config ∙ leads' in
    let next : c ≡ d = cc in
    (ap (λ x. record { config = x; made = suc old.made }) next, ap (λ o. access_items (drains_first (done g h) t o) t o) same_op)

-- a thread that rests makes no step
no_rest : (g : Setting) (h : List HistoryStep) (t : ℕ) (old next : ThreadState) (items : List HistoryStep) → StepsTo g h t old next items → Rests g h old → ⊥
no_rest g h t old _ _ (local lt leads) (ended end over) = let none : NoStep ≡ ReducesTo None _ = sym (ap (step g.program 0) over) ∙ leads in absurd cc
no_rest g h t old _ _ (local lt leads) (spent all) = omega (arith, lt, all)
no_rest g h t old _ _ (local {next = c} lt leads) (full op asks much) = no_access op c (step g.program 0 old.config) leads (asks 0)
no_rest g h t old _ _ (access {op = op} lt few asks leads) (ended end over) = none-some op (sym (ap (λ c. access_of (step g.program 0 c)) over) ∙ asks 0)
no_rest g h t old _ _ (access lt few asks leads) (spent all) = omega (arith, lt, all)
no_rest g h t old _ _ (access lt few asks leads) (full op asks' much) = omega (arith, few, much)

-- the state after a step of thread t
abbrev pub behind : ScriptState → ℕ → ThreadState → List HistoryStep → ScriptState
behind old t next items = record { threads = slice_set old.threads t next; history = old.history ++ items }

step_turn : (g : Setting) (old b : ScriptState) (t : ℕ) (thread next : ThreadState) (items : List HistoryStep) → slice_get old.threads t ≡ Some thread → StepsTo g old.history t thread next items → TurnLeads g old (turn.Step t) b
    → behind old t next items ≡ b
step_turn g old _ t thread next items at st (steps_on {thread = other} {next = next'} {items = items'} at' st') =
    let same : other ≡ thread = same_Some other thread (sym at' ∙ at) in
    let one = one_step g old.history t thread next next' items items' st (subst (λ x. StepsTo g old.history t x next' items') same st') in
    ap₂ (behind old t) one.0 one.1
step_turn g old _ t thread next items at st (rests {thread = other} at' rest) =
    let same : other ≡ thread = same_Some other thread (sym at' ∙ at) in
    absurd (no_rest g old.history t thread next items st (subst (Rests g old.history) same rest))
step_turn g old _ t thread next items at st (drains {drain = drain} is may) = absurd (none-some drain is)
step_turn g old _ t thread next items at st (keeps {drain = drain} is cannot) = absurd (none-some drain is)

rest_turn : (g : Setting) (old b : ScriptState) (t : ℕ) (thread : ThreadState) → slice_get old.threads t ≡ Some thread → Rests g old.history thread → TurnLeads g old (turn.Step t) b → old ≡ b
rest_turn g old _ t thread at rest (steps_on {thread = other} {next = next} {items = items} at' st) =
    let same : other ≡ thread = same_Some other thread (sym at' ∙ at) in
    absurd (no_rest g old.history t other next items st (subst (Rests g old.history) (sym same) rest))
rest_turn g old _ t thread at rest (rests at' rest') = refl
rest_turn g old _ t thread at rest (drains {drain = drain} is may) = absurd (none-some drain is)
rest_turn g old _ t thread at rest (keeps {drain = drain} is cannot) = absurd (none-some drain is)

-- the state after a drain
abbrev pub drained : ScriptState → HistoryStep → ScriptState
drained old drain = record { threads = old.threads; history = old.history ++ drain ∷ [] }

drain_turn : (g : Setting) (old b : ScriptState) (t : Turn) (drain : HistoryStep) → drain_of t ≡ Some drain → MayDrain g old drain → TurnLeads g old t b → drained old drain ≡ b
drain_turn g old _ _ drain is may (steps_on at st) = absurd (none-some drain is)
drain_turn g old _ _ drain is may (rests at rest) = absurd (none-some drain is)
drain_turn g old _ t drain is may (drains {drain = other} is' may') = ap (drained old) (same_Some drain other (sym is ∙ is'))
drain_turn g old _ t drain is may (keeps {drain = other} is' cannot) = absurd (cannot (subst (MayDrain g old) (same_Some drain other (sym is ∙ is')) may))

keep_turn : (g : Setting) (old b : ScriptState) (t : Turn) (drain : HistoryStep) → drain_of t ≡ Some drain → (MayDrain g old drain → ⊥) → TurnLeads g old t b → old ≡ b
keep_turn g old _ _ drain is cannot (steps_on at st) = refl_of_step drain is
  where
    refl_of_step : {A : Type 0} (d : HistoryStep) → None ≡ Some d → A
    refl_of_step d e = absurd (none-some d e)
keep_turn g old _ _ drain is cannot (rests at rest) = refl
keep_turn g old _ t drain is cannot (drains {drain = other} is' may) = absurd (cannot (subst (MayDrain g old) (same_Some other drain (sym is' ∙ is)) may))
keep_turn g old _ t drain is cannot (keeps is' cannot') = refl

one_turn : (g : Setting) (old a b : ScriptState) (t : Turn) → TurnLeads g old t a → TurnLeads g old t b → a ≡ b
one_turn g old _ b _ (steps_on {t = t} {thread = thread} {next = next} {items = items} at st) other = step_turn g old b t thread next items at st other
one_turn g old _ b _ (rests {t = t} {thread = thread} at rest) other = rest_turn g old b t thread at rest other
one_turn g old _ b t (drains {drain = drain} is may) other = drain_turn g old b t drain is may other
one_turn g old _ b t (keeps {drain = drain} is cannot) other = keep_turn g old b t drain is cannot other

one_play : (g : Setting) (first a b : ScriptState) (turns : List Turn) → TurnsLead g first turns a → TurnsLead g first turns b → a ≡ b
one_play g first a b [] to_a to_b = sym to_a ∙ to_b
one_play g first a b (t ∷ turns) to_a to_b =
    let same : to_b.0 ≡ to_a.0 = one_turn g first to_b.0 to_a.0 t to_b.1 to_a.1 in
    one_play g to_a.0 a b turns to_a.2 (subst (λ s. TurnsLead g s turns b) same to_b.2)

-- ---- the first state, and what is logged of the last one

one_first : (m : Module) (starts : List Start) (a b : ScriptState) → IsFirstState m starts a → IsFirstState m starts b → a ≡ b
one_first m starts a b first second = ap₂ (λ threads history. record { threads = threads; history = history }) same_threads (first.history ∙ sym second.history)
  where
    item : (k : ℕ) (d : ThreadState) → k < length a.threads → get_or a.threads k d ≡ get_or b.threads k d
    item k d lt =
        let in_starts : k < length starts = (let count = first.count in omega (arith, lt, count)) in
        let in_b : k < length b.threads = (let count = second.count in omega (arith, in_starts, count)) in
        let start = item_there starts k in_starts in
        let x = get_or a.threads k d in
        let y = get_or b.threads k d in
        let x_begins = first.each k start.0 x start.1 (slice_get-get_or a.threads k d lt) in
        let y_begins = second.each k start.0 y start.1 (slice_get-get_or b.threads k d in_b) in
        let configs : Ok x.config ≡ Ok y.config = sym x_begins.config ∙ y_begins.config in
        let config : x.config ≡ y.config = cc in
        ap₂ (λ c n. record { config = c; made = n }) config (x_begins.made ∙ sym y_begins.made)

    same_threads : a.threads ≡ b.threads
    same_threads = same_lists a.threads b.threads (first.count ∙ sym second.count) item

one_log : (starts : List Start) (threads : List ThreadState) (s : List Step) (a b : Record) → length threads ≡ length starts → IsLogOf starts threads s a → IsLogOf starts threads s b → a ≡ b
one_log starts threads s a b count first second =
    ap₂ (λ log witness. record { log = log; witness = witness }) same_logs
    (ap₂ (λ writers order. record { writers = writers; order = order }) (first.writers ∙ sym second.writers) (first.order ∙ sym second.order))
  where
    item : (k : ℕ) (d : ThreadLog) → k < length a.log → get_or a.log k d ≡ get_or b.log k d
    item k d lt =
        let in_starts : k < length starts = (let logs = first.count in omega (arith, lt, logs)) in
        let in_threads : k < length threads = omega (arith, in_starts, count) in
        let start = item_there starts k in_starts in
        let thread = item_there threads k in_threads in
        get_or_from_slice_get a.log k (thread_log s k start.0 thread.0) d (first.each k start.0 thread.0 start.1 thread.1)
        ∙ sym (get_or_from_slice_get b.log k (thread_log s k start.0 thread.0) d (second.each k start.0 thread.0 start.1 thread.1))

    same_logs : a.log ≡ b.log
    same_logs = same_lists a.log b.log (first.count ∙ sym second.count) item

-- ---- the whole

one_setting : (m : Module) (plan : Plan) (turns : List Turn) (a b : Record) (x : IsScripted m plan turns a) (y : IsScripted m plan turns b) → x.setting ≡ y.setting
one_setting m plan turns a b x y =
    ap (λ p. record { program = p; initial = x.setting.initial; limit = x.setting.limit }) (x.program ∙ sym y.program)
    ∙ ap (λ i. record { program = y.setting.program; initial = i; limit = x.setting.limit }) (one_init m x.setting.initial y.setting.initial x.initial y.initial)
    ∙ ap (λ n. record { program = y.setting.program; initial = y.setting.initial; limit = n }) (x.limit ∙ sym y.limit)

pub one_run : (m : Module) (plan : Plan) (turns : List Turn) (a b : Record) → IsScripted m plan turns a → IsScripted m plan turns b → a ≡ b
one_run m plan turns a b x y =
    let g : Setting = x.setting in
    let settings : y.setting ≡ g = sym (one_setting m plan turns a b x y) in
    let firsts : y.first ≡ x.first = one_first m plan.starts y.first x.first y.begins x.begins in
    let played : TurnsLead g x.first turns y.last = subst (λ s. TurnsLead g s turns y.last) firsts (subst (λ k. TurnsLead k y.first turns y.last) settings y.plays) in
    let lasts : y.last ≡ x.last = one_play g x.first y.last x.last turns played x.plays in
    let logged : IsLogOf plan.starts x.last.threads (done g x.last.history) b =
    subst (λ s. IsLogOf plan.starts s.threads (done g s.history) b) lasts (subst (λ k. IsLogOf plan.starts y.last.threads (done k y.last.history) b) settings y.logged) in
    let begun = x.begins.count in
    let count : length x.last.threads ≡ length plan.starts = turns_count g x.first x.last turns x.plays ∙ begun in
    one_log plan.starts x.last.threads (done g x.last.history) a b count x.logged logged
