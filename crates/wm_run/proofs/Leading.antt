-- A worker's thread makes a further step: the events so far are those of its steps.
use Rattle.std.proofs.Common.{◌≡◌, ℕ, suc, ◌+◌, Bool, true, false, cond, List, [], ◌∷◌, ◌++◌, length, Option, Some, None, unwrap_or, refl, sym, ap, subst, ◌∙◌, arith}
use Rattle.std.specs.Prelude.{Result, Ok, Err}
use Rattle.std.proofs.lemmas.List.{append-nil}
use Rattle.wm_access.specs.declared.AccessWidth.{AccessWidth}
use Rattle.wm_access.specs.declared.AccessWidth.TheVariants.{One, Two, Four, Eight}
use Rattle.wm_access.specs.AccessWidth.{Fits}
use Rattle.wm_ast.specs.declared.module.Module.{Module}
use Rattle.wm_event.specs.declared.event.Event.{Event}
use Rattle.wm_event.specs.declared.event.EventKey.{EventKey}
use Rattle.wm_event.specs.declared.log.End.{End}
use Rattle.wm_event.specs.declared.log.Start.{Start}
use Rattle.wm_event.specs.declared.op.OpFields.{OpFields}
use Rattle.wm_event.specs.declared.op.OpKind.{OpKind}
use Rattle.wm_event.specs.declared.op.OpKind.TheVariants.{Read, Write, Rmw, CmpXchg}
use Rattle.wm_event.specs.declared.op.Reply.{Reply}
use Rattle.wm_event.specs.Event.{key_of, reads}
use Rattle.wm_event.specs.Op.{event_made, kind_finds, made_read}
use Rattle.wm_event.specs.Reply.{ReadAnswers}
use Rattle.wm_machine.specs.declared.thread.Need.TheVariants as need
use Rattle.wm_machine.specs.declared.fault.StartFault.{StartFault}
use Rattle.wm_machine.specs.Local.{local_steps}
use Rattle.wm_machine.specs.Run.{Ran, and_run_on, end_of, outcome_of, run_from, steps}
use Rattle.wm_machine.specs.Start.{started}
use Rattle.wm_machine.specs.State.{State, config_of, need_of, read_in, value_or_zero}
use Rattle.wm_machine.specs.Step.{access_of, step, next_config}
use Rattle.wm_machine.specs.Term.{Config, ReducesTo}
use Rattle.wm_replay.specs.Replay.{IsRun, reads_of}
use Rattle.wm_replay.proofs.Following.{access_step, local_step, local_steps_on}
use Rattle.wm_replay.proofs.Needs.{access_of_need, local_of_need, made_access, made_local}
use Rattle.wm_run.specs.Reached.{HasRun, LeadsTo, is_access, is_before_access, ran_before_access, ran_by, ran_from, stands_before_access, thread_log}

-- ---- the values read

last_read : (b : Bool) (r : ℕ) (behind : List ℕ) → cond b (r ∷ []) [] ++ behind ≡ cond b (r ∷ behind) behind
last_read true r behind = refl
last_read false r behind = refl

one_read_more : (b : Bool) (r : ℕ) (xs ys behind : List ℕ) (later : List ℕ) → xs ++ behind ≡ ys ++ later → cond b (r ∷ xs) xs ++ behind ≡ cond b (r ∷ ys) ys ++ later
one_read_more true r xs ys behind later same = ap (λ l. r ∷ l) same
one_read_more false r xs ys behind later same = same

-- what one more event read comes before the remaining values
reads_of-more : (es : List Event) (e : Event) (behind : List ℕ) → reads_of (es ++ e ∷ []) ++ behind ≡ reads_of es ++ cond (reads e) (e.read ∷ behind) behind
reads_of-more [] e behind = last_read (reads e) e.read behind
reads_of-more (f ∷ es) e behind = one_read_more (reads f) f.read (reads_of (es ++ e ∷ [])) (reads_of es) behind (cond (reads e) (e.read ∷ behind) behind) (reads_of-more es e behind)

-- ---- steps

next_number : (m : Module) (k : ℕ) (first : Config) (values : List ℕ) (n : ℕ) → steps m k first values (n + 1) ≡ and_run_on m k (steps m k first values n)
next_number m k first values n = (let e : n + 1 ≡ suc n = omega arith in ap (steps m k first values) e)

pub leads_at_once : (m : Module) (k : ℕ) (first : Config) → LeadsTo m k first [] 0 first
leads_at_once m k first behind = refl

pub leads_by_local : (s : State) (k : ℕ) (first new : Config) (es : List Event) (n : ℕ) → LeadsTo s.module k first es n (config_of s) → need_of 0 s ≡ need.Local
    → next_config (step s.module 0 (config_of s)) ≡ Some new → LeadsTo s.module k first es (n + 1) new
leads_by_local s k first new es n so is next behind =
    let m = s.module in
    let made : step m 0 (config_of s) ≡ ReducesTo None new = made_local (step m 0 (config_of s)) new (local_of_need s 0 is) next in
    let ran : Ran = record { events = es; config = config_of s; reads = behind } in
    next_number m k first (reads_of es ++ behind) n ∙ (ap (and_run_on m k) (so behind) ∙ local_step m k ran new made)

-- i steps more, none of which makes an access; their module is then named otherwise
pub leads_locally : (m seen : Module) (k : ℕ) (first old new : Config) (es : List Event) (n i : ℕ) → seen ≡ m → LeadsTo m k first es n old
    → local_steps m old i ≡ Some new → LeadsTo seen k first es (n + i) new
leads_locally m seen k first old new es n i same so ran = rw same (λ behind.
    local_steps_on m k first new (reads_of es ++ behind) record { events = es; config = old; reads = behind } n i (so behind) ran)

leads_by_access : (m : Module) (k : ℕ) (first old new : Config) (es : List Event) (n : ℕ) (a : OpFields) (e : Event) → LeadsTo m k first es n old
    → event_made (key_of e) a e.read ≡ e → Fits a.width e.read → access_of (step m 0 old) ≡ Some a → step m e.read old ≡ ReducesTo (Some a) new
    → e.thread ≡ k → e.number ≡ length es → LeadsTo m k first (es ++ e ∷ []) (n + 1) new
leads_by_access m k first old new es n a e so made fits asks next thread number behind =
    let values : List ℕ = cond (reads e) (e.read ∷ behind) behind in
    let ran : Ran = record { events = es; config = old; reads = values } in
    next_number m k first (reads_of (es ++ e ∷ []) ++ behind) n
    ∙ (ap (λ vs. and_run_on m k (steps m k first vs n)) (reads_of-more es e behind)
    ∙ (ap (and_run_on m k) (so values)
    ∙ access_step m k ran a e new behind made fits asks next thread number refl))

-- ---- the event of a reply

fits_zero : (w : AccessWidth) → Fits w 0
fits_zero One = omega arith
fits_zero Two = omega arith
fits_zero Four = omega arith
fits_zero Eight = omega arith

-- the value that a reply brings is the one that its event read
value_made : (kind : OpKind) (width : AccessWidth) (o : Option ℕ) → ReadAnswers (kind_finds kind) width o → made_read kind (value_or_zero o) ≡ value_or_zero o
value_made Read width o answers = refl
value_made (Write v) width None answers = refl
value_made (Write v) width (Some r) answers = absurd answers
value_made (Rmw operator v) width o answers = refl
value_made (CmpXchg expected new) width o answers = refl

fits_found : (b : Bool) (width : AccessWidth) (o : Option ℕ) → ReadAnswers b width o → Fits width (value_or_zero o)
fits_found true width None answers = absurd answers
fits_found true width (Some r) answers = answers
fits_found false width None answers = fits_zero width
fits_found false width (Some r) answers = absurd answers

pub or_zero : (o : Option ℕ) → unwrap_or o 0 ≡ value_or_zero o
or_zero None = refl
or_zero (Some r) = refl

-- an access with its reply and its event
pub leads_by_reply : (s : State) (k : ℕ) (first new : Config) (es fs : List Event) (n : ℕ) (a : OpFields) (reply : Reply) (e : Event) (read : ℕ) → LeadsTo s.module k first es n (config_of s)
    → ((r : ℕ) → need_of r s ≡ need.Access a) → ReadAnswers (kind_finds a.kind) a.width reply.read → read ≡ value_or_zero reply.read
    → e ≡ event_made (record { thread = k; number = length es }) a read → fs ≡ es ++ e ∷ [] → next_config (step s.module (read_in (Some reply)) (config_of s)) ≡ Some new
    → LeadsTo s.module k first fs (n + 1) new
leads_by_reply s k first new es fs n a reply e read so asks answers is made more next =
    let m = s.module in
    let key : EventKey = record { thread = k; number = length es } in
    let value : ℕ = value_or_zero reply.read in
    let event : e ≡ event_made key a value = made ∙ ap (event_made key a) is in
    let found : e.read ≡ value = ap (λ (x : Event). x.read) event ∙ value_made a.kind a.width reply.read answers in
    let again : event_made (key_of e) a e.read ≡ e = ap (λ (x : Event). event_made (key_of x) a e.read) event ∙ (ap (event_made key a) found ∙ sym event) in
    let fits : Fits a.width e.read = subst (Fits a.width) (sym found) (fits_found (kind_finds a.kind) a.width reply.read answers) in
    let asked : access_of (step m value (config_of s)) ≡ Some a = access_of_need s value a (asks value) in
    let stepped : step m e.read (config_of s) ≡ ReducesTo (Some a) new = ap (λ r. step m r (config_of s)) found ∙ made_access (step m value (config_of s)) a new asked next in
    subst (λ xs. LeadsTo m k first xs (n + 1) new) (sym more)
    (leads_by_access m k first (config_of s) new es n a e so again fits (access_of_need s 0 a (asks 0)) stepped (ap (λ (x : Event). x.thread) event) (ap (λ (x : Event). x.number) event))

-- ---- the next access

pub before_access : (s : State) (a : OpFields) → ((r : ℕ) → need_of r s ≡ need.Access a) → is_before_access s.module (config_of s) ≡ true
before_access s a asks = ap is_access (access_of_need s 0 a (asks 0))

-- ---- the whole run

pub ran_is : (m : Module) (k : ℕ) (start : Start) (end : End) (es : List Event) (n : ℕ) (c : Config) → HasRun m k start es n c → ran_by m k (thread_log start end n es) ≡ Some (record { events = es; config = c; reads = [] })
ran_is m k start end es n c has =
    ap (λ s. ran_from m k s (reads_of es) n) has.1 ∙ (ap (λ values. steps m k has.0 values n) (sym (append-nil (reads_of es))) ∙ has.2 [])

outcome_is : (m : Module) (k : ℕ) (s : Result Config StartFault) (values : List ℕ) (n : ℕ) → run_from m k s values n ≡ outcome_of (ran_from m k s values n)
outcome_is m k (Err fault) values n = refl
outcome_is m k (Ok first) values n = refl

-- the events and the end are those of its run
pub run_is : (m : Module) (k : ℕ) (start : Start) (es : List Event) (n : ℕ) (c : Config) → HasRun m k start es n c → IsRun m k (thread_log start (end_of c) n es)
run_is m k start es n c has = outcome_is m k (started m start.name start.args) (reads_of es) n ∙ ap outcome_of (ran_is m k start (end_of c) es n c has)

pub stands : (m : Module) (k : ℕ) (start : Start) (end : End) (es : List Event) (n : ℕ) (c : Config) → HasRun m k start es n c → stands_before_access m k (thread_log start end n es) ≡ is_before_access m c
stands m k start end es n c has = ap (ran_before_access m) (ran_is m k start end es n c has)

-- the run so far, by other names of its parts
pub run_so_far : (m seen : Module) (k : ℕ) (start own : Start) (name args : List ℕ) (first at c : Config) (es fs : List Event) (n : ℕ) → started m name args ≡ Ok first → name ≡ start.name → args ≡ start.args
    → own ≡ start → seen ≡ m → fs ≡ es → c ≡ at → LeadsTo seen k first es n at → HasRun m k own fs n c
run_so_far m seen k start own name args first at c es fs n begins names arguments same program events there leads =
    rw (same, events, there) (first, (ap (λ x. started m x start.args) (sym names) ∙ ap (started m name) (sym arguments)) ∙ begins, subst (λ x. LeadsTo x k first es n at) program leads)
