-- A thread that follows its log, step by step.
use Rattle.std.proofs.Common.{◌≡◌, ℕ, zero, suc, ◌+◌, ◌*◌, ◌^◌, ◌<◌, Bool, true, false, cond, List, [], ◌∷◌, ◌++◌, length, take, drop, Option, Some, None, refl, sym, ap, ◌∙◌, length-take-le, arith}
use Rattle.std.specs.Prelude.{option_and_then, slice_get, ◌==◌}
use Rattle.std.proofs.lemmas.Bool.{lt-ltb}
use Rattle.std.proofs.lemmas.List.{append-nil, drop_more, take_more}
use Rattle.std.proofs.lemmas.Option.{get_or_from_slice_get, none-some, same_Some, slice_get_within}
use Rattle.wm_ast.specs.declared.module.Module.{Module}
use Rattle.wm_event.specs.declared.event.Event.{Event}
use Rattle.wm_event.specs.declared.event.EventKind.TheVariants as event
use Rattle.wm_event.specs.declared.op.OpFields.{OpFields}
use Rattle.wm_event.specs.declared.op.OpKind.{OpKind}
use Rattle.wm_event.specs.declared.op.OpKind.TheVariants.{Read, Write, Rmw, CmpXchg}
use Rattle.wm_event.specs.Event.{key_of, kind_reads, reads}
use Rattle.wm_event.specs.Op.{event_made, kind_finds, made_kind, made_read}
use Rattle.wm_access.specs.AccessWidth.{bytes_of, Fits}
use Rattle.wm_machine.specs.Local.{after_local, local_steps}
use Rattle.wm_machine.specs.Term.{Config, Step, ReducesTo, NoStep}
use Rattle.wm_machine.specs.Step.{access_of, step}
use Rattle.wm_machine.specs.Run.{Ran, and_run_on, ran_on, ran_with, run_on, steps, take_read, take_where}
use Rattle.wm_replay.specs.Replay.{reads_of}

-- how far a thread is that has made the first of these events, on the values that they read
abbrev pub so_far : Config → List Event → ℕ → Ran
so_far c es n = record { events = take n es; config = c; reads = reads_of (drop n es) }

-- a step without an access
pub local_step : (m : Module) (k : ℕ) (ran : Ran) (c : Config) → step m 0 ran.config ≡ ReducesTo None c → run_on m k ran ≡ Some record { events = ran.events; config = c; reads = ran.reads }
local_step m k ran c e =
    let taken : take_read (access_of (step m 0 ran.config)) ran.reads ≡ Some record { read = 0; others = ran.reads } = ap (λ s. take_read (access_of s) ran.reads) e in
    ap (ran_with m k ran) taken ∙ ap (ran_on k ran record { read = 0; others = ran.reads }) e
    ∙ ap (λ es. Some (record { events = es; config = c; reads = ran.reads })) (append-nil ran.events)

-- what a step without an access is
pub after_is : (s : Step) (c : Config) → after_local s ≡ Some c → s ≡ ReducesTo None c
after_is NoStep c e = absurd (none-some c e)
after_is (ReducesTo None b) c e = ap (ReducesTo None) (same_Some b c e)
after_is (ReducesTo (Some op) b) c e = absurd (none-some c e)

-- the last of some steps without an access
last_is : (m : Module) (o : Option Config) (new : Config) → option_and_then (λ (b : Config). after_local (step m 0 b)) o ≡ Some new
    → (b : Config) × (o ≡ Some b) × (step m 0 b ≡ ReducesTo None new)
last_is m None new e = absurd (none-some new e)
last_is m (Some b) new e = (b, refl, after_is (step m 0 b) new e)

-- n steps more, none of which makes an access
pub local_steps_on : (m : Module) (k : ℕ) (start new : Config) (values : List ℕ) (ran : Ran) (j n : ℕ) → steps m k start values j ≡ Some ran → local_steps m ran.config n ≡ Some new
    → steps m k start values (j + n) ≡ Some record { events = ran.events; config = new; reads = ran.reads }
local_steps_on m k start new values ran j zero so e =
    let same : j + 0 ≡ j = omega arith in
    ap (steps m k start values) same ∙ so ∙ ap (λ c. Some (record { events = ran.events; config = c; reads = ran.reads })) (same_Some ran.config new e)
local_steps_on m k start new values ran j (suc n) so e =
    let last = last_is m (local_steps m ran.config n) new e in
    let same : j + suc n ≡ suc (j + n) = omega arith in
    ap (steps m k start values) same
    ∙ ap (and_run_on m k) (local_steps_on m k start last.0 values ran j n so last.1)
    ∙ local_step m k record { events = ran.events; config = last.0; reads = ran.reads } new last.2

-- ---- an access

-- an access reads exactly where its event does
made_reads : (kind : OpKind) (r : ℕ) → kind_reads (made_kind kind r) ≡ kind_finds kind
made_reads Read r = refl
made_reads (Write v) r = refl
made_reads (Rmw op v) r = refl
made_reads (CmpXchg expected new) r = either (r == expected)
  where
    either : (b : Bool) → kind_reads (cond b event.Update event.Read) ≡ true
    either true = refl
    either false = refl

-- where an access that reads nothing makes an event, that read 0
pub no_read : (kind : OpKind) (r : ℕ) → kind_finds kind ≡ false → made_read kind r ≡ 0
no_read Read r e = absurd (cc e)
no_read (Write v) r e = refl
no_read (Rmw op v) r e = absurd (cc e)
no_read (CmpXchg expected new) r e = absurd (cc e)

-- the value that an access reads is the next of those to come
taken_so : (a : OpFields) (b : Bool) (e : Event) (rest : List ℕ) → Fits a.width e.read → (b ≡ false → e.read ≡ 0)
    → take_where b a (cond b (e.read ∷ rest) rest) ≡ Some record { read = e.read; others = rest }
taken_so a false e rest fits unread = ap (λ r. Some (record { read = r; others = rest })) (sym (unread refl))
taken_so a true e rest fits unread = ap (λ b. cond b (Some record { read = e.read; others = rest }) None) (lt-ltb e.read (2 ^ (8 * bytes_of a.width)) fits)

-- a step with the access that makes the event
pub access_step : (m : Module) (k : ℕ) (ran : Ran) (a : OpFields) (e : Event) (c : Config) (rest : List ℕ) → event_made (key_of e) a e.read ≡ e → Fits a.width e.read
    → access_of (step m 0 ran.config) ≡ Some a → step m e.read ran.config ≡ ReducesTo (Some a) c → e.thread ≡ k → e.number ≡ length ran.events
    → ran.reads ≡ cond (reads e) (e.read ∷ rest) rest
    → run_on m k ran ≡ Some record { events = ran.events ++ e ∷ []; config = c; reads = rest }
access_step m k ran a e c rest made fits is next thread number given =
    let finds : reads e ≡ kind_finds a.kind = ap reads (sym made) ∙ made_reads a.kind e.read in
    let unread : kind_finds a.kind ≡ false → e.read ≡ 0 = λ none. ap (λ (x : Event). x.read) (sym made) ∙ no_read a.kind e.read none in
    let values : ran.reads ≡ cond (kind_finds a.kind) (e.read ∷ rest) rest = given ∙ ap (λ b. cond b (e.read ∷ rest) rest) finds in
    let taken : take_read (access_of (step m 0 ran.config)) ran.reads ≡ Some record { read = e.read; others = rest } =
    ap (λ o. take_read o ran.reads) is ∙ ap (take_where (kind_finds a.kind) a) values ∙ taken_so a (kind_finds a.kind) e rest fits unread in
    let event : event_made record { thread = k; number = length ran.events } a e.read ≡ e =
    ap (λ i. event_made record { thread = k; number = i } a e.read) (sym number) ∙ ap (λ i. event_made record { thread = i; number = e.number } a e.read) (sym thread) ∙ made in
    ap (ran_with m k ran) taken ∙ ap (ran_on k ran record { read = e.read; others = rest }) next
    ∙ ap (λ x. Some (record { events = ran.events ++ x ∷ []; config = c; reads = rest })) event

pub access_on : (m : Module) (k : ℕ) (start old new : Config) (es : List Event) (j n : ℕ) (a : OpFields) (e : Event)
    → steps m k start (reads_of es) j ≡ Some (so_far old es n) → slice_get es n ≡ Some e
    → event_made (key_of e) a e.read ≡ e → Fits a.width e.read → access_of (step m 0 old) ≡ Some a → step m e.read old ≡ ReducesTo (Some a) new
    → e.thread ≡ k → e.number ≡ n → steps m k start (reads_of es) (suc j) ≡ Some (so_far new es (n + 1))
access_on m k start old new es j n a e so there made fits is next thread number =
    let lt : n < length es = slice_get_within es n e there in
    let here = get_or_from_slice_get es n e e there in
    let count : length (take n es) ≡ n = length-take-le n es (omega (arith, lt)) in
    let behind : drop n es ≡ e ∷ drop (n + 1) es = drop_more es n e lt ∙ ap (λ x. x ∷ drop (n + 1) es) here in
    let front : take (n + 1) es ≡ take n es ++ e ∷ [] = take_more es n e lt ∙ ap (λ x. take n es ++ x ∷ []) here in
    ap (and_run_on m k) so
    ∙ access_step m k (so_far old es n) a e new (reads_of (drop (n + 1) es)) made fits is next thread (number ∙ sym count) (ap reads_of behind)
    ∙ ap (λ xs. Some (record { events = xs; config = new; reads = reads_of (drop (n + 1) es) })) (sym front)
