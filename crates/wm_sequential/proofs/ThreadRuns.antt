-- Runs of a thread that are cut short, and with another value in their last read.
use Rattle.std.proofs.Common.{◌≡◌, ℕ, zero, suc, ◌+◌, ◌-◌, ◌*◌, ◌^◌, ◌<◌, ◌≤◌, ◌==◌, Bool, true, false, List, [], ◌∷◌, ◌++◌, length, take, slice_get, Option, None, Some, Ok, Err, Result, IsTrue, nat_lt, refl, sym, ap, ◌∙◌, subst, append_assoc, arith, ⊎_elim, if◌then◌else◌}
use Rattle.std.proofs.lemmas.Bool.{cases_lt, false≢true, lt-ltb}
use Rattle.std.proofs.lemmas.List.{append-nil, length-append}
use Rattle.std.proofs.lemmas.Option.{none-some, same_Some, slice_get_within}
use Rattle.wm_access.specs.AccessWidth.{bytes_of}
use Rattle.wm_ast.specs.declared.module.Module.{Module}
use Rattle.wm_event.specs.declared.event.Event.{Event}
use Rattle.wm_event.specs.declared.event.EventKey.{EventKey}
use Rattle.wm_event.specs.declared.event.EventKind.TheVariants as event
use Rattle.wm_event.specs.declared.log.ThreadLog.{ThreadLog}
use Rattle.wm_event.specs.declared.op.OpFields.{OpFields}
use Rattle.wm_event.specs.declared.op.OpKind.{OpKind}
use Rattle.wm_event.specs.declared.op.OpKind.TheVariants.{Read, Write, Rmw, CmpXchg}
use Rattle.wm_event.specs.Event.{key_of, kind_reads, reads}
use Rattle.wm_event.specs.Op.{event_made, kind_finds, made_kind, made_read}
use Rattle.wm_machine.specs.Term.{Config, NoStep, ReducesTo, Step}
use Rattle.wm_machine.specs.Step.{access_of, step}
use Rattle.wm_machine.specs.Run.{Ran, Taken, and_run_on, end_of, noted, outcome_of, ran_on, ran_with, run_from, run_on, steps, take_fitting, take_read, take_where}
use Rattle.wm_replay.specs.Replay.{IsRun, reads_of, start_of}
use Rattle.wm_replay.proofs.Runs.{and_some, more, more_grows, next_event, outcome_some, steps_more}
use Rattle.wm_sequential.specs.ModulePrograms.{AreOfOneAccess, IsCutRun, RunsAreReceptive}
use Rattle.wm_sequential.specs.Programs.{IsLike}
use Rattle.wm_sequential.proofs.SameAccess.{same_access}

-- ---- reads of events

pub reads_of-append : (es fs : List Event) → reads_of (es ++ fs) ≡ reads_of es ++ reads_of fs
reads_of-append [] fs = refl
reads_of-append (e ∷ es) fs = by (reads e) (reads_of-append es fs)
  where
    by : (b : Bool) → reads_of (es ++ fs) ≡ reads_of es ++ reads_of fs → (if b then e.read ∷ reads_of (es ++ fs) else reads_of (es ++ fs)) ≡ (if b then e.read ∷ reads_of es else reads_of es) ++ reads_of fs
    by true rest = ap (λ rs. e.read ∷ rs) rest
    by false rest = rest

finds-reads : (a : OpKind) (r : ℕ) → kind_reads (made_kind a r) ≡ kind_finds a
finds-reads Read r = refl
finds-reads (Write v) r = refl
finds-reads (Rmw op v) r = refl
finds-reads (CmpXchg expected new) r = by (r == expected)
  where
    by : (b : Bool) → kind_reads (if b then event.Update else event.Read) ≡ true
    by true = refl
    by false = refl

finds-read : (a : OpKind) (r : ℕ) → kind_finds a ≡ true → made_read a r ≡ r
finds-read Read r h = refl
finds-read (Write v) r h = absurd (false≢true h)
finds-read (Rmw op v) r h = refl
finds-read (CmpXchg expected new) r h = refl

-- an event that an access makes takes the value that it reads
taken-by : (key : EventKey) (a : OpFields) (r : ℕ) → kind_finds a.kind ≡ true → reads_of (event_made key a r ∷ []) ≡ r ∷ []
taken-by key a r finds =
    let b : kind_reads (made_kind a.kind r) ≡ true = finds-reads a.kind r ∙ finds in
    ap (λ b. if b then made_read a.kind r ∷ [] else []) b ∙ ap (λ r. r ∷ []) (finds-read a.kind r finds)

not-taken-by : (key : EventKey) (a : OpFields) (r : ℕ) → kind_finds a.kind ≡ false → reads_of (event_made key a r ∷ []) ≡ []
not-taken-by key a r finds =
    let b : kind_reads (made_kind a.kind r) ≡ false = finds-reads a.kind r ∙ finds in
    ap (λ b. if b then made_read a.kind r ∷ [] else []) b

-- ---- one step

abbrev pub with_reads : Ran → List ℕ → Ran
with_reads q rs = record { events = q.events; config = q.config; reads = rs }

-- what one more step does, whatever values come after those that it takes
pub record Stepped (m : Module) (k : ℕ) (q ran : Ran) : Type 0 where
  pub es : List Event
  pub events : ran.events ≡ q.events ++ es
  pub reads : q.reads ≡ reads_of es ++ ran.reads
  pub again : (rest : List ℕ) → run_on m k (with_reads q (reads_of es ++ rest)) ≡ Some (with_reads ran rest)
  pub small : length es ≤ 1

module _ (m : Module) (k : ℕ) (q ran : Ran) where
  -- a step whose access is known
  record Reduced (r : ℕ) (o : Option OpFields) : Type 0 where
    after : Config
    is : step m r q.config ≡ ReducesTo o after

  reduced-by : (s : Step) (r : ℕ) (o : Option OpFields) (taken : Taken) → step m r q.config ≡ s → access_of s ≡ o → ran_on k q taken s ≡ Some ran
      → (c : Config) × (step m r q.config ≡ ReducesTo o c) × (record { events = q.events ++ noted k (length q.events) o taken.read; config = c; reads = taken.others } ≡ ran)
  reduced-by NoStep r o taken is made h = absurd (none-some ran h)
  reduced-by (ReducesTo op c) r o taken is made h =
      (c, is ∙ ap (λ o. ReducesTo o c) made, ap (λ o. record { events = q.events ++ noted k (length q.events) o taken.read; config = c; reads = taken.others }) (sym made) ∙ same_Some _ _ h)

  run-known : (o : Option OpFields) (rs : List ℕ) → access_of (step m 0 q.config) ≡ o → run_on m k (with_reads q rs) ≡ ran_with m k (with_reads q rs) (take_read o rs)
  run-known o rs is = ap (λ o. ran_with m k (with_reads q rs) (take_read o rs)) is

  stepped-plain : access_of (step m 0 q.config) ≡ None → run_on m k q ≡ Some ran → Stepped m k q ran
  stepped-plain is h =
      let f = reduced-by (step m 0 q.config) 0 None record { read = 0; others = q.reads } refl is (sym (run-known None q.reads is) ∙ h) in
      record {
        es = [];
        events = ap (λ (r : Ran). r.events) (sym f.2);
        reads = ap (λ (r : Ran). r.reads) f.2;
        again = λ rest. run-known None rest is ∙ ap (ran_on k (with_reads q rest) record { read = 0; others = rest }) f.1 ∙ ap (λ (r : Ran). Some (with_reads r rest)) f.2;
        small = omega arith;
      }

  pub stepped-nothing : access_of (step m 0 q.config) ≡ None → run_on m k q ≡ Some ran → ran.events ≡ q.events
  unfolding stepped-plain
  stepped-nothing is h = (stepped-plain is h).events ∙ append-nil q.events

  stepped-write : (a : OpFields) → access_of (step m 0 q.config) ≡ Some a → kind_finds a.kind ≡ false → run_on m k q ≡ Some ran → Stepped m k q ran
  stepped-write a is finds h =
      let known : (rs : List ℕ) → run_on m k (with_reads q rs) ≡ ran_on k (with_reads q rs) record { read = 0; others = rs } (step m 0 q.config) =
      λ rs. run-known (Some a) rs is ∙ ap (λ b. ran_with m k (with_reads q rs) (take_where b a rs)) finds in
      let f = reduced-by (step m 0 q.config) 0 (Some a) record { read = 0; others = q.reads } refl is (sym (known q.reads) ∙ h) in
      let e : Event = event_made record { thread = k; number = length q.events } a 0 in
      let none : reads_of (e ∷ []) ≡ [] = not-taken-by record { thread = k; number = length q.events } a 0 finds in
      record {
        es = e ∷ [];
        events = ap (λ (r : Ran). r.events) (sym f.2);
        reads = ap (λ (r : Ran). r.reads) f.2 ∙ ap (λ rs. rs ++ ran.reads) (sym none);
        again = λ rest. ap (λ rs. run_on m k (with_reads q (rs ++ rest))) none ∙ known rest ∙ ap (ran_on k (with_reads q rest) record { read = 0; others = rest }) f.1 ∙ ap (λ (r : Ran). Some (with_reads r rest)) f.2;
        small = omega arith;
      }

  -- with the value r, which fits
  pub reading-known : (a : OpFields) (r : ℕ) (rs : List ℕ) → access_of (step m 0 q.config) ≡ Some a → kind_finds a.kind ≡ true → nat_lt r (2 ^ (8 * bytes_of a.width)) ≡ true
      → run_on m k (with_reads q (r ∷ rs)) ≡ ran_on k (with_reads q (r ∷ rs)) record { read = r; others = rs } (step m r q.config)
  reading-known a r rs is finds fits =
      run-known (Some a) (r ∷ rs) is ∙ ap (λ b. ran_with m k (with_reads q (r ∷ rs)) (take_where b a (r ∷ rs))) finds
      ∙ ap (λ b. ran_with m k (with_reads q (r ∷ rs)) (if b then Some record { read = r; others = rs } else None)) fits

  stepped-read : (a : OpFields) → access_of (step m 0 q.config) ≡ Some a → kind_finds a.kind ≡ true → run_on m k q ≡ Some ran → Stepped m k q ran
  stepped-read a is finds h = by q.reads refl (sym (run-known (Some a) q.reads is ∙ ap (λ b. ran_with m k q (take_where b a q.reads)) finds) ∙ h)
    where
      by : (rs : List ℕ) → q.reads ≡ rs → ran_with m k q (take_fitting a q.reads) ≡ Some ran → Stepped m k q ran
      by [] at h = absurd (none-some ran (sym (ap (λ rs. ran_with m k q (take_fitting a rs)) at) ∙ h))
      by (r ∷ rs) at h = fitting (nat_lt r (2 ^ (8 * bytes_of a.width))) refl (sym (ap (λ rs. ran_with m k q (take_fitting a rs)) at) ∙ h)
        where
          fitting : (b : Bool) → nat_lt r (2 ^ (8 * bytes_of a.width)) ≡ b → ran_with m k q (if b then Some record { read = r; others = rs } else None) ≡ Some ran → Stepped m k q ran
          fitting false misfit h = absurd (none-some ran h)
          fitting true fits h =
              let f = reduced-by (step m r q.config) r (Some a) record { read = r; others = rs } refl (same_access m r 0 q.config ∙ is) h in
              let e : Event = event_made record { thread = k; number = length q.events } a r in
              let taken : reads_of (e ∷ []) ≡ r ∷ [] = taken-by record { thread = k; number = length q.events } a r finds in
              record {
                es = e ∷ [];
                events = ap (λ (r : Ran). r.events) (sym f.2);
                reads = at ∙ ap (λ rs. r ∷ rs) (ap (λ (r : Ran). r.reads) f.2) ∙ ap (λ rs. rs ++ ran.reads) (sym taken);
                again = λ rest. ap (λ rs. run_on m k (with_reads q (rs ++ rest))) taken ∙ reading-known a r rest is finds fits ∙ ap (ran_on k (with_reads q (r ∷ rest)) record { read = r; others = rest }) f.1
                    ∙ ap (λ (r : Ran). Some (with_reads r rest)) f.2;
                small = omega arith;
              }

  pub stepped : run_on m k q ≡ Some ran → Stepped m k q ran
  stepped h = by (access_of (step m 0 q.config)) refl
    where
      by : (o : Option OpFields) → access_of (step m 0 q.config) ≡ o → Stepped m k q ran
      by None is = stepped-plain is h
      by (Some a) is = finds (kind_finds a.kind) refl
        where
          finds : (b : Bool) → kind_finds a.kind ≡ b → Stepped m k q ran
          finds true f = stepped-read a is f h
          finds false f = stepped-write a is f h

-- ---- several steps

-- what some steps did, whatever values come after those that they took
pub record Framed (m : Module) (k : ℕ) (start : Config) (reads : List ℕ) (j : ℕ) (ran : Ran) : Type 0 where
  pub taken : reads ≡ reads_of ran.events ++ ran.reads
  pub again : (rest : List ℕ) → steps m k start (reads_of ran.events ++ rest) j ≡ Some (with_reads ran rest)

pub framed : (m : Module) (k : ℕ) (start : Config) (reads : List ℕ) (j : ℕ) (ran : Ran) → steps m k start reads j ≡ Some ran → Framed m k start reads j ran
framed m k start reads zero ran h =
    let is = same_Some _ _ h in
    subst (λ (ran : Ran). Framed m k start reads zero ran) is (record { taken = refl; again = λ rest. refl })
framed m k start reads (suc j) ran h =
    let last = and_some m k (steps m k start reads j) ran h in
    let f = framed m k start reads j last.0 last.1 in
    let s = stepped m k last.0 ran last.2 in
    let both : reads_of ran.events ≡ reads_of last.0.events ++ reads_of s.es = ap reads_of s.events ∙ reads_of-append last.0.events s.es in
    record {
      taken = f.taken ∙ ap (λ rs. reads_of last.0.events ++ rs) s.reads ∙ sym (append_assoc (reads_of last.0.events) (reads_of s.es) ran.reads) ∙ ap (λ rs. rs ++ ran.reads) (sym both);
      again = λ rest.
          ap (λ rs. steps m k start (rs ++ rest) (suc j)) both
          ∙ ap (λ rs. steps m k start rs (suc j)) (append_assoc (reads_of last.0.events) (reads_of s.es) rest)
          ∙ ap (and_run_on m k) (f.again (reads_of s.es ++ rest))
          ∙ s.again rest;
    }

-- the step that makes event n of a run
pub record MakesAt (m : Module) (k : ℕ) (start : Config) (reads : List ℕ) (total n : ℕ) : Type 0 where
  pub j : ℕ
  pub before : j < total
  pub ran : Ran
  pub next : Ran
  pub ran_so : steps m k start reads j ≡ Some ran
  pub runs_on : run_on m k ran ≡ Some next
  pub count : length ran.events ≡ n
  pub count_next : length next.events ≡ suc n

pub makes-at : (m : Module) (k : ℕ) (start : Config) (reads : List ℕ) (total n : ℕ) (ran : Ran) → steps m k start reads total ≡ Some ran → n < length ran.events → MakesAt m k start reads total n
makes-at m k start reads zero n ran h l = let none : 0 ≡ length ran.events = ap (λ (r : Ran). length r.events) (same_Some _ _ h) in absurd (omega (arith, none, l))
makes-at m k start reads (suc total) n ran h l =
    let last = and_some m k (steps m k start reads total) ran h in
    let s = stepped m k last.0 ran last.2 in
    let sum : length ran.events ≡ length last.0.events + length s.es = ap (λ es. length es) s.events ∙ length-append last.0.events s.es in
    let small = s.small in
    ⊎_elim
    (λ (earlier : n < length last.0.events).
    let r = makes-at m k start reads total n last.0 last.1 earlier in
    let b = r.before in
    record { j = r.j; before = omega (arith, b); ran = r.ran; next = r.next; ran_so = r.ran_so; runs_on = r.runs_on; count = r.count; count_next = r.count_next })
    (λ (now : length last.0.events ≤ n). record { j = total; before = omega arith; ran = last.0; next = ran; ran_so = last.1; runs_on = last.2; count = omega (arith, l, now, sum, small); count_next = omega (arith, l, now, sum, small) })
    (cases_lt n (length last.0.events))

-- ---- a thread that is cut

-- a run, and the steps that it makes
pub record Whole (m : Module) (k : ℕ) (t : ThreadLog) : Type 0 where
  pub start : Config
  pub is_start : start_of m t ≡ Ok start
  pub ran : Ran
  pub ran_so : steps m k start (reads_of t.events) t.steps ≡ Some ran
  pub events : ran.events ≡ t.events

pub whole : (m : Module) (k : ℕ) (t : ThreadLog) → IsRun m k t → Whole m k t
whole m k t run = by (start_of m t) refl run
  where
    by : (s : Result Config _) → start_of m t ≡ s → run_from m k s (reads_of t.events) t.steps ≡ Some record { events = t.events; end = t.end } → Whole m k t
    by (Err fault) is h = absurd (none-some _ h)
    by (Ok start) is h =
        let o = outcome_some (steps m k start (reads_of t.events) t.steps) _ h in
        record { start = start; is_start = is; ran = o.0; ran_so = o.1; events = o.2 }

-- steps that used up the reads of their events are a run
pub is-run : (m : Module) (k : ℕ) (t : ThreadLog) (start : Config) (ran : Ran) → start_of m t ≡ Ok start → steps m k start (reads_of t.events) t.steps ≡ Some ran → ran.reads ≡ [] → ran.events ≡ t.events
    → end_of ran.config ≡ t.end → IsRun m k t
is-run m k t start ran is ran_so used events end =
    ap (λ s. run_from m k s (reads_of t.events) t.steps) is ∙ ap outcome_of ran_so
    ∙ ap (λ rs. outcome_of (Some (with_reads ran rs))) used
    ∙ λ i. Some record { events = events i; end = end i }

-- the events below n, and those from n on
firsts : (xs ys zs : List Event) (n : ℕ) → xs ++ ys ≡ zs → length xs ≡ n → xs ≡ take n zs
firsts [] ys zs n h size = ap (λ n. take n zs) size
firsts (x ∷ xs) ys [] n h size = let none = ap (λ es. length es) h in absurd (omega (arith, none))
firsts (x ∷ xs) ys (z ∷ zs) zero h size = absurd (omega (arith, size))
firsts (x ∷ xs) ys (z ∷ zs) (suc n) h size =
    let rest : xs ++ ys ≡ zs = cc in
    let first : x ≡ z = cc in
    let more = firsts xs ys zs n rest (omega (arith, size)) in
    λ i. first i ∷ more i

-- a run with these events
pub record CutRun (m : Module) (k : ℕ) (t : ThreadLog) (events : List Event) : Type 0 where
  pub cut : ThreadLog
  pub is_cut : IsCutRun m k t cut events

unread : (m : Module) (k : ℕ) (start : Config) (j : ℕ) (es : List Event) (ran : Ran) → ran.events ≡ es → steps m k start (reads_of ran.events ++ []) j ≡ Some (with_reads ran [])
    → steps m k start (reads_of es) j ≡ Some (with_reads ran [])
unread m k start j es ran is h = sym (ap (λ rs. steps m k start rs j) (append-nil (reads_of ran.events) ∙ ap reads_of is)) ∙ h

-- a run cut before its event n
pub cut-run : (m : Module) (k : ℕ) (t : ThreadLog) (n : ℕ) → IsRun m k t → n < length t.events → CutRun m k t (take n t.events)
cut-run m k t n run l =
    let w = whole m k t run in
    let count : length w.ran.events ≡ length t.events = ap (λ es. length es) w.events in
    let a = makes-at m k w.start (reads_of t.events) t.steps n w.ran w.ran_so (omega (arith, l, count)) in
    let b = a.before in
    let f = framed m k w.start (reads_of t.events) a.j a.ran a.ran_so in
    let split = steps_more m k w.start (reads_of t.events) (t.steps - a.j) a.j t.steps (omega (arith, b)) in
    let later = more_grows m k (t.steps - a.j) a.ran w.ran (sym (split ∙ ap (more m k (t.steps - a.j)) a.ran_so) ∙ w.ran_so) in
    let events : a.ran.events ≡ take n t.events = firsts a.ran.events later.0 t.events n (sym later.1 ∙ w.events) a.count in
    let c : ThreadLog = record { start = t.start; end = end_of a.ran.config; steps = a.j; events = take n t.events } in
    let ran_so : steps m k w.start (reads_of (take n t.events)) a.j ≡ Some (with_reads a.ran []) =
    unread m k w.start a.j (take n t.events) a.ran events (f.again []) in
    record { cut = c; is_cut = record { start = refl; made = refl; fewer = omega (arith, b); run = is-run m k c w.start (with_reads a.ran []) w.is_start ran_so refl events refl } }

-- ---- the last read with another value

access-step : (s : Step) (a : OpFields) → access_of s ≡ Some a → (c : Config) × (s ≡ ReducesTo (Some a) c)
access-step NoStep a h = absurd (none-some a h)
access-step (ReducesTo made c) a h = (c, ap (λ o. ReducesTo o c) h)

at-end : (xs zs : List Event) (y : Event) → slice_get ((xs ++ y ∷ []) ++ zs) (length xs) ≡ Some y
at-end [] zs y = refl
at-end (x ∷ xs) zs y = at-end xs zs y

-- what an access makes in place of an event that reads: one with its memory order and range that reads the value
pub record OneAccess (e d : Event) (value : ℕ) : Type 0 where
  pub like : IsLike e d
  pub does : IsTrue (reads d)
  pub read : d.read ≡ value

pub one-access : (e d : Event) (value : ℕ) → AreOfOneAccess e d value → IsTrue (reads e) → OneAccess e d value
one-access e d value one does =
    let finds : kind_finds one.access.kind ≡ true = sym (finds-reads one.access.kind e.read) ∙ ap reads one.before ∙ does in
    record {
      like = record {
        order = ap (λ (e : Event). e.order) (sym one.now) ∙ ap (λ (e : Event). e.order) one.before;
        address = ap (λ (e : Event). e.address) (sym one.now) ∙ ap (λ (e : Event). e.address) one.before;
        width = ap (λ (e : Event). e.width) (sym one.now) ∙ ap (λ (e : Event). e.width) one.before;
      };
      does = ap reads (sym one.now) ∙ finds-reads one.access.kind value ∙ finds;
      read = ap (λ (e : Event). e.read) (sym one.now) ∙ finds-read one.access.kind value finds;
    }

-- a run that is cut after an event, where its access reads this value
pub record ChangedRun (m : Module) (k : ℕ) (t : ThreadLog) (n : ℕ) (e : Event) (value : ℕ) : Type 0 where
  pub made : Event
  pub access : AreOfOneAccess e made value
  pub cut : ThreadLog
  pub is_cut : IsCutRun m k t cut (take n t.events ++ made ∷ [])

module _ (m : Module) (k : ℕ) (t : ThreadLog) (n : ℕ) (run : IsRun m k t) (e : Event) (at : slice_get t.events n ≡ Some e)
    (does : IsTrue (reads e)) (value : ℕ) (fits : value < 2 ^ (8 * bytes_of e.width)) where
  w : Whole m k t
  w = whole m k t run

  count : length w.ran.events ≡ length t.events
  count = ap (λ es. length es) w.events

  a : MakesAt m k w.start (reads_of t.events) t.steps n
  a = let l = slice_get_within t.events n e at in let c = count in makes-at m k w.start (reads_of t.events) t.steps n w.ran w.ran_so (omega (arith, l, c))

  number : EventKey
  number = record { thread = k; number = length a.ran.events }

  -- the events below n
  below : a.ran.events ≡ take n t.events
  below =
      let b = a.before in
      let split = steps_more m k w.start (reads_of t.events) (t.steps - a.j) a.j t.steps (omega (arith, b)) in
      let later = more_grows m k (t.steps - a.j) a.ran w.ran (sym (split ∙ ap (more m k (t.steps - a.j)) a.ran_so) ∙ w.ran_so) in
      firsts a.ran.events later.0 t.events n (sym later.1 ∙ w.events) a.count

  -- the event of a step that makes this access
  made-is : (op : OpFields) (r : ℕ) → a.next.events ≡ a.ran.events ++ event_made number op r ∷ [] → event_made number op r ≡ e
  made-is op r is =
      let b = a.before in
      let split = steps_more m k w.start (reads_of t.events) (t.steps - suc a.j) (suc a.j) t.steps (omega (arith, b)) in
      let next_so : steps m k w.start (reads_of t.events) (suc a.j) ≡ Some a.next = ap (and_run_on m k) a.ran_so ∙ a.runs_on in
      let later = more_grows m k (t.steps - suc a.j) a.next w.ran (sym (split ∙ ap (more m k (t.steps - suc a.j)) next_so) ∙ w.ran_so) in
      let whole_list : (a.ran.events ++ event_made number op r ∷ []) ++ later.0 ≡ t.events = ap (λ es. es ++ later.0) (sym is) ∙ sym later.1 ∙ w.events in
      same_Some (event_made number op r) e (sym (at-end a.ran.events later.0 (event_made number op r)) ∙ ap (λ es. slice_get es (length a.ran.events)) whole_list ∙ ap (slice_get t.events) a.count ∙ at)

  -- an access that reads may read the value
  read-again : (op : OpFields) (r : ℕ) → access_of (step m 0 a.ran.config) ≡ Some op → kind_finds op.kind ≡ true → event_made number op r ≡ e → ChangedRun m k t n e value
  unfolding number a
  read-again op r is finds same =
      let width : op.width ≡ e.width = ap (λ (e : Event). e.width) same in
      let fitting : nat_lt value (2 ^ (8 * bytes_of op.width)) ≡ true = lt-ltb value (2 ^ (8 * bytes_of op.width)) (subst (λ w. value < 2 ^ (8 * bytes_of w)) (sym width) fits) in
      let after = access-step (step m value a.ran.config) op (same_access m value 0 a.ran.config ∙ is) in
      let f = framed m k w.start (reads_of t.events) a.j a.ran a.ran_so in
      let new : Event = event_made number op value in
      let final : Ran = record { events = a.ran.events ++ new ∷ []; config = after.0; reads = [] } in
      let taken : reads_of (new ∷ []) ≡ value ∷ [] = taken-by number op value finds in
      let ran_so : steps m k w.start (reads_of a.ran.events ++ value ∷ []) (suc a.j) ≡ Some final =
      ap (and_run_on m k) (f.again (value ∷ [])) ∙ reading-known m k a.ran a.ran op value [] is finds fitting ∙ ap (ran_on k (with_reads a.ran (value ∷ [])) record { read = value; others = [] }) after.1 in
      let events : a.ran.events ++ new ∷ [] ≡ take n t.events ++ new ∷ [] = ap (λ es. es ++ new ∷ []) below in
      let read_so : steps m k w.start (reads_of (take n t.events ++ new ∷ [])) (suc a.j) ≡ Some final =
      ap (λ es. steps m k w.start (reads_of es) (suc a.j)) (sym events) ∙ ap (λ rs. steps m k w.start rs (suc a.j)) (reads_of-append a.ran.events (new ∷ []) ∙ ap (λ rs. reads_of a.ran.events ++ rs) taken) ∙ ran_so in
      let b = a.before in
      let c : ThreadLog = record { start = t.start; end = end_of after.0; steps = suc a.j; events = take n t.events ++ new ∷ [] } in
      let key : key_of e ≡ number = ap key_of (sym same) in
      let read : e.read ≡ r = ap (λ (e : Event). e.read) (sym same) ∙ finds-read op.kind r finds in
      record {
        made = new;
        access = record {
          access = op;
          before = ap (λ key. event_made key op e.read) key ∙ ap (event_made number op) read ∙ same;
          now = ap (λ key. event_made key op value) key;
        };
        cut = c;
        is_cut = record { start = refl; made = refl; fewer = omega (arith, b); run = is-run m k c w.start final w.is_start read_so refl events refl };
      }

  -- the run in which the event's access reads the value, and its thread is cut after it
  pub changed-run : ChangedRun m k t n e value
  unfolding number a
  changed-run = by (access_of (step m 0 a.ran.config)) refl
    where
      by : (o : Option OpFields) → access_of (step m 0 a.ran.config) ≡ o → ChangedRun m k t n e value
      by None is =
          let s = stepped-nothing m k a.ran a.next is a.runs_on in
          let p = a.count in
          let q = a.count_next in
          let same : length a.next.events ≡ length a.ran.events = ap (λ es. length es) s in
          absurd (omega (arith, p, q, same))
      by (Some op) is =
          let made = next_event m k a.ran op a.next (λ r. same_access m r 0 a.ran.config ∙ is) a.runs_on in
          let same : event_made number op made.0 ≡ e = made-is op made.0 made.2 in
          let finds : kind_finds op.kind ≡ true = sym (finds-reads op.kind made.0) ∙ ap reads same ∙ does in
          read-again op made.0 is finds same

pub runs-are-receptive : RunsAreReceptive
runs-are-receptive m k t n e value run at does fits = let c = changed-run m k t n run e at does value fits in (c.cut, c.made, c.access, c.is_cut)
