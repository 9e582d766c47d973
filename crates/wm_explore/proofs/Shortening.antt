-- An execution without an idle turn of a thread.
use Rattle.std.proofs.Common.{◌≡◌, ℕ, zero, suc, ◌+◌, ◌-◌, ◌<◌, ◌≤◌, ◌==◌, Bool, true, false, inl, inr, List, [], ◌∷◌, ◌++◌, length, take, drop, Option, None, Some, IsSome, IsTrue, refl, sym, ap, subst, ◌∙◌, length-append, length-take-le, length-drop, arith, nat_le, nat_lt, ◌&&◌, if◌then◌else◌}
use Rattle.std.specs.Prelude.{◌≢◌, ◌⊎◌, not, option_and_then, slice_get}
use Rattle.std.proofs.lemmas.Bool.{cases_Bool, cases_eq, cases_lt, eq-eqb, false≢true, le-leb, le-ltb, lt-leb, lt-ltb, ne_eqb}
use Rattle.std.proofs.lemmas.List.{take-append-drop}
use Rattle.std.proofs.lemmas.Option.{none-some, same_Some}
use Rattle.wm_ast.specs.declared.module.Module.{Module}
use Rattle.wm_access.specs.AccessWidth.{bytes_of}
use Rattle.wm_event.specs.Event.{byte_written, writes}
use Rattle.wm_event.specs.Byte.{byte_of}
use Rattle.wm_event.specs.Execution.{ReadsFrom, byte_by}
use Rattle.wm_event.specs.Log.{event_in}
use Rattle.wm_event.specs.LoggedRun.{LoggedRun, execution}
use Rattle.wm_event.specs.Shape.{event_count}
use Rattle.wm_event.specs.declared.event.Event.{Event}
use Rattle.wm_event.specs.declared.event.EventId.TheVariants.{At}
use Rattle.wm_event.specs.declared.event.EventKey.{EventKey}
use Rattle.wm_event.specs.declared.log.End.TheVariants.{Cut}
use Rattle.wm_event.specs.declared.log.Start.{Start}
use Rattle.wm_event.specs.declared.log.ThreadLog.{ThreadLog}
use Rattle.wm_event.specs.declared.witness.Witness.{Witness}
use Rattle.wm_part.specs.Part.{HasItsWriters}
use Rattle.wm_part.specs.Pick.{kept, numbered, of_thread, pick, pick_threads, with_number}
use Rattle.wm_part.proofs.PickLaw.{pick-is-valid, pick-lies-within}
use Rattle.wm_replay.specs.Continuing.{IsEndedRun}
use Rattle.wm_replay.specs.Replay.{IsRun}
use Rattle.wm_explore.specs.Executions.{IsCausal, IsExecutionOf, IsWithin}
use Rattle.wm_explore.specs.Idle.{IsIdle, StandsFor, leaving_out, shortened}
use Rattle.wm_explore.specs.Judging.{IsAllowedWith, run_with}
use Rattle.wm_explore.proofs.Alike.{allowed_too, events_of, holds_too}
use Rattle.wm_explore.proofs.Beginnings.{event_at, some_of}
use Rattle.wm_explore.proofs.Replacing.{at_replaced, replaced, replaced_count, replaced_ends, replaced_starts}
use Rattle.wm_explore.proofs.LeavingOut.{at_taken, length_numbered, numbered_both}
use Rattle.wm_explore.proofs.ShorterRuns.{shorter_run}

-- ---- which events stay

-- below i, or not below n
abbrev pub is_outside : ℕ → ℕ → ℕ → Bool
is_outside i n j = if nat_lt j i then true else nat_le n j

-- all but those of thread k from number i on and below n
abbrev pub stays : ℕ → ℕ → ℕ → EventKey → Bool
stays k i n key = if key.thread == k then is_outside i n key.number else true

outside_kept : {X : Type 0} (i n o : ℕ) (xs : List X) → i ≤ n → kept (is_outside i n) o xs ≡ take (i - o) xs ++ drop (n - o) xs
outside_kept i n o [] le = empty (i - o) (n - o)
  where
    empty : {X : Type 0} (a b : ℕ) → ◌≡◌ {A = List X} [] (take a [] ++ drop b [])
    empty zero zero = refl
    empty zero (suc b) = refl
    empty (suc a) zero = refl
    empty (suc a) (suc b) = refl
outside_kept {X} i n o (x ∷ xs) le = by (cases_lt o i) (outside_kept i n (suc o) xs le)
  where
    by : (o < i) ⊎ (i ≤ o) → kept (is_outside i n) (suc o) xs ≡ take (i - suc o) xs ++ drop (n - suc o) xs → kept (is_outside i n) o (x ∷ xs) ≡ take (i - o) (x ∷ xs) ++ drop (n - o) (x ∷ xs)
    by (inl lt) rest =
        let in_first : is_outside i n o ≡ true = ap (λ b. if b then true else nat_le n o) (lt-ltb o i lt) in
        let a : i - o ≡ suc (i - suc o) = omega (arith, lt) in
        let b : n - o ≡ suc (n - suc o) = omega (arith, lt, le) in
        ap (λ b. if b then x ∷ kept (is_outside i n) (suc o) xs else kept (is_outside i n) (suc o) xs) in_first ∙ ap (λ ys. x ∷ ys) rest
        ∙ sym (ap (λ c. take c (x ∷ xs) ++ drop (n - o) (x ∷ xs)) a ∙ ap (λ c. x ∷ take (i - suc o) xs ++ drop c (x ∷ xs)) b)
    by (inr ge) rest = past (cases_lt o n)
      where
        past : (o < n) ⊎ (n ≤ o) → kept (is_outside i n) o (x ∷ xs) ≡ take (i - o) (x ∷ xs) ++ drop (n - o) (x ∷ xs)
        past (inl lt) =
            let within : is_outside i n o ≡ false = ap (λ b. if b then true else nat_le n o) (le-ltb o i ge) ∙ lt-leb n o lt in
            let a : i - o ≡ 0 = omega (arith, ge) in
            let c : i - suc o ≡ 0 = omega (arith, ge) in
            let b : n - o ≡ suc (n - suc o) = omega (arith, lt) in
            ap (λ b. if b then x ∷ kept (is_outside i n) (suc o) xs else kept (is_outside i n) (suc o) xs) within ∙ rest
            ∙ ap (λ d. take d xs ++ drop (n - suc o) xs) c
            ∙ sym (ap (λ d. take d (x ∷ xs) ++ drop (n - o) (x ∷ xs)) a ∙ ap (λ d. drop d (x ∷ xs)) b)
        past (inr more) =
            let behind : is_outside i n o ≡ true = ap (λ b. if b then true else nat_le n o) (le-ltb o i ge) ∙ le-leb n o more in
            let a : i - o ≡ 0 = omega (arith, ge) in
            let c : i - suc o ≡ 0 = omega (arith, ge) in
            let b : n - o ≡ 0 = omega (arith, more) in
            let d : n - suc o ≡ 0 = omega (arith, more) in
            ap (λ b. if b then x ∷ kept (is_outside i n) (suc o) xs else kept (is_outside i n) (suc o) xs) behind
            ∙ ap (λ ys. x ∷ ys) (rest ∙ ap (λ e. take e xs ++ drop (n - suc o) xs) c ∙ ap (λ e. drop e xs) d)
            ∙ sym (ap (λ e. take e (x ∷ xs) ++ drop (n - o) (x ∷ xs)) a ∙ ap (λ e. drop e (x ∷ xs)) b)

-- all of another thread's stay
all_kept : {X : Type 0} (p : ℕ → Bool) (o : ℕ) (xs : List X) → ((j : ℕ) → p j ≡ true) → kept p o xs ≡ xs
all_kept p o [] all = refl
all_kept {X} p o (x ∷ xs) all = ap (λ b. if b then x ∷ kept p (suc o) xs else kept p (suc o) xs) (all o) ∙ ap (λ ys. x ∷ ys) (all_kept p (suc o) xs all)

same_kept : {X : Type 0} (p q : ℕ → Bool) (o : ℕ) (xs : List X) → ((j : ℕ) → p j ≡ q j) → kept p o xs ≡ kept q o xs
same_kept p q o [] same = refl
same_kept {X} p q o (x ∷ xs) same =
    ap (λ b. if b then x ∷ kept p (suc o) xs else kept p (suc o) xs) (same o) ∙ ap (λ ys. if q o then x ∷ ys else ys) (same_kept p q (suc o) xs same)

-- events that have their numbers keep them
numbered_same : (o : ℕ) (es : List Event) → ((j : ℕ) (e : Event) → slice_get es j ≡ Some e → e.number ≡ o + j) → numbered o es ≡ es
numbered_same o [] each = refl
numbered_same o (e ∷ es) each =
    let n : o ≡ e.number = sym (each 0 e refl ∙ (let z : o + 0 ≡ o = omega arith in z)) in
    ap (λ m. with_number m e ∷ numbered (suc o) es) n
    ∙ ap (λ fs. e ∷ fs) (numbered_same (suc o) es (λ j f at. each (suc j) f at ∙ (let m : o + suc j ≡ suc o + j = omega arith in m)))

longest : (m : Module) (k : ℕ) (t u : ThreadLog) → IsEndedRun m k t u → length t.events ≤ length u.events
longest m k t u run =
    let n = length t.events in
    let e : n ≡ length (take n u.events) = ap length run.events in
    let l = length-append (take n u.events) (drop n u.events) in
    let w : length (take n u.events ++ drop n u.events) ≡ length u.events = ap length (take-append-drop n u.events) in
    omega (arith, e, l, w)

-- ---- the execution

module _ (m : Module) (starts : List Start) (x : LoggedRun) (is : IsExecutionOf m starts x) (causal : IsCausal (execution x)) (k : ℕ) (t u : ThreadLog) (at_u : slice_get x.log k ≡ Some u) (run : IsEndedRun m k t u) (i n : ℕ)
    (idle : IsIdle m k t i n) where
  abbrev pub D : EventKey → Bool
  D = stays k i n

  le : i ≤ n
  le = let lt = idle.some in omega (arith, lt)

  -- the numbers of the events
  numbers : (c : ℕ) (v : ThreadLog) → slice_get x.log c ≡ Some v → (j : ℕ) (e : Event) → slice_get v.events j ≡ Some e → e.number ≡ j
  numbers c v at_v j e at_e = (is.shaped.keys (record { thread = c; number = j }) e (event_at x.log (record { thread = c; number = j }) v at_v ∙ at_e)).1

  -- an event that doesn't stay writes nothing
  writes_not : (key : EventKey) (e : Event) → event_in x.log key ≡ Some e → D key ≡ false → writes e ≡ false
  writes_not key e at gone = by (cases_eq key.thread k)
    where
      in_turn : key.thread ≡ k → is_outside i n key.number ≡ false → writes e ≡ false
      in_turn same out = past (cases_lt key.number i) (cases_lt key.number n)
        where
          past : (key.number < i) ⊎ (i ≤ key.number) → (key.number < n) ⊎ (n ≤ key.number) → writes e ≡ false
          past (inl lt) c = absurd (false≢true (sym out ∙ ap (λ b. if b then true else nat_le n key.number) (lt-ltb key.number i lt)))
          past (inr ge) (inr more) = absurd (false≢true (sym out ∙ ap (λ b. if b then true else nat_le n key.number) (le-ltb key.number i ge) ∙ le-leb n key.number more))
          past (inr ge) (inl lt) =
              let at_k : slice_get x.log key.thread ≡ Some u = ap (slice_get x.log) same ∙ at_u in
              let there : slice_get u.events key.number ≡ Some e = sym (event_at x.log key u at_k) ∙ at in
              let listed = idle.listed in
              let first : slice_get t.events key.number ≡ Some e =
              ap (λ es. slice_get es key.number) run.events ∙ within (length t.events) u.events key.number (omega (arith, lt, listed)) ∙ there in
              idle.read key.number e ge lt first
            where
              within : (c : ℕ) (es : List Event) (j : ℕ) → j < c → slice_get (take c es) j ≡ slice_get es j
              within zero es j lt = absurd (omega (arith, lt))
              within (suc c) [] j lt = refl
              within (suc c) (e ∷ es) zero lt = refl
              within (suc c) (e ∷ es) (suc j) lt = within c es j (omega (arith, lt))

      by : (key.thread ≡ k) ⊎ (key.thread ≢ k) → writes e ≡ false
      by (inl same) = in_turn same (ap (λ b. if b then is_outside i n key.number else true) (sym (eq-eqb key.thread k same)) ∙ gone)
      by (inr other) = absurd (false≢true (sym gone ∙ ap (λ b. if b then is_outside i n key.number else true) (ne_eqb key.thread k other)))

  -- the writer of a byte writes
  writer : (r w : EventKey) (b : ℕ) → IsSome (event_in x.log r) → ReadsFrom (execution x) r b (At w) → (f : Event) × (event_in x.log w ≡ Some f) × (writes f ≡ true)
  writer r w b there from =
      let e = some_of (event_in x.log r) there in
      let v = is.valid.keeps_written_values r e.0 b (At w) e.1 from in
      left (event_in x.log w) refl e.0 v.1
    where
      wrote : (f : Event) (a value : ℕ) → byte_written f a ≡ Some value → writes f ≡ true
      wrote f a value h = by (cases_Bool (writes f))
        where
          by : (writes f ≡ true) ⊎ (writes f ≡ false) → writes f ≡ true
          by (inl does) = does
          by (inr not) = absurd (none-some value (sym (ap (λ c. if c && (nat_le f.address a && nat_lt a (f.address + bytes_of f.width)) then Some (byte_of f.written (a - f.address)) else None) not) ∙ h))

      left : (o : Option Event) → event_in x.log w ≡ o → (e : Event) → byte_by (execution x) (At w) (e.address + b) ≡ Some (byte_of e.read b) → (f : Event) × (event_in x.log w ≡ Some f) × (writes f ≡ true)
      left None at e h = absurd (none-some _ (sym (ap (option_and_then (λ f. byte_written f (e.address + b))) at) ∙ h))
      left (Some f) at e h = (f, at, wrote f (e.address + b) _ (sym (ap (option_and_then (λ f. byte_written f (e.address + b))) at) ∙ h))

  pub closed : HasItsWriters (execution x) D
  closed r b w there passes from = by (cases_Bool (D w))
    where
      by : (D w ≡ true) ⊎ (D w ≡ false) → IsTrue (D w)
      by (inl stay) = stay
      by (inr gone) = let f = writer r w b there from in absurd (false≢true (sym (writes_not w f.0 f.1 gone) ∙ f.2))

  -- ---- its log

  pub s : ℕ
  s = (shorter_run m k t u run i n idle).0

  abbrev pub short : ThreadLog
  short = shortened i n s u

  abbrev HaveNumbers : List ThreadLog → Type 0
  HaveNumbers log = (c : ℕ) (v : ThreadLog) → slice_get log c ≡ Some v → (j : ℕ) (e : Event) → slice_get v.events j ≡ Some e → e.number ≡ j

  long : n ≤ length u.events
  long = let all = longest m k t u run in let listed = idle.listed in omega (arith, all, listed)

  other : (o : ℕ) (v : ThreadLog) → o ≢ k → ((j : ℕ) (e : Event) → slice_get v.events j ≡ Some e → e.number ≡ j) → numbered 0 (kept (of_thread D o) 0 v.events) ≡ v.events
  other o v not have =
      ap (numbered 0) (all_kept (of_thread D o) 0 v.events (λ j. ap (λ b. if b then is_outside i n j else true) (ne_eqb o k not)))
      ∙ numbered_same 0 v.events (λ j e at. have j e at ∙ (let z : j ≡ 0 + j = omega arith in z))

  others : (o : ℕ) (log : List ThreadLog) → k < o → HaveNumbers log → events_of (pick_threads D o log) ≡ events_of log
  others o [] past have = refl
  others o (v ∷ log) past have =
      ap (λ (es : List Event). es ∷ events_of (pick_threads D (suc o) log)) (other o v (λ e. absurd (omega (arith, e, past))) (have 0 v refl))
      ∙ ap (λ (ess : List (List Event)). v.events ∷ ess) (others (suc o) log (omega (arith, past)) (λ c. have (suc c)))

  this : numbered 0 (kept (of_thread D k) 0 u.events) ≡ leaving_out i n u.events
  this =
      let first : length (take i u.events) ≡ i = length-take-le i u.events (omega (arith, le, long)) in
      let z : 0 + length (take i u.events) ≡ i = omega (arith, first) in
      ap (numbered 0) (same_kept (of_thread D k) (is_outside i n) 0 u.events (λ j. ap (λ b. if b then is_outside i n j else true) (eq-eqb k k refl)) ∙ outside_kept i n 0 u.events le
      ∙ (let a : i - 0 ≡ i = omega arith in let b : n - 0 ≡ n = omega arith in ap (λ c. take c u.events ++ drop (n - 0) u.events) a ∙ ap (λ c. take i u.events ++ drop c u.events) b))
      ∙ numbered_both 0 (take i u.events) (drop n u.events)
      ∙ ap (λ c. numbered 0 (take i u.events) ++ numbered c (drop n u.events)) z
      ∙ ap (λ es. es ++ numbered i (drop n u.events))
      (numbered_same 0 (take i u.events) (λ j e at. numbers k u at_u j e (at_taken i u.events j e at) ∙ (let y : j ≡ 0 + j = omega arith in y)))

  alike_from : (o j : ℕ) (log : List ThreadLog) → k ≡ o + j → slice_get log j ≡ Some u → HaveNumbers log → events_of (pick_threads D o log) ≡ events_of (replaced j short log)
  alike_from o j [] e at have = absurd (none-some u at)
  alike_from o zero (v ∷ log) e at have =
      let same : o ≡ k = omega (arith, e) in
      let is_u : v ≡ u = same_Some v u at in
      ap (λ (es : List Event). es ∷ events_of (pick_threads D (suc o) log))
      (ap (λ c. numbered 0 (kept (of_thread D c) 0 v.events)) same ∙ ap (λ (w : ThreadLog). numbered 0 (kept (of_thread D k) 0 w.events)) is_u ∙ this)
      ∙ ap (λ (ess : List (List Event)). leaving_out i n u.events ∷ ess) (others (suc o) log (omega (arith, e)) (λ c. have (suc c)))
  alike_from o (suc j) (v ∷ log) e at have =
      ap (λ (es : List Event). es ∷ events_of (pick_threads D (suc o) log)) (other o v (λ same. absurd (omega (arith, e, same))) (have 0 v refl))
      ∙ ap (λ (ess : List (List Event)). v.events ∷ ess) (alike_from (suc o) j log (omega (arith, e)) at (λ c. have (suc c)))

  abbrev pub w : Witness
  w = (pick x D).witness

  -- x without the turn
  abbrev pub without_turn : LoggedRun
  without_turn = run_with (replaced k short x.log) x.initial w

  alike : events_of (pick x D).log ≡ events_of without_turn.log
  alike = alike_from 0 k x.log (omega arith) at_u numbers

  allowed : IsAllowedWith without_turn.log x.initial w
  allowed = allowed_too (pick x D).log without_turn.log alike x.initial w (pick-is-valid x D is.shaped closed is.valid)

  -- ---- it stands for x

  picked_causal : IsCausal (execution (pick x D))
  picked_causal =
      let old = pick-lies-within x D is.shaped closed in (
        (λ key. causal.0 (old.0 key)),
        record {
          threads = λ a b before. causal.1.threads (old.0 a) (old.0 b) (old.1.threads a b before);
          reads = λ r v b there from.
              let e = some_of (event_in (pick x D).log r) there in
              let f = old.1.events r e.0 e.1 in
              causal.1.reads (old.0 r) (old.0 v) b (subst (λ o. IsSome o) (sym f.1) refl) (old.1.writers r b (At v) there from);
        },
      )

  its_run : IsRun m k short
  unfolding s
  its_run = (shorter_run m k t u run i n idle).2

  no_longer : s ≤ u.steps
  unfolding s
  no_longer = (shorter_run m k t u run i n idle).1

  its_length : length short.events + (n - i) ≡ length u.events
  its_length =
      let a = length-append (take i u.events) (numbered i (drop n u.events)) in
      let b = length_numbered i (drop n u.events) in
      let c = length-drop n u.events in
      let l = length-take-le i u.events (omega (arith, le, long)) in
      let g = long in
      let h = le in
      omega (arith, a, b, c, l, g, h)

  pub fewer : event_count without_turn.log < event_count x.log
  fewer = let a = replaced_count short u k x.log at_u in let b = its_length in let c = idle.some in omega (arith, a, b, c)

  is_execution : IsExecutionOf m starts without_turn
  is_execution = record {
    initial = is.initial;
    started = replaced_starts short u k x.log at_u refl ∙ is.started;
    runs = λ c v at. ran c v (at_replaced k short x.log c v at);
    finished = λ c v at. ended c v (at_replaced k short x.log c v at);
    shaped = allowed.0;
    valid = allowed.1;
  }
    where
      ran : (c : ℕ) (v : ThreadLog) → ((c ≡ k) × (v ≡ short)) ⊎ ((c ≢ k) × (slice_get x.log c ≡ Some v)) → IsRun m c v
      ran c v (inl h) = subst (λ d. IsRun m d v) (sym h.0) (subst (IsRun m k) (sym h.1) its_run)
      ran c v (inr h) = is.runs c v h.1

      ended : (c : ℕ) (v : ThreadLog) → ((c ≡ k) × (v ≡ short)) ⊎ ((c ≢ k) × (slice_get x.log c ≡ Some v)) → v.end ≢ Cut
      ended c v (inl h) = λ cut. is.finished k u at_u (ap (λ (z : ThreadLog). z.end) (sym h.1) ∙ cut)
      ended c v (inr h) = is.finished c v h.1

  pub stands_for : StandsFor m starts without_turn x
  stands_for = record {
    is_execution = is_execution;
    causal = holds_too (pick x D).log without_turn.log alike IsCausal x.initial w picked_causal;
    ends = replaced_ends short u k x.log at_u refl;
    no_more = let lt = fewer in omega (arith, lt);
    within = λ c h d v at. within c h d v (at_replaced k short x.log d v at);
  }
    where
      within : (c : ℕ) → IsWithin c x.log → (d : ℕ) (v : ThreadLog) → ((d ≡ k) × (v ≡ short)) ⊎ ((d ≢ k) × (slice_get x.log d ≡ Some v)) → (length v.events ≤ c) × (v.steps ≤ 1000000)
      within c h d v (inr o) = h d v o.1
      within c h d v (inl o) =
          let old = h k u at_u in
          let a = old.0 in
          let b = its_length in
          let e = old.1 in
          let f = no_longer in
          let l : length v.events ≡ length short.events = ap (λ (z : ThreadLog). length z.events) o.1 in
          let g : v.steps ≡ s = ap (λ (z : ThreadLog). z.steps) o.1 in
          (omega (arith, a, b, l), omega (arith, e, f, g))
