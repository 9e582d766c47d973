-- Scheduled events are on no cycle, and what is left when no thread is ready has one.
use Rattle.std.proofs.Common.{◌≡◌, ◌≢◌, ℕ, ◌+◌, ◌-◌, ◌<◌, ◌≤◌, zero, suc, List, [], ◌∷◌, ◌++◌, drop, take, length, get_or, reverse, slice_get, slice_set, Option, None, Some, IsSome, is_some, true, false, option_and_then, unwrap_or, refl, sym, ap, ◌∙◌, subst, arith, inl, inr, ◌⊎◌, ⊎_elim}
use Rattle.std.specs.Prelude.{MatchOption}
use Rattle.std.proofs.Math.Seq.{drop-length}
use Rattle.std.proofs.lemmas.Bool.{cases_lt}
use Rattle.std.proofs.lemmas.Grind.{common_steps, get_or-set_at}
use Rattle.std.proofs.lemmas.List.{drop-append-le, get_or-set_other, length-append, length-drop, length-reverse, reverse-append, take-append-drop, take_at}
use Rattle.std.proofs.lemmas.Option.{gets, same_Some, slice_get-get_or, slice_get_within}
use Rattle.wm_event.specs.declared.event.Event.{Event}
use Rattle.wm_event.specs.declared.event.EventKey.{EventKey}
use Rattle.wm_event.specs.declared.event.EventId.{EventId}
use Rattle.wm_event.specs.declared.event.EventId.TheVariants.{Init, At}
use Rattle.wm_event.specs.declared.log.ThreadLog.{ThreadLog}
use Rattle.wm_event.specs.Execution.{Execution}
use Rattle.wm_event.specs.HappensBefore.{SequencedBefore, SynchronizesWith, Edge, Chain, HappensBefore}
use Rattle.wm_event.specs.Event.{key_of}
use Rattle.wm_event.specs.Log.{HasKeys, event_in}
use Rattle.wm_event.specs.LoggedRun.{LoggedRun, execution}
use Rattle.wm_hb.specs.Chain.{Leads}
use Rattle.wm_hb.specs.Cycle.{AddsBack, IsAcyclic, IsReady, IsSchedule, IsScheduled, next_key}
use Rattle.wm_hb.specs.declared.chain.Link.{Link}
use Rattle.wm_hb.proofs.ChainLaws.{chain_there, never_init}
use Rattle.wm_hb.proofs.FaultLemmas.{same_key_parts}

-- the numbers of a schedule, with one event more of a thread
abbrev pub with_next : List ℕ → ℕ → List ℕ
with_next s t = slice_set s t (get_or s t 0 + 1)

there_of : (s : List ℕ) (t u : ℕ) → t < length s → u ≡ t → get_or (with_next s t) u 0 ≡ get_or s t 0 + 1
there_of s t u l same = get_or-set_at s t u (get_or s t 0 + 1) 0 same l

other_of : (s : List ℕ) (t u : ℕ) → u ≢ t → get_or (with_next s t) u 0 ≡ get_or s u 0
other_of s t u not = get_or-set_other s t u (get_or s t 0 + 1) 0 not

same_or_not : (a b : ℕ) → (a ≡ b) ⊎ (a ≢ b)
same_or_not a b = ⊎_elim
    (λ (l : a < b). inr (λ e. omega (arith, l, e)))
    (λ (l : b ≤ a). ⊎_elim (λ (m : b < a). inr (λ e. omega (arith, m, e))) (λ (m : a ≤ b). inl (omega (arith, l, m))) (cases_lt b a))
    (cases_lt a b)

-- what was scheduled stays so
still : (s : List ℕ) (t : ℕ) (key : EventKey) → t < length s → IsScheduled s key → IsScheduled (with_next s t) key
still s t key l is = ⊎_elim
    (λ (e : key.thread ≡ t).
    let now = there_of s t key.thread l e in
    let same : get_or s key.thread 0 ≡ get_or s t 0 = ap (λ u. get_or s u 0) e in
    omega (arith, is, now, same))
    (λ (not : key.thread ≢ t). let now = other_of s t key.thread not in omega (arith, is, now))
    (same_or_not key.thread t)

-- what is scheduled was so, or is the next event
newly : (s : List ℕ) (t : ℕ) (key : EventKey) → t < length s → IsScheduled (with_next s t) key → IsScheduled s key ⊎ (key ≡ next_key s t)
newly s t key l is = ⊎_elim
    (λ (e : key.thread ≡ t).
    let now = there_of s t key.thread l e in
    let same : get_or s key.thread 0 ≡ get_or s t 0 = ap (λ u. get_or s u 0) e in ⊎_elim
    (λ (less : key.number < get_or s t 0). inl (omega (arith, less, same)))
    (λ (more : get_or s t 0 ≤ key.number). inr (same_key_parts key (next_key s t) e (omega (arith, more, is, now))))
    (cases_lt key.number (get_or s t 0)))
    (λ (not : key.thread ≢ t). let now = other_of s t key.thread not in inl (omega (arith, is, now)))
    (same_or_not key.thread t)

module _ (x : Execution) (s : List ℕ) (is : IsSchedule x s) (t : ℕ) (l : t < length s) (ready : IsReady x s t) where
  -- what has an edge to the next event is scheduled
  before_next : (a : EventKey) → Edge x (At a) (At (next_key s t)) → IsScheduled s a
  before_next a edge = ⊎_elim
      (λ (q : SequencedBefore x a (next_key s t)).
      let same : get_or s a.thread 0 ≡ get_or s t 0 = ap (λ u. get_or s u 0) q.same_thread in
      let less = q.earlier in
      omega (arith, less, same))
      (λ (q : SynchronizesWith x a (next_key s t)). ready.after a q)
      edge

  -- and so is what happens before it
  reaches_next : (between : List EventId) (a : EventKey) → Chain x (At a) between (At (next_key s t)) → IsScheduled s a
  reaches_next [] a h = before_next a h
  reaches_next (Init ∷ ids) a h = absurd h.0
  reaches_next (At c ∷ ids) a h = is.closed a c h.0 (reaches_next ids c h.1)

  pub schedule-more : IsSchedule x (with_next s t)
  schedule-more = record {
    closed = λ a b edge there. ⊎_elim
        (λ (old : IsScheduled s b). still s t a l (is.closed a b edge old))
        (λ (new : b ≡ next_key s t). still s t a l (before_next a (subst (λ k. Edge x (At a) (At k)) new edge)))
        (newly s t b l there);
    acyclic = λ a there cycle. ⊎_elim
        (λ (old : IsScheduled s a). is.acyclic a old cycle)
        (λ (new : a ≡ next_key s t).
        let around : HappensBefore x (At (next_key s t)) (At (next_key s t)) = subst (λ k. HappensBefore x (At k) (At k)) new cycle in
        let below : IsScheduled s (next_key s t) = reaches_next around.0 (next_key s t) around.1 in
        absurd (omega (arith, below)))
        (newly s t a l there);
  }

-- no event is scheduled at first
pub none-scheduled : (x : Execution) (s : List ℕ) → ((t : ℕ) → get_or s t 0 ≡ 0) → IsSchedule x s
none-scheduled x s zeros = record {
  closed = λ a b edge there. absurd (let z = zeros b.thread in omega (arith, there, z));
  acyclic = λ a there cycle. absurd (let z = zeros a.thread in omega (arith, there, z));
}

-- an earlier event of a thread is there
pub earlier-there : (log : List ThreadLog) (key : EventKey) (n : ℕ) → IsSome (event_in log key) → n ≤ key.number → IsSome (event_in log (record { thread = key.thread; number = n }))
earlier-there log key n there l = grind (arith, common_steps, gets)

-- if all events are scheduled, there is no cycle
pub all-scheduled : (run : LoggedRun) (s : List ℕ) → IsSchedule (execution run) s → ((t : ℕ) → event_in run.log (next_key s t) ≡ None) → IsAcyclic (execution run)
all-scheduled run s is none Init cycle = never_init run cycle.0 Init cycle.1
all-scheduled run s is none (At key) cycle = ⊎_elim
    (λ (there : IsScheduled s key). is.acyclic key there cycle)
    (λ (late : get_or s key.thread 0 ≤ key.number).
    let some = earlier-there run.log key (get_or s key.thread 0) (chain_there run cycle.0 (At key) key cycle.1) late in
    let no = none key.thread in
    absurd (cc))
    (cases_lt key.number (get_or s key.thread 0))

-- how many events aren't scheduled
abbrev pub remaining : List ThreadLog → List ℕ → ℕ
remaining [] s = 0
remaining (thread ∷ threads) [] = 0
remaining (thread ∷ threads) (n ∷ s) = (length thread.events - n) + remaining threads s

pub remaining-less : (log : List ThreadLog) (s : List ℕ) (t : ℕ) (thread : ThreadLog) → slice_get log t ≡ Some thread → t < length s → get_or s t 0 < length thread.events
    → remaining log (with_next s t) < remaining log s
remaining-less [] s t thread at l less = absurd (cc)
remaining-less (th ∷ ths) [] t thread at l less = absurd (omega (arith, l))
remaining-less (th ∷ ths) (n ∷ s) zero thread at l less =
    let same : th ≡ thread = same_Some th thread at in
    let size : length th.events ≡ length thread.events = ap (λ (o : ThreadLog). length o.events) same in
    let short : n < length th.events = omega (arith, less, size) in
    omega (arith, short)
remaining-less (th ∷ ths) (n ∷ s) (suc t) thread at l less =
    let rest = remaining-less ths s t thread at (omega (arith, l)) less in
    omega (arith, rest)

-- how many threads weren't entered
abbrev pub blanks : List (Option ℕ) → ℕ
blanks [] = 0
blanks (None ∷ os) = suc (blanks os)
blanks (Some n ∷ os) = blanks os

pub blanks-less : (os : List (Option ℕ)) (t n : ℕ) → slice_get os t ≡ Some None → blanks (slice_set os t (Some n)) < blanks os
blanks-less [] t n at = absurd (cc)
blanks-less (None ∷ os) zero n at = omega arith
blanks-less (Some m ∷ os) zero n at = absurd (cc)
blanks-less (None ∷ os) (suc t) n at = let rest = blanks-less os t n at in omega (arith, rest)
blanks-less (Some m ∷ os) (suc t) n at = blanks-less os t n at

-- one chain after another
pub leads-append : (x : Execution) (a b c : EventId) (first second : List Link) → Leads x a first b → Leads x b second c → Leads x a (first ++ second) c
leads-append x a b c [] second h k = subst (λ id. Leads x id second c) (sym h) k
leads-append x a b c (link ∷ links) second h k = (h.0, leads-append x (At link.event) b c links second h.1 k)

-- links from an event on, with those that were added before them
pub leads-back : (x : Execution) (old new : List Link) (before event to : EventKey) (n : ℕ) → n ≤ length old → AddsBack x old new before event → Leads x (At event) (reverse (drop n old)) (At to)
    → Leads x (At before) (reverse (drop n new)) (At to)
leads-back x old new before event to n l added rest =
    let parts : drop n new ≡ drop n old ++ added.0 = ap (drop n) added.1 ∙ drop-append-le n old added.0 l in
    let turned : reverse (drop n new) ≡ reverse added.0 ++ reverse (drop n old) = ap reverse parts ∙ reverse-append (drop n old) added.0 in
    subst (λ ls. Leads x (At before) ls (At to)) (sym turned) (leads-append x (At before) (At event) (At to) (reverse added.0) (reverse (drop n old)) added.3 rest)

-- an event at a place of a log, by its key
pub next-there : (log : List ThreadLog) → HasKeys log → (t n : ℕ) (thread : ThreadLog) (e : Event) → slice_get log t ≡ Some thread → slice_get thread.events n ≡ Some e
    → (key_of e ≡ record { thread = t; number = n }) × (event_in log (record { thread = t; number = n }) ≡ Some e)
next-there log keys t n thread e at_t at_n =
    let there : event_in log (record { thread = t; number = n }) ≡ Some e = ap (option_and_then (λ (th : ThreadLog). slice_get th.events n)) at_t ∙ at_n in
    let named = keys (record { thread = t; number = n }) e there in
    (same_key_parts (key_of e) (record { thread = t; number = n }) named.0 named.1, there)

-- what a search that found nothing states
pub found-none : {X N : Type 0} (S : X → Type 0) (o : Option X) → MatchOption o N S → false ≡ is_some o → N
found-none S None states none = states
found-none S (Some x) states none = absurd (cc)

some-within : {X : Type 0} (xs : List X) (n : ℕ) → IsSome (slice_get xs n) → n < length xs
some-within xs n there = grind (arith, common_steps, gets)

in-thread : (o : Option ThreadLog) (n : ℕ) → IsSome (option_and_then (λ (th : ThreadLog). slice_get th.events n) o) → (thread : ThreadLog) × (o ≡ Some thread) × (n < length thread.events)
in-thread None n there = absurd (cc)
in-thread (Some th) n there = (th, refl, some-within th.events n there)

-- the thread of an event of a log
pub thread-of : (log : List ThreadLog) (t n : ℕ) → IsSome (event_in log (record { thread = t; number = n })) → (thread : ThreadLog) × (slice_get log t ≡ Some thread) × (n < length thread.events)
thread-of log t n there = in-thread (slice_get log t) n there

-- the thread of an event is one of the threads of the log
pub thread-within : (log : List ThreadLog) (key : EventKey) (threads : ℕ) → IsSome (event_in log key) → threads ≡ length log → key.thread < threads
thread-within log key threads there size =
    let thread = thread-of log key.thread key.number there in
    let within = slice_get_within log key.thread thread.0 thread.1 in
    omega (arith, within, size)

-- what stands in a list after one item is set
pub set-same : {X : Type 0} (xs : List X) (i : ℕ) (x y : X) → i < length xs → slice_get (slice_set xs i x) i ≡ Some y → x ≡ y
set-same [] i x y l at = absurd (omega (arith, l))
set-same (z ∷ zs) zero x y l at = same_Some x y at
set-same (z ∷ zs) (suc i) x y l at = set-same zs i x y (omega (arith, l)) at

pub set-other : {X : Type 0} (xs : List X) (i j : ℕ) (x : X) → j ≢ i → slice_get (slice_set xs i x) j ≡ slice_get xs j
set-other [] i j x not = refl
set-other (z ∷ zs) zero zero x not = absurd (not refl)
set-other (z ∷ zs) zero (suc j) x not = refl
set-other (z ∷ zs) (suc i) zero x not = refl
set-other (z ∷ zs) (suc i) (suc j) x not = set-other zs i j x (λ e. not (ap suc e))

-- the last links, turned round, are the first ones of all links turned round
pub turned-rest : (n : ℕ) (links : List Link) → n ≤ length links → reverse (drop n links) ≡ take (length links - n) (reverse links)
turned-rest n links l =
    let back = reverse (drop n links) in
    let whole : reverse links ≡ back ++ reverse (take n links) = ap reverse (sym (take-append-drop n links)) ∙ reverse-append (take n links) (drop n links) in
    let size : length back ≡ length links - n = length-reverse (drop n links) ∙ length-drop n links in
    sym (ap (take (length links - n)) whole ∙ take_at back (reverse (take n links)) (length links - n) size)

-- from the event the links lead on to the next event of each thread that was entered
abbrev pub LeadsBack : Execution → List ℕ → List (Option ℕ) → List Link → EventKey → Type 0
LeadsBack x s entered links event = (t n : ℕ) → slice_get entered t ≡ Some (Some n) → (n < length links) × Leads x (At event) (reverse (drop n links)) (At (next_key s t))

module _ (x : Execution) (s : List ℕ) (old new : List Link) (entered : List (Option ℕ)) (before event : EventKey) where
  -- and so they do after one step back
  pub leads-on : event ≡ next_key s event.thread → event.thread < length entered → AddsBack x old new before event → LeadsBack x s entered old event
      → LeadsBack x s (slice_set entered event.thread (Some (length old))) new before
  leads-on next l added back t n at = ⊎_elim
      (λ (here : t ≡ event.thread).
      let first : Some (length old) ≡ Some n = set-same entered event.thread (Some (length old)) (Some n) l (subst (λ u. slice_get (slice_set entered event.thread (Some (length old))) u ≡ Some (Some n)) here at) in
      let size : n ≡ length old = sym (same_Some (length old) n first) in
      let none : drop n old ≡ [] = ap (λ k. drop k old) size ∙ drop-length old in
      let to : At event ≡ At (next_key s t) = ap At (next ∙ ap (next_key s) (sym here)) in
      let rest : Leads x (At event) (reverse (drop n old)) (At (next_key s t)) = subst (λ ls. Leads x (At event) (reverse ls) (At (next_key s t))) (sym none) to in
      (omega (arith, size, longer), leads-back x old new before event (next_key s t) n (omega (arith, size)) added rest))
      (λ (other : t ≢ event.thread).
      let kept = back t n (sym (set-other entered event.thread t (Some (length old)) other) ∙ at) in
      let inside = kept.0 in
      (omega (arith, inside, longer), leads-back x old new before event (next_key s t) n (omega (arith, inside)) added kept.1))
      (same_or_not t event.thread)
    where
      longer : length old < length new
      longer = let size = ap length added.1 ∙ length-append old added.0 in let some = added.2 in omega (arith, size, some)

-- an option by what it answers
pub blank : (o : Option ℕ) → is_some o ≡ false → o ≡ None
blank None h = refl
blank (Some n) h = absurd (cc)

pub filled : (o : Option ℕ) → is_some o ≡ true → o ≡ Some (unwrap_or o 0)
filled None h = absurd (cc)
filled (Some n) h = refl

-- a thread that was entered before is led back to, whichever of two reads of its entry tells
pub led-back : (x : Execution) (s : List ℕ) (entered : List (Option ℕ)) (links : List Link) (event : EventKey) → LeadsBack x s entered links event → event.thread < length entered
    → (o q : Option ℕ) → o ≡ get_or entered event.thread o → q ≡ get_or entered event.thread q → is_some o ≡ true
    → (unwrap_or q 0 < length links) × Leads x (At event) (reverse (drop (unwrap_or q 0) links)) (At (next_key s event.thread))
led-back x s entered links event back l o q is_o is_q some =
    let at_o : slice_get entered event.thread ≡ Some o = slice_get-get_or entered event.thread o l ∙ ap Some (sym is_o) in
    let at_q : slice_get entered event.thread ≡ Some q = slice_get-get_or entered event.thread q l ∙ ap Some (sym is_q) in
    let same : o ≡ q = same_Some o q (sym at_o ∙ at_q) in
    back event.thread (unwrap_or q 0) (at_q ∙ ap Some (filled q (subst (λ p. is_some p ≡ true) same some)))
