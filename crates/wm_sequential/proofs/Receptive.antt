-- The executions of a module are receptive: a read may take the bytes of a write that it races with.
use Rattle.std.proofs.Common.{◌≡◌, ◌≢◌, ℕ, zero, suc, ◌+◌, ◌-◌, ◌*◌, ◌%◌, ◌^◌, ◌<◌, ◌≤◌, ◌==◌, true, false, List, [], ◌∷◌, ◌++◌, get_or, length, take, slice_get, Option, None, Some, IsSome, IsTrue, is_some, refl, sym, ap, ◌∙◌, subst, arith, inl, ⊎_elim, if◌then◌else◌}
use Rattle.std.specs.Prelude.{option_and_then, unwrap_or}
use Rattle.std.proofs.lemmas.Bool.{and_from, cases_Bool, cases_eq, cases_lt, eq-eqb, false≢true}
use Rattle.std.proofs.lemmas.Option.{none-some, same_Some, slice_get-get_or, slice_get_past, slice_get_within}
use Rattle.wm_access.specs.AccessWidth.{bytes_of}
use Rattle.wm_event.specs.declared.event.Event.{Event}
use Rattle.wm_event.specs.declared.event.EventKey.{EventKey}
use Rattle.wm_event.specs.declared.event.EventId.{EventId}
use Rattle.wm_event.specs.declared.event.EventId.TheVariants.{Init, At}
use Rattle.wm_event.specs.declared.log.ThreadLog.{ThreadLog}
use Rattle.wm_event.specs.Byte.{byte_of}
use Rattle.wm_event.specs.Event.{byte_written, reads, same_key, writes}
use Rattle.wm_event.specs.Execution.{Execution, ReadsFrom, byte_by, place}
use Rattle.wm_event.specs.Log.{event_in}
use Rattle.wm_event.specs.Rules.{IsValid, Writes}
use Rattle.wm_event.specs.Shape.{read_width}
use Rattle.wm_event.specs.declared.log.End.TheVariants.{Cut}
use Rattle.wm_event.proofs.PlacesLemmas.{key_from_same}
use Rattle.wm_event.proofs.LogLemmas.{event_in_thread}
use Rattle.wm_memory.specs.declared.cells.Cell.{Cell}
use Rattle.wm_memory.specs.Visibility.{value_at}
use Rattle.wm_memory.proofs.Digits.{byte_of_value, value_below}
use Rattle.wm_races.specs.Races.{IsUnordered}
use Rattle.wm_replay.specs.Replay.{IsRun}
use Rattle.wm_sequential.specs.ModulePrograms.{IsExecutionOf, Program, starts_of}
use Rattle.wm_sequential.specs.Programs.{HasDistinctPlaces, HasNoStandardRace, IsCut, IsSource, LeadsTo}
use Rattle.wm_sequential.specs.Programs.IsSource.{of_last, of_write}
use Rattle.wm_sequential.specs.Programs.LeadsTo.{before_read, is_write}
use Rattle.wm_sequential.specs.Sequential.{IsLastWrite}
use Rattle.wm_sequential.proofs.Cuts.{HoldsBelow, cut-at, cut-end, cut-past, holds-below, taken-at, taken-past}
use Rattle.wm_sequential.proofs.LastWrites.{IsLeading, LastLeading, NewSource, choose, new-byte, new-source, places-bound, written-by}
use Rattle.wm_sequential.proofs.LastWrites.NewSource.{of_leading, of_v}
use Rattle.wm_sequential.proofs.Leading.{leads-on, not-after-read, writes-none}
use Rattle.wm_sequential.proofs.Steps.{same-keys, some_of}
use Rattle.wm_sequential.proofs.ThreadRuns.{ChangedRun, OneAccess, changed-run, cut-run, one-access}

length-starts : (log : List ThreadLog) → length (starts_of log) ≡ length log
length-starts [] = refl
length-starts (thread ∷ log) = ap suc (length-starts log)

same-self : (r : EventKey) → same_key r r ≡ true
same-self r = and_from (r.thread == r.thread) (r.number == r.number) (eq-eqb r.thread r.thread refl) (eq-eqb r.number r.number refl)

module _ (p : Program) (x : Execution) (ex : IsExecutionOf p x) (valid : IsValid x) (none : HasNoStandardRace x)
    (r v : EventKey) (e g : Event) (is_r : x.event_of r ≡ Some e) (is_v : x.event_of v ≡ Some g) (does : IsTrue (reads e)) (only : writes e ≡ false) (does_write : IsTrue (writes g)) (unordered : IsUnordered x r v) where
  abbrev Leads : EventKey → Type 0
  Leads key = LeadsTo x r v key

  abbrev key-at : ℕ → ℕ → EventKey
  key-at t i = record { thread = t; number = i }

  -- ---- the threads

  was-in : (key : EventKey) (thread : ThreadLog) → slice_get ex.log key.thread ≡ Some thread → x.event_of key ≡ slice_get thread.events key.number
  was-in key thread at = ex.events key ∙ event_in_thread ex.log key.thread key.number thread at

  nothing-was : (key : EventKey) → slice_get ex.log key.thread ≡ None → x.event_of key ≡ None
  nothing-was key at = ex.events key ∙ ap (option_and_then (λ (thread : ThreadLog). slice_get thread.events key.number)) at

  there : (t i : ℕ) (thread : ThreadLog) (f : Event) → slice_get ex.log t ≡ Some thread → slice_get thread.events i ≡ Some f → IsSome (x.event_of (key-at t i))
  there t i thread f at at_f = some_of (x.event_of (key-at t i)) f (was-in (key-at t i) thread at ∙ at_f)

  -- what is before something that leads to r or v leads there
  leads-back : (t i j : ℕ) (thread : ThreadLog) → slice_get ex.log t ≡ Some thread → i < j → j < length thread.events → Leads (key-at t j) → Leads (key-at t i)
  leads-back t i j thread at l below h =
      let f = some-within thread.events i (omega (arith, l, below)) in
      let f' = some-within thread.events j below in
      leads-on x r v (key-at t i) (key-at t j) ([], inl (record { first = there t i thread f.0 at f.1; second = there t j thread f'.0 at f'.1; same_thread = refl; earlier = l })) h
    where
      some-within : (es : List Event) (i : ℕ) → i < length es → (f : Event) × (slice_get es i ≡ Some f)
      some-within [] i l = absurd (omega (arith, l))
      some-within (e ∷ es) zero l = (e, refl)
      some-within (e ∷ es) (suc i) l = some-within es i (omega (arith, l))

  own : (thread : ThreadLog) × (slice_get ex.log r.thread ≡ Some thread)
  own = by (slice_get ex.log r.thread) refl
    where
      by : (o : Option ThreadLog) → slice_get ex.log r.thread ≡ o → (thread : ThreadLog) × (slice_get ex.log r.thread ≡ Some thread)
      by None at = absurd (none-some e (sym (nothing-was r at) ∙ is_r))
      by (Some thread) at = (thread, at)

  own-read : slice_get own.0.events r.number ≡ Some e
  own-read = sym (was-in r own.0 own.1) ∙ is_r

  bound : (bound : ℕ) × ((key : EventKey) → IsSome (event_in ex.log key) → x.place_of key < bound)
  bound = places-bound x.place_of ex.log

  bounded : (key : EventKey) → IsSome (x.event_of key) → x.place_of key < bound.0
  bounded key h = bound.1 key (subst (λ o. IsSome o) (ex.events key) h)

  count-read : length (x.writers_of r) ≡ bytes_of e.width
  count-read = ex.writers r e is_r ∙ ap (λ b. if b then bytes_of e.width else 0) does

  -- ---- the bytes that the read takes

  module _ (ws : List EventId) (count : length ws ≡ bytes_of e.width) (chosen : (k : ℕ) (w : EventId) → slice_get ws k ≡ Some w → NewSource x r v e k w) where
    abbrev byte-at : ℕ → ℕ
    byte-at a = unwrap_or (option_and_then (λ w. byte_by x w a) (slice_get ws (a - e.address))) 0

    abbrev cell : ℕ → Cell
    cell a = record { byte = byte-at a % 256; writer = Init }

    small : (a : ℕ) → (cell a).byte < 256
    small a = let n : ℕ = byte-at a in let l : n % 256 < 256 = omega arith in l

    abbrev value : ℕ
    value = value_at cell e.address (bytes_of e.width)

    value-fits : value < 2 ^ (8 * bytes_of e.width)
    value-fits = value_below cell small e.address (bytes_of e.width)

    value-byte : (k : ℕ) (w : EventId) → slice_get ws k ≡ Some w → byte_by x w (e.address + k) ≡ Some (byte_of value k)
    value-byte k w at =
        let b = new-byte x r v e k w (chosen k w at) in
        let z : e.address + k - e.address ≡ k = omega arith in
        let l = slice_get_within ws k w at in
        let here : byte-at (e.address + k) ≡ b.byte = ap (λ i. unwrap_or (option_and_then (λ w. byte_by x w (e.address + k)) (slice_get ws i)) 0) z
        ∙ ap (λ o. unwrap_or (option_and_then (λ w. byte_by x w (e.address + k)) o) 0) at ∙ ap (λ o. unwrap_or o 0) b.is in
        let digit : byte_of value k ≡ byte-at (e.address + k) % 256 = byte_of_value cell small e.address (bytes_of e.width) k (omega (arith, l, count)) in
        let below = b.small in
        let whole : b.byte % 256 ≡ b.byte = omega (arith, below) in
        b.is ∙ ap Some (sym (digit ∙ ap (λ n. n % 256) here ∙ whole))

    -- ---- a thread that is cut

    changed : ChangedRun p.code r.thread own.0 r.number e value
    changed = changed-run p.code r.thread own.0 r.number (ex.is_log.runs r.thread own.0 own.1) e own-read does value value-fits

    abbrev made : Event
    made = changed.made

    one : OneAccess e made value
    one = one-access e made value changed.access does

    record CutThread (t : ℕ) (thread c : ThreadLog) : Type 0 where
      run : IsRun p.code t c
      fewer : c.steps ≤ thread.steps
      start : c.start ≡ thread.start
      was : (i : ℕ) (f : Event) → key-at t i ≢ r → slice_get c.events i ≡ Some f → (slice_get thread.events i ≡ Some f) × Leads (key-at t i)
      still : (i : ℕ) (f : Event) → key-at t i ≢ r → slice_get thread.events i ≡ Some f → Leads (key-at t i) → slice_get c.events i ≡ Some f
      read : t ≡ r.thread → slice_get c.events r.number ≡ Some made

    other-thread : (t : ℕ) (thread : ThreadLog) → slice_get ex.log t ≡ Some thread → t ≢ r.thread → ((c : ThreadLog) × CutThread t thread c → ⊥) → ⊥
    other-thread t thread at other not = holds-below (λ i. Leads (key-at t i)) (length thread.events) (λ i j l k h. leads-back t i j thread at l k h) by
      where
        by : HoldsBelow (λ i. Leads (key-at t i)) (length thread.events) → ⊥
        by b = ⊎_elim cut uncut (cases_lt b.n (length thread.events))
          where
            uncut : length thread.events ≤ b.n → ⊥
            uncut l = not (
              thread,
              record {
                run = ex.is_log.runs t thread at;
                fewer = omega arith;
                start = refl;
                was = λ i f apart h. (h, let k = slice_get_within thread.events i f h in b.below i (omega (arith, k, l)));
                still = λ i f apart h leading. h;
                read = λ same. absurd (other same);
              },
            )

            cut : b.n < length thread.events → ⊥
            cut l =
                let c = cut-run p.code t thread b.n (ex.is_log.runs t thread at) l in
                not (
                  c.cut,
                  record {
                    run = c.is_cut.run;
                    fewer = c.is_cut.fewer;
                    start = c.is_cut.start;
                    was = λ i f apart h.
                        let h' : slice_get (take b.n thread.events) i ≡ Some f = sym (ap (λ es. slice_get es i) c.is_cut.made) ∙ h in
                        ⊎_elim
                        (λ (less : i < b.n). (sym (taken-at thread.events b.n i less) ∙ h', b.below i less))
                        (λ (more : b.n ≤ i). absurd (none-some f (sym (taken-past thread.events b.n i more) ∙ h')))
                        (cases_lt i b.n);
                    still = λ i f apart h leading. ap (λ es. slice_get es i) c.is_cut.made ∙ ⊎_elim
                        (λ (less : i < b.n). taken-at thread.events b.n i less ∙ h)
                        (λ (more : b.n ≤ i). absurd (b.above i more (slice_get_within thread.events i f h) leading))
                        (cases_lt i b.n);
                    read = λ same. absurd (other same);
                  },
                )

    own-thread : (c : ThreadLog) × CutThread r.thread own.0 c
    own-thread =
        let inside : r.number < length own.0.events = slice_get_within own.0.events r.number e own-read in (
          changed.cut,
          record {
            run = changed.is_cut.run;
            fewer = changed.is_cut.fewer;
            start = changed.is_cut.start;
            was = λ i f apart h.
                let h' : slice_get (take r.number own.0.events ++ made ∷ []) i ≡ Some f = sym (ap (λ es. slice_get es i) changed.is_cut.made) ∙ h in
                ⊎_elim
                (λ (less : i < r.number).
                let at_f : slice_get own.0.events i ≡ Some f = sym (cut-at own.0.events r.number i made inside less) ∙ h' in (
                  at_f,
                  before_read ([], inl (record { first = there r.thread i own.0 f own.1 at_f; second = some_of (x.event_of r) e is_r; same_thread = refl; earlier = less })),
                ))
                (λ (more : r.number ≤ i). ⊎_elim
                (λ (later : r.number < i). absurd (none-some f (sym (cut-past own.0.events r.number i made inside later) ∙ h')))
                (λ (l : i ≤ r.number). absurd (is-apart i apart (omega (arith, more, l))))
                (cases_lt r.number i))
                (cases_lt i r.number);
            still = λ i f apart h leading. ap (λ es. slice_get es i) changed.is_cut.made ∙ ⊎_elim
                (λ (less : i < r.number). cut-at own.0.events r.number i made inside less ∙ h)
                (λ (more : r.number ≤ i). ⊎_elim
                (λ (later : r.number < i). absurd (not-after-read x valid r v (key-at r.thread i) unordered leading ([], inl (record { first = some_of (x.event_of r) e is_r; second = there r.thread i own.0 f own.1 h; same_thread = refl; earlier = later }))))
                (λ (l : i ≤ r.number). absurd (is-apart i apart (omega (arith, more, l))))
                (cases_lt r.number i))
                (cases_lt i r.number);
            read = λ same. ap (λ es. slice_get es r.number) changed.is_cut.made ∙ cut-end own.0.events r.number made inside;
          },
        )
      where
        is-apart : (i : ℕ) → key-at r.thread i ≢ r → i ≡ r.number → ⊥
        is-apart i apart same = apart (λ j. record { thread = r.thread; number = same j })

    cut-thread : (t : ℕ) (thread : ThreadLog) → slice_get ex.log t ≡ Some thread → ((c : ThreadLog) × CutThread t thread c → ⊥) → ⊥
    cut-thread t thread at not = ⊎_elim
        (λ (same : t ≡ r.thread).
        let is_own : own.0 ≡ thread = same_Some own.0 thread (sym own.1 ∙ ap (slice_get ex.log) (sym same) ∙ at) in
        not (own-thread.0, subst (λ t. CutThread t thread own-thread.0) (sym same) (subst (λ thread. CutThread r.thread thread own-thread.0) is_own own-thread.1)))
        (λ (other : t ≢ r.thread). other-thread t thread at other not)
        (cases_eq t r.thread)

    -- ---- all threads

    abbrev AreCut : ℕ → List ThreadLog → List ThreadLog → Type 0
    AreCut t threads cs = (i : ℕ) (thread : ThreadLog) → slice_get threads i ≡ Some thread → (c : ThreadLog) × (slice_get cs i ≡ Some c) × CutThread (t + i) thread c

    cut-threads : (t : ℕ) (threads : List ThreadLog) → ((i : ℕ) (thread : ThreadLog) → slice_get threads i ≡ Some thread → slice_get ex.log (t + i) ≡ Some thread)
        → ((cs : List ThreadLog) × (starts_of cs ≡ starts_of threads) × AreCut t threads cs → ⊥) → ⊥
    cut-threads t [] at not = not ([], refl, λ i thread h. absurd (none-some thread h))
    cut-threads t (thread ∷ threads) at not =
        let z : t ≡ t + 0 = omega arith in
        cut-thread t thread (ap (slice_get ex.log) z ∙ at 0 thread refl) (λ c. cut-threads (suc t) threads (λ i other h. let s : suc t + i ≡ t + suc i = omega arith in ap (slice_get ex.log) s ∙ at (suc i) other h)
        (λ cs. not (c.0 ∷ cs.0, (λ i. c.1.start i ∷ cs.1 i), each c cs)))
      where
        each : (c : (c : ThreadLog) × CutThread t thread c) (cs : (cs : List ThreadLog) × (starts_of cs ≡ starts_of threads) × AreCut (suc t) threads cs) → AreCut t (thread ∷ threads) (c.0 ∷ cs.0)
        each c cs zero other h = let z : t ≡ t + 0 = omega arith in (c.0, refl, subst (λ other. CutThread (t + 0) other c.0) (same_Some thread other h) (subst (λ t. CutThread t thread c.0) z c.1))
        each c cs (suc i) other h = let s : suc t + i ≡ t + suc i = omega arith in let d = cs.2 i other h in (d.0, d.1, subst (λ t. CutThread t other d.0) s d.2)

    -- ---- the execution of the threads that are cut

    module _ (cs : List ThreadLog) (starts : starts_of cs ≡ starts_of ex.log) (cuts : AreCut 0 ex.log cs) where
      same-count : length cs ≡ length ex.log
      same-count = sym (length-starts cs) ∙ ap (λ starts. length starts) starts ∙ length-starts ex.log

      abbrev y : Execution
      y = record {
        event_of = event_in cs;
        writers_of = λ key. if same_key r key then ws else x.writers_of key;
        place_of = λ key. if same_key r key then bound.0 else x.place_of key;
        initial = x.initial;
      }

      -- the threads of the log, each as it was and as it is cut
      data Thread (key : EventKey) : Type 0 where
        missing : slice_get ex.log key.thread ≡ None → Thread key
        cut : (thread c : ThreadLog) → slice_get ex.log key.thread ≡ Some thread → slice_get cs key.thread ≡ Some c → CutThread key.thread thread c → Thread key

      thread-of : (key : EventKey) → Thread key
      thread-of key = by (slice_get ex.log key.thread) refl
        where
          by : (o : Option ThreadLog) → slice_get ex.log key.thread ≡ o → Thread key
          by None at = missing at
          by (Some thread) at =
              let c = cuts key.thread thread at in
              let z : 0 + key.thread ≡ key.thread = omega arith in
              cut thread c.0 at c.1 (subst (λ t. CutThread t thread c.0) z c.2)

      now-in : (key : EventKey) (c : ThreadLog) → slice_get cs key.thread ≡ Some c → y.event_of key ≡ slice_get c.events key.number
      now-in key c at = event_in_thread cs key.thread key.number c at

      nothing-now : (key : EventKey) → slice_get ex.log key.thread ≡ None → y.event_of key ≡ None
      nothing-now key at = ⊎_elim
          (λ (l : key.thread < length ex.log). absurd (none-some (get_or ex.log key.thread (absent l)) (sym at ∙ slice_get-get_or ex.log key.thread (absent l) l)))
          (λ (l : length ex.log ≤ key.thread). ap (option_and_then (λ (thread : ThreadLog). slice_get thread.events key.number)) (slice_get_past cs key.thread (let same = same-count in omega (arith, l, same))))
          (cases_lt key.thread (length ex.log))
        where
          absent : key.thread < length ex.log → ThreadLog
          absent l = record { start = record { name = []; args = [] }; end = Cut; steps = 0; events = [] }

      was : (key : EventKey) (f : Event) → key ≢ r → y.event_of key ≡ Some f → (x.event_of key ≡ Some f) × Leads key
      was key f other at = by (thread-of key)
        where
          by : Thread key → (x.event_of key ≡ Some f) × Leads key
          by (missing none_at) = absurd (none-some f (sym (nothing-now key none_at) ∙ at))
          by (cut thread c at_thread at_c k) = let h = k.was key.number f other (sym (now-in key c at_c) ∙ at) in (was-in key thread at_thread ∙ h.0, h.1)

      still : (key : EventKey) (f : Event) → key ≢ r → x.event_of key ≡ Some f → Leads key → y.event_of key ≡ Some f
      still key f other at leading = by (thread-of key)
        where
          by : Thread key → y.event_of key ≡ Some f
          by (missing none_at) = absurd (none-some f (sym (nothing-was key none_at) ∙ at))
          by (cut thread c at_thread at_c k) = now-in key c at_c ∙ k.still key.number f other (sym (was-in key thread at_thread) ∙ at) leading

      is-read : y.event_of r ≡ Some made
      is-read = by (thread-of r)
        where
          by : Thread r → y.event_of r ≡ Some made
          by (missing at) = absurd (none-some e (sym (nothing-was r at) ∙ is_r))
          by (cut thread c at at_c k) = now-in r c at_c ∙ k.read refl

      not-same : (key : EventKey) → key ≢ r → same_key r key ≡ false
      not-same key other = ⊎_elim (λ (h : same_key r key ≡ true). absurd (other (sym (key_from_same r key h)))) (λ (h : same_key r key ≡ false). h) (cases_Bool (same_key r key))

      own-writers : y.writers_of r ≡ ws
      own-writers = ap (λ b. if b then ws else x.writers_of r) (same-self r)

      other-writers : (key : EventKey) → key ≢ r → y.writers_of key ≡ x.writers_of key
      other-writers key other = ap (λ b. if b then ws else x.writers_of key) (not-same key other)

      own-place : y.place_of r ≡ bound.0
      own-place = ap (λ b. if b then bound.0 else x.place_of r) (same-self r)

      other-place : (key : EventKey) → key ≢ r → y.place_of key ≡ x.place_of key
      other-place key other = ap (λ b. if b then bound.0 else x.place_of key) (not-same key other)

      is-last : (key : EventKey) → key ≢ r → IsSome (y.event_of key) → y.place_of key < y.place_of r
      is-last key other h = by (y.event_of key) refl h
        where
          by : (o : Option Event) → y.event_of key ≡ o → IsSome o → y.place_of key < y.place_of r
          by None at h = absurd (false≢true h)
          by (Some f) at h =
              let l = bounded key (some_of (x.event_of key) f (was key f other at).0) in
              let m = own-place in
              let n = other-place key other in
              omega (arith, l, m, n)

      -- ---- y is cut from x

      v-apart : v ≢ r
      v-apart same =
          let is : e ≡ g = same_Some e g (sym is_r ∙ ap x.event_of (sym same) ∙ is_v) in
          false≢true (sym only ∙ ap writes is ∙ does_write)

      not-r : (u : EventKey) (a : ℕ) → Writes x (At u) a → u ≢ r
      not-r u a h same = writes-none x valid r e is_r only a (subst (λ u. Writes x (At u) a) same h)

      -- a write that leads to r or v writes the same in y
      byte-still : (w : EventId) (a : ℕ) → IsLeading x r v w → Writes x w a → byte_by y w a ≡ byte_by x w a
      byte-still Init a leading h = refl
      byte-still (At u) a leading h =
          let w = written-by x u a h in
          ap (option_and_then (λ (f : Event). byte_written f a)) (still u w.event (not-r u a h) w.there leading ∙ sym w.there)

      writes-still : (w : EventId) (a : ℕ) → IsLeading x r v w → Writes x w a → Writes y w a
      writes-still w a leading h = ap (λ o. is_some o) (byte-still w a leading h) ∙ h

      writes-was : (u : EventKey) (a : ℕ) → u ≢ r → Writes y (At u) a → Writes x (At u) a × Leads u
      writes-was u a other h =
          let w = written-by y u a h in
          let before = was u w.event other w.there in
          (ap (λ o. is_some (option_and_then (λ (f : Event). byte_written f a) o)) (before.0 ∙ sym w.there) ∙ h, before.1)

      place-of-write : (w : EventId) (a : ℕ) → Writes x w a → place y w ≡ place x w
      place-of-write Init a h = refl
      place-of-write (At u) a h = ap (λ n. 1 + n) (other-place u (not-r u a h))

      last-write : (k : ℕ) (w : EventId) → LastLeading x r v (e.address + k) w → IsLastWrite y (e.address + k) w r
      last-write k w l = record { written = writes-still w (e.address + k) l.leading written; before = before-r w l.leading written; last = last }
        where
          written : Writes x w (e.address + k)
          written = some_of (byte_by x w (e.address + k)) l.written.byte l.written.is

          before-r : (w : EventId) → IsLeading x r v w → Writes x w (e.address + k) → place y w < place y (At r)
          before-r Init leading h = omega arith
          before-r (At u) leading h =
              let w = written-by x u (e.address + k) h in
              let other = not-r u (e.address + k) h in
              let l = is-last u other (some_of (y.event_of u) w.event (still u w.event other w.there leading)) in
              omega (arith, l)

          last : (u : EventId) → Writes y u (e.address + k) → place y u < place y (At r) → place y u ≤ place y w
          last Init h before = omega arith
          last (At u) h before =
              let other : u ≢ r = λ same. let m : place y (At u) ≡ place y (At r) = ap (λ u. place y (At u)) same in omega (arith, before, m) in
              let h' = writes-was u (e.address + k) other h in
              let m = l.last u h'.0 h'.1 in
              let n = place-of-write (At u) (e.address + k) h'.0 in
              let n' = place-of-write w (e.address + k) written in
              omega (arith, m, n, n')

      source : (k : ℕ) (w : EventId) → NewSource x r v e k w → IsSource y r v e k w
      source k w (of_v written is) = of_write (writes-still (At v) (e.address + k) (is_write refl) written) is
      source k w (of_leading not l) = of_last (λ h. not (writes-was v (e.address + k) v-apart h).0) (last-write k w l)

      source-byte : (k : ℕ) (w : EventId) → NewSource x r v e k w → byte_by y w (e.address + k) ≡ byte_by x w (e.address + k)
      source-byte k w (of_v written is) = subst (λ w. byte_by y w (e.address + k) ≡ byte_by x w (e.address + k)) (sym is) (byte-still (At v) (e.address + k) (is_write refl) written)
      source-byte k w (of_leading not l) = byte-still w (e.address + k) l.leading (some_of (byte_by x w (e.address + k)) l.written.byte l.written.is)

      from-chosen : (k : ℕ) (w : EventId) → ReadsFrom y r k w → slice_get ws k ≡ Some w
      from-chosen k w from = subst (λ ws. slice_get ws k ≡ Some w) own-writers from

      takes-v : (k : ℕ) → k < bytes_of e.width → Writes y (At v) (e.address + k) → ReadsFrom y r k (At v)
      takes-v k l h = subst (λ ws. slice_get ws k ≡ Some (At v)) (sym own-writers) (by (slice_get ws k) refl)
        where
          inside : k < length ws
          inside = omega (arith, l, count)

          by-source : (w : EventId) → NewSource x r v e k w → w ≡ At v
          by-source w (of_v written is) = is
          by-source w (of_leading not last) = absurd (not (writes-was v (e.address + k) v-apart h).0)

          by : (o : Option EventId) → slice_get ws k ≡ o → slice_get ws k ≡ Some (At v)
          by None at = absurd (none-some (get_or ws k Init) (sym at ∙ slice_get-get_or ws k Init inside))
          by (Some w) at = at ∙ ap Some (by-source w (chosen k w at))

      is-cut : IsCut x y r v e
      is-cut = record {
        initial = refl;
        events = λ key f other. (was key f other, λ h. still key f other h.0 h.1);
        writers = other-writers;
        places = other-place;
        last = is-last;
        read = made;
        is_read = is-read;
        like = one.like;
        sources = λ k w from. source k w (chosen k w (from-chosen k w from));
        taken = takes-v;
        value = λ k w from.
            let at = from-chosen k w from in
            source-byte k w (chosen k w at) ∙ value-byte k w at ∙ ap (λ n. Some (byte_of n k)) (sym one.read);
      }

      -- ---- y is an execution of the module

      thread-at : (k : ℕ) (c : ThreadLog) → slice_get cs k ≡ Some c → (thread : ThreadLog) × (slice_get ex.log k ≡ Some thread) × CutThread k thread c
      thread-at k c at = by (thread-of (record { thread = k; number = 0 }))
        where
          by : Thread (record { thread = k; number = 0 }) → (thread : ThreadLog) × (slice_get ex.log k ≡ Some thread) × CutThread k thread c
          by (missing none_at) = let l = slice_get_within cs k c at in absurd (none-some (get_or ex.log k c) (sym none_at ∙ slice_get-get_or ex.log k c (let same = same-count in omega (arith, l, same))))
          by (cut thread d at_thread at_d q) = (thread, at_thread, subst (CutThread k thread) (same_Some d c (sym at_d ∙ at)) q)

      -- an event other than r is one of x, at its place
      some-was : (key : EventKey) → key ≢ r → IsSome (y.event_of key) → IsSome (x.event_of key)
      some-was key other h = by (y.event_of key) refl h
        where
          by : (o : Option Event) → y.event_of key ≡ o → IsSome o → IsSome (x.event_of key)
          by None at h = absurd (false≢true h)
          by (Some f) at h = some_of (x.event_of key) f (was key f other at).0

      distinct : HasDistinctPlaces y
      distinct a b h k same = ⊎_elim
          (λ (a_is : a ≡ r). ⊎_elim
          (λ (b_is : b ≡ r). a_is ∙ sym b_is)
          (λ (other : b ≢ r). let l = is-last b other k in let m : y.place_of a ≡ y.place_of r = ap y.place_of a_is in absurd (omega (arith, l, m, same)))
          (same-keys b r))
          (λ (a_other : a ≢ r). ⊎_elim
          (λ (b_is : b ≡ r). let l = is-last a a_other h in let m : y.place_of b ≡ y.place_of r = ap y.place_of b_is in absurd (omega (arith, l, m, same)))
          (λ (b_other : b ≢ r). ex.places a b (some-was a a_other h) (some-was b b_other k) (sym (other-place a a_other) ∙ same ∙ other-place b b_other))
          (same-keys b r))
          (same-keys a r)

      made-width : read_width made ≡ bytes_of e.width
      made-width = ap (λ b. if b then bytes_of made.width else 0) one.does ∙ ap bytes_of one.like.width

      is-execution : IsExecutionOf p y
      is-execution = record {
        log = cs;
        is_log = record {
          runs = λ k c at. (thread-at k c at).2.run;
          within = λ k c at. let t = thread-at k c at in let f = t.2.fewer in let w = ex.is_log.within k t.0 t.1 in omega (arith, f, w);
          starts = starts ∙ ex.is_log.starts;
        };
        events = λ key. refl;
        writers = λ key f at. ⊎_elim
            (λ (same : key ≡ r).
            let here : made ≡ f = same_Some made f (sym is-read ∙ ap y.event_of (sym same) ∙ at) in
            ap (λ key. length (y.writers_of key)) same ∙ ap (λ ws. length ws) own-writers ∙ count ∙ sym made-width ∙ ap read_width here)
            (λ (other : key ≢ r). ap (λ ws. length ws) (other-writers key other) ∙ ex.writers key f (was key f other at).0)
            (same-keys key r);
        places = distinct;
        initial = ex.initial;
      }

  pub receptive : ((y : Execution) × IsExecutionOf p y × IsCut x y r v e → ⊥) → ⊥
  receptive not = choose (NewSource x r v e) (bytes_of e.width) (new-source x r v bound.0 bounded valid none e is_r count-read)
      (λ ws. cut-threads ws.0 ws.1 ws.2 0 ex.log (λ i thread h. let z : i ≡ 0 + i = omega arith in ap (slice_get ex.log) (sym z) ∙ h)
      (λ cs. not (y ws.0 ws.1 ws.2 cs.0 cs.1 cs.2, is-execution ws.0 ws.1 ws.2 cs.0 cs.1 cs.2, is-cut ws.0 ws.1 ws.2 cs.0 cs.1 cs.2)))
