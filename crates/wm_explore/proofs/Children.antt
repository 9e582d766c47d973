-- An execution goes on from a state in which it has one more event.
use Rattle.std.proofs.Common.{◌≡◌, ℕ, zero, suc, ◌+◌, ◌<◌, ◌≤◌, Bool, true, false, List, [], ◌∷◌, ◌++◌, length, take, inl, inr, Some, None, IsSome, IsTrue, refl, sym, ap, subst, ◌∙◌, arith}
use Rattle.std.specs.Prelude.{◌≢◌, ◌⊎◌, slice_get}
use Rattle.std.specs.Option.{option_map_or}
use Rattle.std.proofs.lemmas.Bool.{cases_eq, cases_lt, lt-ltb, ltb-true}
use Rattle.std.proofs.lemmas.List.{length-append}
use Rattle.std.proofs.lemmas.Option.{none-some, same_Some, slice_get_within}
use Rattle.wm_event.specs.declared.event.Event.{Event}
use Rattle.wm_event.specs.declared.event.EventId.{EventId}
use Rattle.wm_event.specs.declared.event.EventId.TheVariants.{Init, At}
use Rattle.wm_event.specs.declared.event.EventKey.{EventKey}
use Rattle.wm_event.specs.declared.log.Start.{Start}
use Rattle.wm_event.specs.declared.log.ThreadLog.{ThreadLog}
use Rattle.wm_event.specs.Event.{key_of}
use Rattle.wm_event.specs.Execution.{ReadsFrom}
use Rattle.wm_event.specs.Log.{event_in}
use Rattle.wm_event.specs.LoggedRun.{LoggedRun, execution}
use Rattle.wm_part.specs.Cut.{is_kept}
use Rattle.wm_part.specs.Part.{HasItsWriters}
use Rattle.wm_explore.specs.Executions.{starts_of}
use Rattle.wm_explore.specs.Judging.{LooksBack}
use Rattle.wm_explore.specs.States.{ArriveInOrder, GoesOn, HasArrived, IsBeginning, IsChild, IsMarked, IsMissed, IsState, count_in, with_last}
use Rattle.wm_explore.specs.declared.state.State.{State}
use Rattle.wm_explore.proofs.Beginnings.{count_at, kept_there, there_kept}
use Rattle.wm_explore.proofs.Lists.{at_pushed, extended_at, extended_length, extended_other, extended_starts, kept_pushed, last_pushed, take_next}

-- whether each writer is among the events that are kept
decide : (kept : EventKey → Bool) (ws : List EventId)
    → ((i : ℕ) (w : EventKey) → slice_get ws i ≡ Some (At w) → IsTrue (kept w)) ⊎ ((i : ℕ) × (w : EventKey) × (slice_get ws i ≡ Some (At w)) × (IsTrue (kept w) → ⊥))
decide kept [] = inl (λ i w is. absurd (none-some (At w) is))
decide kept (Init ∷ ws) = further (decide kept ws)
  where
    further : ((i : ℕ) (w : EventKey) → slice_get ws i ≡ Some (At w) → IsTrue (kept w)) ⊎ ((i : ℕ) × (w : EventKey) × (slice_get ws i ≡ Some (At w)) × (IsTrue (kept w) → ⊥))
        → ((i : ℕ) (w : EventKey) → slice_get (Init ∷ ws) i ≡ Some (At w) → IsTrue (kept w)) ⊎ ((i : ℕ) × (w : EventKey) × (slice_get (Init ∷ ws) i ≡ Some (At w)) × (IsTrue (kept w) → ⊥))
    further (inl all) = inl at
      where
        at : (i : ℕ) (w : EventKey) → slice_get (Init ∷ ws) i ≡ Some (At w) → IsTrue (kept w)
        at zero w is = absurd (cc (same_Some Init (At w) is))
        at (suc i) w is = all i w is
    further (inr one) = inr (suc one.0, one.1, one.2, one.3)
decide kept (At v ∷ ws) = by (kept v) refl (decide kept ws)
  where
    by : (b : Bool) → kept v ≡ b → ((i : ℕ) (w : EventKey) → slice_get ws i ≡ Some (At w) → IsTrue (kept w)) ⊎ ((i : ℕ) × (w : EventKey) × (slice_get ws i ≡ Some (At w)) × (IsTrue (kept w) → ⊥))
        → ((i : ℕ) (w : EventKey) → slice_get (At v ∷ ws) i ≡ Some (At w) → IsTrue (kept w)) ⊎ ((i : ℕ) × (w : EventKey) × (slice_get (At v ∷ ws) i ≡ Some (At w)) × (IsTrue (kept w) → ⊥))
    by false not _ = inr (0, v, refl, λ is. cc (sym not ∙ is))
    by true is (inr one) = inr (suc one.0, one.1, one.2, one.3)
    by true is (inl all) = inl at
      where
        at : (i : ℕ) (w : EventKey) → slice_get (At v ∷ ws) i ≡ Some (At w) → IsTrue (kept w)
        at zero w here = let same : v ≡ w = cc (same_Some (At v) (At w) here) in subst (λ k. IsTrue (kept k)) same is
        at (suc i) w here = all i w here

-- the name of the next event of thread k, which is t
abbrev pub next_key : ℕ → ThreadLog → EventKey
next_key k t = record { thread = k; number = length t.events }

-- ---- a state with one more event

module _ (s : State) (k : ℕ) (t : ThreadLog) (is : slice_get s.log k ≡ Some t) (e : Event) (named : key_of e ≡ next_key k t) (starts : List Start) (fine : IsState starts s) (child : State) (is_child : IsChild k e s child) where
  count_here : count_in s.log k ≡ length t.events
  count_here = count_at s.log k t is

  new_thread : slice_get child.log k ≡ Some (with_last t e)
  new_thread = ap (λ ts. slice_get ts k) is_child.log ∙ extended_at k e s.log t is

  old_thread : (i : ℕ) → i ≢ k → slice_get child.log i ≡ slice_get s.log i
  old_thread i not = ap (λ ts. slice_get ts i) is_child.log ∙ extended_other k e s.log i not

  new_count : count_in child.log k ≡ suc (length t.events)
  new_count = let one : length (t.events ++ e ∷ []) ≡ suc (length t.events) = length-append t.events (e ∷ []) ∙ omega arith in count_at child.log k (with_last t e) new_thread ∙ one

  old_count : (i : ℕ) → i ≢ k → count_in child.log i ≡ count_in s.log i
  old_count i not = ap (λ o. option_map_or (λ (t : ThreadLog). length t.events) o 0) (old_thread i not)

  same_here : (i : ℕ) → (i ≡ k) ⊎ (i ≢ k)
  same_here i = cases_eq i k

  -- what the state has, the child has
  kept_still : (w : EventKey) → IsTrue (is_kept (count_in s.log) w) → IsTrue (is_kept (count_in child.log) w)
  kept_still w kept = by (same_here w.thread)
    where
      lt : w.number < count_in s.log w.thread
      lt = ltb-true w.number (count_in s.log w.thread) kept

      by : (w.thread ≡ k) ⊎ (w.thread ≢ k) → IsTrue (is_kept (count_in child.log) w)
      by (inl same) =
          let before : count_in s.log w.thread ≡ length t.events = ap (count_in s.log) same ∙ count_here in
          let after : count_in child.log w.thread ≡ suc (length t.events) = ap (count_in child.log) same ∙ new_count in
          lt-ltb w.number (count_in child.log w.thread) (omega (arith, lt, before, after))
      by (inr not) = lt-ltb w.number (count_in child.log w.thread) (subst (λ n. w.number < n) (sym (old_count w.thread not)) lt)

  -- and beyond that the event alone
  kept_or_new : (r : EventKey) → IsTrue (is_kept (count_in child.log) r) → IsTrue (is_kept (count_in s.log) r) ⊎ (r ≡ next_key k t)
  kept_or_new r kept = by (same_here r.thread)
    where
      lt : r.number < count_in child.log r.thread
      lt = ltb-true r.number (count_in child.log r.thread) kept

      by : (r.thread ≡ k) ⊎ (r.thread ≢ k) → IsTrue (is_kept (count_in s.log) r) ⊎ (r ≡ next_key k t)
      by (inr not) = inl (lt-ltb r.number (count_in s.log r.thread) (subst (λ n. r.number < n) (old_count r.thread not) lt))
      by (inl same) = within (cases_lt r.number (length t.events))
        where
          before : count_in s.log r.thread ≡ length t.events
          before = ap (count_in s.log) same ∙ count_here

          after : count_in child.log r.thread ≡ suc (length t.events)
          after = ap (count_in child.log) same ∙ new_count

          within : (r.number < length t.events) ⊎ (length t.events ≤ r.number) → IsTrue (is_kept (count_in s.log) r) ⊎ (r ≡ next_key k t)
          within (inl less) = inl (lt-ltb r.number (count_in s.log r.thread) (omega (arith, less, before)))
          within (inr most) =
              let number : r.number ≡ length t.events = omega (arith, lt, after, most) in
              inr (ap (λ i. record { thread = i; number = r.number }) same ∙ ap (λ n. record { thread = k; number = n }) number)

  -- the child is a state
  pub is_state : IsState starts child
  is_state = record {
    started = ap starts_of is_child.log ∙ extended_starts k e s.log ∙ fine.started;
    listed = λ key there. listed key there (kept_or_new key (there_kept child.log key there));
    events = λ i key at_key. arrived i key (arrived_so i key at_key);
    in_order = λ i j a b at_a at_b same le. in_order i j a b same le (arrived_so i a at_a) (arrived_so j b at_b);
    marked = λ i n at_mark. marked i n (is_child.marks i (Some n) at_mark);
  }
    where
      arrived_so : (i : ℕ) (key : EventKey) → slice_get child.arrived i ≡ Some key → ((i ≡ length s.arrived) × (key ≡ key_of e)) ⊎ (slice_get s.arrived i ≡ Some key)
      arrived_so i key at_key = at_pushed s.arrived (key_of e) i key (ap (λ ks. slice_get ks i) (sym is_child.arrived) ∙ at_key)

      in_order : (i j : ℕ) (a b : EventKey) → a.thread ≡ b.thread → a.number ≤ b.number → ((i ≡ length s.arrived) × (a ≡ key_of e)) ⊎ (slice_get s.arrived i ≡ Some a)
          → ((j ≡ length s.arrived) × (b ≡ key_of e)) ⊎ (slice_get s.arrived j ≡ Some b) → i ≤ j
      in_order i j a b same le (inr old_a) (inr old_b) = fine.in_order i j a b old_a old_b same le
      in_order i j a b same le (inr old_a) (inl last_b) = let lt = slice_get_within s.arrived i a old_a in let end = last_b.0 in omega (arith, lt, end)
      in_order i j a b same le (inl last_a) (inl last_b) = let start = last_a.0 in let end = last_b.0 in omega (arith, start, end)
      in_order i j a b same le (inl last_a) (inr old_b) =
          let kept : IsTrue (is_kept (count_in s.log) b) = there_kept s.log b (fine.events j b old_b) in
          let lt : b.number < count_in s.log b.thread = ltb-true b.number (count_in s.log b.thread) kept in
          let here : b.thread ≡ k = sym same ∙ ap (λ (key : EventKey). key.thread) (last_a.1 ∙ named) in
          let number : a.number ≡ length t.events = ap (λ (key : EventKey). key.number) (last_a.1 ∙ named) in
          let count : count_in s.log b.thread ≡ length t.events = ap (count_in s.log) here ∙ count_here in
          absurd (omega (arith, lt, number, count, le))

      length_now : length child.arrived ≡ length s.arrived + 1
      length_now = ap length is_child.arrived ∙ length-append s.arrived (key_of e ∷ [])

      listed : (key : EventKey) → IsSome (event_in child.log key) → IsTrue (is_kept (count_in s.log) key) ⊎ (key ≡ next_key k t) → (i : ℕ) × (slice_get child.arrived i ≡ Some key)
      listed key there (inl kept) =
          let old = fine.listed key (kept_there s.log key kept) in
          (old.0, ap (λ ks. slice_get ks old.0) is_child.arrived ∙ kept_pushed s.arrived (key_of e) old.0 key old.1)
      listed key there (inr same) =
          (length s.arrived, ap (λ ks. slice_get ks (length s.arrived)) is_child.arrived ∙ last_pushed s.arrived (key_of e) ∙ ap Some (named ∙ sym same))

      arrived : (i : ℕ) (key : EventKey) → ((i ≡ length s.arrived) × (key ≡ key_of e)) ⊎ (slice_get s.arrived i ≡ Some key) → IsSome (event_in child.log key)
      arrived i key (inr old) = kept_there child.log key (kept_still key (there_kept s.log key (fine.events i key old)))
      arrived i key (inl last) =
          let here : IsTrue (is_kept (count_in child.log) (next_key k t)) = lt-ltb (length t.events) (count_in child.log k) (let n = new_count in omega (arith, n)) in
          kept_there child.log key (subst (λ r. IsTrue (is_kept (count_in child.log) r)) (sym (last.1 ∙ named)) here)

      marked : (i n : ℕ) → ((i ≡ k) × (Some n ≡ None)) ⊎ ((i ≢ k) × (slice_get s.marks i ≡ Some (Some n))) → n ≤ length child.arrived
      marked i n (inl none) = absurd (none-some n (sym none.1))
      marked i n (inr old) = let few = fine.marked i n old.1 in omega (arith, few, length_now)

module _ (x : LoggedRun) (s : State) (on : GoesOn x s) (k : ℕ) (t : ThreadLog) (is : slice_get s.log k ≡ Some t) where
  -- the events that wrote its bytes are in the state
  abbrev pub HasWriters : Type 0
  HasWriters = (byte : ℕ) (w : EventKey) → ReadsFrom (execution x) (next_key k t) byte (At w) → IsTrue (is_kept (count_in s.log) w)

  -- or one of them isn't
  abbrev pub LacksWriter : Type 0
  LacksWriter = (byte : ℕ) × (w : EventKey) × ReadsFrom (execution x) (next_key k t) byte (At w) × (IsTrue (is_kept (count_in s.log) w) → ⊥)

  pub has_or_lacks : HasWriters ⊎ LacksWriter
  has_or_lacks = decide (is_kept (count_in s.log)) ((execution x).writers_of (next_key k t))

  count_is : count_in s.log k ≡ length t.events
  count_is = count_at s.log k t is

  -- ---- with its next event

  module _ (u : ThreadLog) (at : slice_get x.log k ≡ Some u) (e : Event) (next : slice_get u.events (length t.events) ≡ Some e) (named : key_of e ≡ next_key k t) (starts : List Start) (fine : IsState starts s) (child : State) (is_child : IsChild k e s child) where
    threads_new : slice_get child.log k ≡ Some (with_last t e)
    threads_new = new_thread s k t is e named starts fine child is_child

    threads_old : (i : ℕ) → i ≢ k → slice_get child.log i ≡ slice_get s.log i
    threads_old = old_thread s k t is e named starts fine child is_child

    counts_old : (i : ℕ) → i ≢ k → count_in child.log i ≡ count_in s.log i
    counts_old = old_count s k t is e named starts fine child is_child

    still_kept : (w : EventKey) → IsTrue (is_kept (count_in s.log) w) → IsTrue (is_kept (count_in child.log) w)
    still_kept = kept_still s k t is e named starts fine child is_child

    here_or_not : (i : ℕ) → (i ≡ k) ⊎ (i ≢ k)
    here_or_not i = cases_eq i k

    child_starts : (i : ℕ) (a b : ThreadLog) → slice_get child.log i ≡ Some a → slice_get x.log i ≡ Some b → b.start ≡ a.start
    child_starts i a b at_a at_b = by (here_or_not i)
      where
        by : (i ≡ k) ⊎ (i ≢ k) → b.start ≡ a.start
        by (inr not) = on.beginning.starts i a b (sym (threads_old i not) ∙ at_a) at_b
        by (inl same) =
            let one : with_last t e ≡ a = same_Some (with_last t e) a (sym threads_new ∙ ap (slice_get child.log) (sym same) ∙ at_a) in
            let other : u ≡ b = same_Some u b (sym at ∙ ap (slice_get x.log) (sym same) ∙ at_b) in
            ap (λ (v : ThreadLog). v.start) (sym other) ∙ on.beginning.starts k t u is at ∙ ap (λ (v : ThreadLog). v.start) one

    child_events : (i : ℕ) (a b : ThreadLog) → slice_get child.log i ≡ Some a → slice_get x.log i ≡ Some b → a.events ≡ take (length a.events) b.events
    child_events i a b at_a at_b = by (here_or_not i)
      where
        by : (i ≡ k) ⊎ (i ≢ k) → a.events ≡ take (length a.events) b.events
        by (inr not) = on.beginning.events i a b (sym (threads_old i not) ∙ at_a) at_b
        by (inl same) =
            let one : with_last t e ≡ a = same_Some (with_last t e) a (sym threads_new ∙ ap (slice_get child.log) (sym same) ∙ at_a) in
            let other : u ≡ b = same_Some u b (sym at ∙ ap (slice_get x.log) (sym same) ∙ at_b) in
            let count : length (t.events ++ e ∷ []) ≡ length t.events + 1 = length-append t.events (e ∷ []) in
            let here : t.events ++ e ∷ [] ≡ take (length (t.events ++ e ∷ [])) u.events =
            ap (λ es. es ++ e ∷ []) (on.beginning.events k t u is at) ∙ sym (take_next u.events (length t.events) e next) ∙ ap (λ n. take n u.events) (sym count) in
            subst (λ (v : ThreadLog). v.events ≡ take (length v.events) b.events) one (subst (λ (v : ThreadLog). t.events ++ e ∷ [] ≡ take (length (t.events ++ e ∷ [])) v.events) other here)

    child_marks : (i n : ℕ) → slice_get child.marks i ≡ Some (Some n) → IsMissed x child i n
    child_marks i n at_mark = by (is_child.marks i (Some n) at_mark)
      where
        by : ((i ≡ k) × (Some n ≡ None)) ⊎ ((i ≢ k) × (slice_get s.marks i ≡ Some (Some n))) → IsMissed x child i n
        by (inl none) = absurd (none-some n (sym none.1))
        by (inr old) =
            let missed = on.marks i n old.1 in
            let few = fine.marked i n old.1 in
            let still : HasArrived child.arrived n missed.1 → ⊥ = λ has.
            missed.3 (has.0, has.1, earlier has.0 missed.1 has.1 few (ap (λ ks. slice_get ks has.0) (sym is_child.arrived) ∙ has.2)) in
            (missed.0, missed.1, subst (λ c. ReadsFrom (execution x) (record { thread = i; number = c }) missed.0 (At missed.1)) (sym (counts_old i old.0)) missed.2, still)
          where
            earlier : (j : ℕ) (w : EventKey) → j < n → n ≤ length s.arrived → slice_get (s.arrived ++ key_of e ∷ []) j ≡ Some w → slice_get s.arrived j ≡ Some w
            earlier j w lt le at_w = either (at_pushed s.arrived (key_of e) j w at_w)
              where
                either : ((j ≡ length s.arrived) × (w ≡ key_of e)) ⊎ (slice_get s.arrived j ≡ Some w) → slice_get s.arrived j ≡ Some w
                either (inl last) = absurd (let end = last.0 in omega (arith, lt, le, end))
                either (inr there) = there

    -- the execution goes on from the child
    pub goes_on : HasWriters → GoesOn x child
    goes_on has = record {
      beginning = record {
        count = ap length is_child.log ∙ extended_length k e s.log ∙ on.beginning.count;
        starts = child_starts;
        events = child_events;
      };
      writers = λ r byte w there kept from. writer r byte w there from (kept_or_new s k t is e named starts fine child is_child r kept);
      back = λ r w byte i j there from at_r at_w. back r w byte i j there from (arrived_so i r at_r) (arrived_so j w at_w);
      marks = child_marks;
    }
      where
        arrived_so : (i : ℕ) (key : EventKey) → slice_get child.arrived i ≡ Some key → ((i ≡ length s.arrived) × (key ≡ key_of e)) ⊎ (slice_get s.arrived i ≡ Some key)
        arrived_so i key at_key = at_pushed s.arrived (key_of e) i key (ap (λ ks. slice_get ks i) (sym is_child.arrived) ∙ at_key)

        -- an event that writes a byte of one that has arrived is not the new one
        not_new : (r : EventKey) (byte : ℕ) (w : EventKey) (i : ℕ) → IsSome (event_in x.log r) → ReadsFrom (execution x) r byte (At w) → ((i ≡ length s.arrived) × (r ≡ key_of e)) ⊎ (slice_get s.arrived i ≡ Some r) → w ≡ key_of e → ⊥
        not_new r byte w i there from arrived_r last =
            let kept : IsTrue (is_kept (count_in s.log) w) = in_state arrived_r in
            let here : IsTrue (is_kept (count_in s.log) (next_key k t)) = subst (λ key. IsTrue (is_kept (count_in s.log) key)) (last ∙ named) kept in
            let lt : length t.events < count_in s.log k = ltb-true (length t.events) (count_in s.log k) here in
            let count = count_is in
            omega (arith, lt, count)
          where
            in_state : ((i ≡ length s.arrived) × (r ≡ key_of e)) ⊎ (slice_get s.arrived i ≡ Some r) → IsTrue (is_kept (count_in s.log) w)
            in_state (inr old) = on.writers r byte w there (there_kept s.log r (fine.events i r old)) from
            in_state (inl new) = has byte w (subst (λ key. ReadsFrom (execution x) key byte (At w)) (new.1 ∙ named) from)

        back : (r w : EventKey) (byte i j : ℕ) → IsSome (event_in x.log r) → ReadsFrom (execution x) r byte (At w) → ((i ≡ length s.arrived) × (r ≡ key_of e)) ⊎ (slice_get s.arrived i ≡ Some r)
            → ((j ≡ length s.arrived) × (w ≡ key_of e)) ⊎ (slice_get s.arrived j ≡ Some w) → j < i
        back r w byte i j there from arrived_r (inl last_w) = absurd (not_new r byte w i there from arrived_r last_w.1)
        back r w byte i j there from (inr old_r) (inr old_w) = on.back r w byte i j there from old_r old_w
        back r w byte i j there from (inl last_r) (inr old_w) = let lt = slice_get_within s.arrived j w old_w in let end = last_r.0 in omega (arith, lt, end)

        writer : (r : EventKey) (byte : ℕ) (w : EventKey) → IsSome (event_in x.log r) → ReadsFrom (execution x) r byte (At w) → IsTrue (is_kept (count_in s.log) r) ⊎ (r ≡ next_key k t) → IsTrue (is_kept (count_in child.log) w)
        writer r byte w there from (inl kept) = still_kept w (on.writers r byte w there kept from)
        writer r byte w there from (inr same) = still_kept w (has byte w (subst (λ key. ReadsFrom (execution x) key byte (At w)) same from))

  -- ---- with a mark

  -- the execution goes on from the state in which the thread is marked
  pub goes_on_marked : (starts : List Start) → IsState starts s → (marked : State) → marked.log ≡ s.log → marked.arrived ≡ s.arrived → IsMarked k (Some (length s.arrived)) s.marks marked.marks
      → LacksWriter → GoesOn x marked
  goes_on_marked starts fine marked same_log same_arrived marks lacks = record {
    beginning = subst (λ ts. IsBeginning ts x.log) (sym same_log) on.beginning;
    writers = subst (λ ts. HasItsWriters (execution x) (is_kept (count_in ts))) (sym same_log) on.writers;
    back = subst (LooksBack (execution x)) (sym same_arrived) on.back;
    marks = λ i n at_mark. missed i n (marks i (Some n) at_mark);
  }
    where
      not_arrived : (n : ℕ) → HasArrived s.arrived n lacks.1 → ⊥
      not_arrived n has = lacks.3 (there_kept s.log lacks.1 (fine.events has.0 lacks.1 has.2))

      as_marked : (i n : ℕ) → IsMissed x s i n → IsMissed x marked i n
      as_marked i n m = (
        m.0,
        m.1,
        subst (λ ts. ReadsFrom (execution x) (record { thread = i; number = count_in ts i }) m.0 (At m.1)) (sym same_log) m.2,
        λ has. m.3 (has.0, has.1, ap (λ ks. slice_get ks has.0) (sym same_arrived) ∙ has.2),
      )

      missed : (i n : ℕ) → ((i ≡ k) × (Some n ≡ Some (length s.arrived))) ⊎ ((i ≢ k) × (slice_get s.marks i ≡ Some (Some n))) → IsMissed x marked i n
      missed i n (inr old) = as_marked i n (on.marks i n old.1)
      missed i n (inl here) =
          as_marked i n (lacks.0, lacks.1, subst (λ key. ReadsFrom (execution x) key lacks.0 (At lacks.1)) (ap (λ c. record { thread = k; number = c }) (sym count_is) ∙ ap (λ j. record { thread = j; number = count_in s.log j }) (sym here.0)) lacks.2, not_arrived n)

-- the state in which a thread is marked is one
pub marked_is_state : (starts : List Start) (s marked : State) (k : ℕ) → IsState starts s → marked.log ≡ s.log → marked.arrived ≡ s.arrived → IsMarked k (Some (length s.arrived)) s.marks marked.marks → IsState starts marked
marked_is_state starts s marked k fine same_log same_arrived marks = record {
  started = ap starts_of same_log ∙ fine.started;
  listed = λ key there. let old = fine.listed key (subst (λ ts. IsSome (event_in ts key)) same_log there) in (old.0, ap (λ ks. slice_get ks old.0) same_arrived ∙ old.1);
  events = λ i key at. subst (λ ts. IsSome (event_in ts key)) (sym same_log) (fine.events i key (ap (λ ks. slice_get ks i) (sym same_arrived) ∙ at));
  in_order = subst ArriveInOrder (sym same_arrived) fine.in_order;
  marked = λ i n at. by i n (marks i (Some n) at);
}
  where
    count : length marked.arrived ≡ length s.arrived
    count = ap length same_arrived

    by : (i n : ℕ) → ((i ≡ k) × (Some n ≡ Some (length s.arrived))) ⊎ ((i ≢ k) × (slice_get s.marks i ≡ Some (Some n))) → n ≤ length marked.arrived
    by i n (inl here) = let all : n ≡ length s.arrived = same_Some n (length s.arrived) here.1 in omega (arith, all, count)
    by i n (inr old) = let few = fine.marked i n old.1 in omega (arith, few, count)
