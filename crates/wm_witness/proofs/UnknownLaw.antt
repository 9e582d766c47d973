-- A log whose own shape has no fault is well shaped with all bytes from Init and its threads one after the other.
use Rattle.std.proofs.Common.{◌≡◌, ℕ, ◌+◌, ◌-◌, ◌<◌, ◌≤◌, zero, suc, List, [], ◌∷◌, ◌++◌, Option, Some, None, IsSome, length, slice_get, map, refl, sym, ap, ◌∙◌, subst, arith, ⊎_elim}
use Rattle.std.specs.Prelude.{All, flat_map, option_and_then, unwrap_or}
use Rattle.std.specs.Option.{option_map}
use Rattle.std.proofs.lemmas.Bool.{cases_lt}
use Rattle.std.proofs.lemmas.List.{length-map, length-replicate}
use Rattle.std.proofs.lemmas.List.Elements.{All-replicate}
use Rattle.std.proofs.lemmas.Option.{same_Some, none-some, slice_get-map, slice_get_within}
use Rattle.wm_event.specs.declared.event.Event.{Event}
use Rattle.wm_event.specs.declared.event.EventKey.{EventKey}
use Rattle.wm_event.specs.declared.event.EventId.{EventId}
use Rattle.wm_event.specs.declared.event.EventId.TheVariants.{Init}
use Rattle.wm_event.specs.declared.log.ThreadLog.{ThreadLog}
use Rattle.wm_event.specs.declared.witness.Witness.{Witness}
use Rattle.wm_event.specs.Event.{key_of}
use Rattle.wm_event.specs.Log.{HasKeys, event_in}
use Rattle.wm_event.specs.Shape.{IsThere, ListsEachOnce, event_counts, read_width}
use Rattle.wm_event.specs.Witness.{writers_in}
use Rattle.wm_hb.proofs.ThreadLemmas.{named_so}
use Rattle.wm_witness.specs.Unknown.{IsStart, IsUnknown, from_init, keys_of, thread_from_init}

-- how many events come before event i of thread j, if the threads follow one another
abbrev place-in : List ThreadLog → ℕ → ℕ → ℕ
place-in [] j i = i
place-in (th ∷ ts) zero i = i
place-in (th ∷ ts) (suc j) i = length th.events + place-in ts j i

-- an event that is listed there
record Listed (log : List ThreadLog) (n : ℕ) (k : EventKey) : Type 0 where
  thread : ℕ
  number : ℕ
  of : ThreadLog
  event : Event
  is_thread : slice_get log thread ≡ Some of
  is_event : slice_get of.events number ≡ Some event
  named : key_of event ≡ k
  placed : n ≡ place-in log thread number

in-front : {X : Type 0} (xs ys : List X) (n : ℕ) → n < length xs → slice_get (xs ++ ys) n ≡ slice_get xs n
in-front [] ys n l = absurd (omega (arith, l))
in-front (x ∷ xs) ys zero l = refl
in-front (x ∷ xs) ys (suc n) l = in-front xs ys n (omega (arith, l))

behind : {X : Type 0} (xs ys : List X) (n : ℕ) → slice_get (xs ++ ys) (length xs + n) ≡ slice_get ys n
behind [] ys n = ap (slice_get ys) (omega arith)
behind (x ∷ xs) ys n = let step : length (x ∷ xs) + n ≡ suc (length xs + n) = omega arith in ap (slice_get (x ∷ (xs ++ ys))) step ∙ behind xs ys n

event-named : (es : List Event) (i : ℕ) (k : EventKey) (o : Option Event) → slice_get es i ≡ o → option_map key_of o ≡ Some k → (e : Event) × (slice_get es i ≡ Some e) × (key_of e ≡ k)
event-named es i k None at is = absurd (none-some k is)
event-named es i k (Some e) at is = (e, at, same_Some (key_of e) k is)

listed-at : (log : List ThreadLog) (n : ℕ) (k : EventKey) → slice_get (flat_map keys_of log) n ≡ Some k → Listed log n k
listed-at [] n k at = absurd (none-some k at)
listed-at (th ∷ ts) n k at = ⊎_elim
    (λ (l : n < length (keys_of th)).
    let here : slice_get (keys_of th) n ≡ Some k = sym (in-front (keys_of th) (flat_map keys_of ts) n l) ∙ at in
    let e = event-named th.events n k (slice_get th.events n) refl (sym (slice_get-map key_of th.events n) ∙ here) in
    record { thread = zero; number = n; of = th; event = e.0; is_thread = refl; is_event = e.1; named = e.2; placed = refl })
    (λ (l : length (keys_of th) ≤ n).
    let m = n - length (keys_of th) in
    let whole : length (keys_of th) + m ≡ n = omega (arith, l) in
    let there : slice_get (flat_map keys_of ts) m ≡ Some k = sym (behind (keys_of th) (flat_map keys_of ts) m) ∙ ap (slice_get (keys_of th ++ flat_map keys_of ts)) whole ∙ at in
    let r = listed-at ts m k there in
    let size : length (keys_of th) ≡ length th.events = length-map th.events key_of in
    record {
      thread = suc r.thread;
      number = r.number;
      of = r.of;
      event = r.event;
      is_thread = r.is_thread;
      is_event = r.is_event;
      named = r.named;
      placed = (let p = r.placed in omega (arith, whole, size, p));
    })
    (cases_lt n (length (keys_of th)))

-- and each event is listed
lists : (log : List ThreadLog) (j i : ℕ) (th : ThreadLog) (e : Event) → slice_get log j ≡ Some th → slice_get th.events i ≡ Some e → slice_get (flat_map keys_of log) (place-in log j i) ≡ Some (key_of e)
lists [] j i th e at is = absurd (none-some th at)
lists (t ∷ ts) zero i th e at is =
    let same : t ≡ th = same_Some t th at in
    let here : slice_get (keys_of t) i ≡ Some (key_of e) = slice_get-map key_of t.events i ∙ ap (option_map key_of) (ap (λ (x : ThreadLog). slice_get x.events i) same ∙ is) in
    in-front (keys_of t) (flat_map keys_of ts) i (slice_get_within (keys_of t) i (key_of e) here) ∙ here
lists (t ∷ ts) (suc j) i th e at is =
    let size : length (keys_of t) ≡ length t.events = length-map t.events key_of in
    ap (λ n. slice_get (keys_of t ++ flat_map keys_of ts) (n + place-in ts j i)) (sym size) ∙ behind (keys_of t) (flat_map keys_of ts) (place-in ts j i) ∙ lists ts j i th e at is

module _ (log : List ThreadLog) (keys : HasKeys log) where
  key-is : (n : ℕ) (k : EventKey) (l : Listed log n k) → (l.thread ≡ k.thread) × (l.number ≡ k.number) × IsSome (event_in log k)
  key-is n k l =
      let at : event_in log (record { thread = l.thread; number = l.number }) ≡ Some l.event =
      ap (option_and_then (λ (th : ThreadLog). slice_get th.events l.number)) l.is_thread ∙ l.is_event in
      let q : EventKey = record { thread = l.thread; number = l.number } in
      let same : q ≡ k = sym (named_so log keys q l.event at) ∙ l.named in
      (ap (λ (x : EventKey). x.thread) same, ap (λ (x : EventKey). x.number) same, subst (λ x. IsSome (event_in log x)) same (subst (λ o. IsSome o) (sym at) refl))

  parts : (key : EventKey) (o : Option ThreadLog) → slice_get log key.thread ≡ o → (e : Event) → option_and_then (λ (th : ThreadLog). slice_get th.events key.number) o ≡ Some e
      → (th : ThreadLog) × (slice_get log key.thread ≡ Some th) × (slice_get th.events key.number ≡ Some e)
  parts key None at e is = absurd (none-some e is)
  parts key (Some th) at e is = (th, at, is)

  some-event : (o : Option Event) → IsSome o → (e : Event) × (o ≡ Some e)
  some-event None h = absurd (cc)
  some-event (Some e) h = (e, refl)

  thread-by-thread : ListsEachOnce log (flat_map keys_of log)
  thread-by-thread = record {
    listed = λ key there.
        let e = some-event (event_in log key) there in
        let p = parts key (slice_get log key.thread) refl e.0 e.1 in
        (place-in log key.thread key.number, lists log key.thread key.number p.0 e.0 p.1 p.2 ∙ ap Some (named_so log keys key e.0 e.1));
    events = λ n key at. (key-is n key (listed-at log n key at)).2;
    once = λ m n key at_m at_n.
        let a = listed-at log m key at_m in
        let b = listed-at log n key at_n in
        let p = key-is m key a in
        let q = key-is n key b in
        a.placed ∙ ap (λ t. place-in log t a.number) (p.0 ∙ sym q.0) ∙ ap (place-in log b.thread) (p.1 ∙ sym q.1) ∙ sym b.placed;
  }

  -- the writers of each event
  writers-are : (w : Witness) → w.writers ≡ map thread_from_init log → (key : EventKey) (e : Event) → event_in log key ≡ Some e → writers_in w key ≡ from_init e
  writers-are w is key e at =
      let p = parts key (slice_get log key.thread) refl e at in
      let thread : slice_get w.writers key.thread ≡ Some (thread_from_init p.0) =
      ap (λ (ws : List (List (List EventId))). slice_get ws key.thread) is ∙ slice_get-map thread_from_init log key.thread ∙ ap (option_map thread_from_init) p.1 in
      let event : slice_get (thread_from_init p.0) key.number ≡ Some (from_init e) = slice_get-map from_init (p.0).events key.number ∙ ap (option_map from_init) p.2 in
      ap (λ (o : Option (List (List EventId))). unwrap_or (option_and_then (λ (ws : List (List EventId)). slice_get ws key.number) o) []) thread
      ∙ ap (λ (o : Option (List EventId)). unwrap_or o []) event

counts-are : (log : List ThreadLog) → map (λ (ws : List (List EventId)). length ws) (map thread_from_init log) ≡ event_counts log
counts-are [] = refl
counts-are (th ∷ ts) = let here : length (thread_from_init th) ≡ length th.events = length-map th.events from_init in let rest = counts-are ts in cc

pub unknown-shape : (log : List ThreadLog) (w : Witness) → HasKeys log → IsUnknown log w → IsStart log w
unknown-shape log w keys is = λ initial own. record {
  keys = keys;
  few = own.few;
  counts = ap (map (λ (ws : List (List EventId)). length ws)) is.0 ∙ counts-are log;
  good = λ key e at.
      let from : writers_in w key ≡ from_init e = writers-are log keys w is.0 key e at in
      record {
        in_memory = own.in_memory key e at;
        fits = own.fits key e at;
        count = ap length from ∙ length-replicate (read_width e) Init;
        there = subst (All (IsThere log)) (sym from) (All-replicate (IsThere log) (read_width e) Init tt);
      };
  order = subst (ListsEachOnce log) (sym is.1) (thread-by-thread log keys);
}
