-- The events of one thread that pass a test, in its order: each happens before the next ones.
use Rattle.std.proofs.Common.{◌≡◌, ℕ, zero, suc, ◌<◌, List, [], ◌∷◌, Bool, true, map, slice_get, Option, None, Some, IsSome, refl, sym, ap, ◌∙◌, subst, arith, inl}
use Rattle.std.specs.List.{filter}
use Rattle.std.specs.Option.{option_map, option_map_or}
use Rattle.std.specs.Prelude.{option_and_then}
use Rattle.std.proofs.lemmas.Option.{same_Some, slice_get-map}
use Rattle.wm_event.specs.declared.event.Event.{Event}
use Rattle.wm_event.specs.declared.event.EventKey.{EventKey}
use Rattle.wm_event.specs.declared.event.EventId.{EventId}
use Rattle.wm_event.specs.declared.event.EventId.TheVariants.{At}
use Rattle.wm_event.specs.declared.log.ThreadLog.{ThreadLog}
use Rattle.wm_event.specs.Event.{key_of}
use Rattle.wm_event.specs.HappensBefore.{HappensBefore}
use Rattle.wm_event.specs.Log.{HasKeys, event_in}
use Rattle.wm_event.specs.LoggedRun.{LoggedRun, execution}
use Rattle.wm_event.specs.Writes.{thread_keys}
use Rattle.wm_event.proofs.WritesLemmas.{in_filter}
use Rattle.wm_hb.specs.Sequence.{AreInSequence}
use Rattle.wm_hb.proofs.FilterLemmas.{from_filter, pairs_kept, passes}

-- an event has the name under which it is found
pub named_so : (log : List ThreadLog) → HasKeys log → (key : EventKey) (e : Event) → event_in log key ≡ Some e → key_of e ≡ key
named_so log keys key e there = let s = (keys key e there).0 in let t = (keys key e there).1 in λ i. record { thread = s i; number = t i }

-- of two events of a thread the one of the lower number happens before the other
pub in_program : (run : LoggedRun) (a b : EventKey) → IsSome (event_in run.log a) → IsSome (event_in run.log b) → a.thread ≡ b.thread → a.number < b.number → HappensBefore (execution run) (At a) (At b)
in_program run a b there_a there_b same less = ([], inl (record { first = there_a; second = there_b; same_thread = same; earlier = less }))

-- what is in the names of a thread
module _ (log : List ThreadLog) (keys : HasKeys log) (t : ℕ) where
  key_of_event : (thread : ThreadLog) → slice_get log t ≡ Some thread → (i : ℕ) (o : Option Event) → slice_get thread.events i ≡ o → (k : EventKey) → option_map key_of o ≡ Some k
      → (k.thread ≡ t) × (k.number ≡ i) × IsSome (event_in log k)
  key_of_event thread at i None none k is = absurd (cc)
  key_of_event thread at i (Some e) found k is =
      let there : event_in log (record { thread = t; number = i }) ≡ Some e = ap (option_and_then (λ (th : ThreadLog). slice_get th.events i)) at ∙ found in
      let key = keys (record { thread = t; number = i }) e there in
      let same : key_of e ≡ k = same_Some (key_of e) k is in
      let first : k.thread ≡ t = ap (λ (q : EventKey). q.thread) (sym same) ∙ key.0 in
      let second : k.number ≡ i = ap (λ (q : EventKey). q.number) (sym same) ∙ key.1 in
      (first, second, rw (first, second, there) refl)

  key_in : (o : Option ThreadLog) → slice_get log t ≡ o → (i : ℕ) (k : EventKey) → slice_get (option_map_or (λ (th : ThreadLog). map key_of th.events) o []) i ≡ Some k
      → (k.thread ≡ t) × (k.number ≡ i) × IsSome (event_in log k)
  key_in None none i k at = absurd (cc)
  key_in (Some thread) is i k at = key_of_event thread is i (slice_get thread.events i) refl k (sym (slice_get-map key_of thread.events i) ∙ at)

  pub thread_key : (i : ℕ) (k : EventKey) → slice_get (thread_keys log t) i ≡ Some k → (k.thread ≡ t) × (k.number ≡ i) × IsSome (event_in log k)
  thread_key i k at = key_in (slice_get log t) refl i k at

  key_there : (o : Option ThreadLog) → slice_get log t ≡ o → (n : ℕ) (q : Option Event) → option_and_then (λ (th : ThreadLog). slice_get th.events n) o ≡ q → IsSome q
      → slice_get (option_map_or (λ (th : ThreadLog). map key_of th.events) o []) n ≡ Some (record { thread = t; number = n })
  key_there None none n q at some = absurd (cc)
  key_there (Some thread) is n None at some = absurd (cc)
  key_there (Some thread) is n (Some e) at some =
      let there : event_in log (record { thread = t; number = n }) ≡ Some e = ap (option_and_then (λ (th : ThreadLog). slice_get th.events n)) is ∙ at in
      let key = keys (record { thread = t; number = n }) e there in
      let same : key_of e ≡ record { thread = t; number = n } = rw (key.0, key.1) refl in
      slice_get-map key_of thread.events n ∙ ap (option_map key_of) at ∙ ap Some same

  pub key_listed : (n : ℕ) → IsSome (event_in log (record { thread = t; number = n })) → slice_get (thread_keys log t) n ≡ Some (record { thread = t; number = n })
  key_listed n some = key_there (slice_get log t) refl n (event_in log (record { thread = t; number = n })) refl some

-- what is in a list of names
named : (ks : List EventKey) (i : ℕ) (a : EventId) → slice_get (map At ks) i ≡ Some a → (k : EventKey) × (a ≡ At k) × (slice_get ks i ≡ Some k)
named [] i a at = absurd (cc)
named (k ∷ ks) zero a at = (k, sym (same_Some (At k) a at), refl)
named (k ∷ ks) (suc i) a at = named ks i a at

module _ (run : LoggedRun) (keys : HasKeys run.log) (t : ℕ) (p : EventKey → Bool) where
  abbrev pub thread_ids : List EventId
  thread_ids = map At (filter p (thread_keys run.log t))

  in_turn : (i j : ℕ) (u v : EventKey) → i < j → slice_get (thread_keys run.log t) i ≡ Some u → slice_get (thread_keys run.log t) j ≡ Some v → HappensBefore (execution run) (At u) (At v)
  in_turn i j u v l at_u at_v =
      let p = thread_key run.log keys t i u at_u in
      let q = thread_key run.log keys t j v at_v in
      in_program run u v p.2 q.2 (p.0 ∙ sym q.0) (omega (arith, p.1, q.1, l))

  pub in_sequence : AreInSequence (execution run) thread_ids
  in_sequence i j u v l at_u at_v =
      let ks = filter p (thread_keys run.log t) in
      let m = named ks i u at_u in
      let n = named ks j v at_v in
      rw (m.1, n.1) (pairs_kept (λ (b c : EventKey). HappensBefore (execution run) (At b) (At c)) p (thread_keys run.log t) in_turn i j m.0 n.0 l m.2 n.2)

  -- what is named passes the test, and is an event of the thread
  pub its_event : (i : ℕ) (key : EventKey) → slice_get thread_ids i ≡ Some (At key) → (key.thread ≡ t) × (p key ≡ true)
  its_event i key at =
      let n = named (filter p (thread_keys run.log t)) i (At key) at in
      let same : n.0 ≡ key = (let e = n.1 in cc) in
      let f = from_filter p (thread_keys run.log t) i n.0 n.2 in
      let k = thread_key run.log keys t f.0 n.0 f.1 in
      (ap (λ (q : EventKey). q.thread) (sym same) ∙ k.0, ap p (sym same) ∙ passes p (thread_keys run.log t) i n.0 n.2)

  pub event_among : (key : EventKey) → key.thread ≡ t → IsSome (event_in run.log key) → p key ≡ true → (i : ℕ) × (slice_get thread_ids i ≡ Some (At key))
  event_among key in_t there is =
      let same : key ≡ record { thread = t; number = key.number } = ap (λ (m : ℕ). record { thread = m; number = key.number }) in_t in
      let listed : slice_get (thread_keys run.log t) key.number ≡ Some key = key_listed run.log keys t key.number (subst (λ (q : EventKey). IsSome (event_in run.log q)) same there) ∙ ap Some (sym same) in
      let kept = in_filter p (thread_keys run.log t) key.number key listed is in
      (kept.0, slice_get-map At (filter p (thread_keys run.log t)) kept.0 ∙ ap (option_map At) kept.1)
