-- What surely holds in a state with one more event, and in one like it.
use Rattle.std.proofs.Common.{◌≡◌, ℕ, ◌≤◌, List, [], ◌∷◌, length, inl, inr, None, Some, IsSome, refl, sym, ap, subst, ◌∙◌, arith}
use Rattle.std.specs.Prelude.{◌≢◌, ◌⊎◌, slice_get}
use Rattle.std.proofs.lemmas.Bool.{cases_eq, ltb-true}
use Rattle.std.proofs.lemmas.List.{length-append}
use Rattle.std.proofs.lemmas.Option.{same_Some, slice_get_within}
use Rattle.wm_ast.specs.declared.module.Module.{Module}
use Rattle.wm_event.specs.Event.{key_of}
use Rattle.wm_event.specs.Execution.{ReadsFrom}
use Rattle.wm_event.specs.Log.{event_in}
use Rattle.wm_event.specs.LoggedRun.{LoggedRun, execution}
use Rattle.wm_event.specs.declared.event.Event.{Event}
use Rattle.wm_event.specs.declared.event.EventId.TheVariants.{At}
use Rattle.wm_event.specs.declared.event.EventKey.{EventKey}
use Rattle.wm_event.specs.declared.log.Start.{Start}
use Rattle.wm_event.specs.declared.log.ThreadLog.{ThreadLog}
use Rattle.wm_explore.specs.Executions.{IsExecutionOf}
use Rattle.wm_explore.specs.Past.{AreKnownWith, FindsPast, HasState, KeepsMark, KnowsPast, TakesNext}
use Rattle.wm_explore.specs.States.{GoesOn, HasArrived, IsChild, IsState, count_in, with_last}
use Rattle.wm_explore.specs.declared.state.State.{State}
use Rattle.wm_explore.proofs.Beginnings.{count_at, event_at, kept_there, same_event, there_kept, thread_of_event}
use Rattle.wm_explore.proofs.Children.{next_key}
use Rattle.wm_explore.proofs.Lists.{at_pushed, extended_at, extended_other, kept_pushed, last_pushed}

-- an execution that goes on from a state has it
pub has_state : (m : Module) (starts : List Start) (initial : List ℕ) (s : State) (x : LoggedRun) → IsState starts s → IsExecutionOf m starts x → x.initial ≡ initial → GoesOn x s → HasState initial s x
has_state m starts initial s x fine is memory on = record {
  memory = memory;
  shaped = is.shaped;
  valid = is.valid;
  there = fine.events;
  events = events;
  back = λ i r w k at from. back i r w k at from;
}
  where
    is_there : (key : EventKey) (e : Event) → event_in s.log key ≡ Some e → IsSome (event_in s.log key)
    is_there key e at = subst (λ o. IsSome o) (sym at) refl

    events : (key : EventKey) (e : Event) → event_in s.log key ≡ Some e → event_in x.log key ≡ Some e
    events key e at = sym (same_event s.log x.log on.beginning key (there_kept s.log key (is_there key e at))) ∙ at

    back : (i : ℕ) (r w : EventKey) (k : ℕ) → slice_get s.arrived i ≡ Some r → ReadsFrom (execution x) r k (At w) → HasArrived s.arrived i w
    back i r w k at from =
        let kept = there_kept s.log r (fine.events i r at) in
        let there = subst (λ o. IsSome o) (same_event s.log x.log on.beginning r kept) (fine.events i r at) in
        let writer = fine.listed w (kept_there s.log w (on.writers r k w there kept from)) in
        (writer.0, on.back r w k i writer.0 there from at writer.1, writer.1)

-- two states that differ in neither log nor arrivals nor what surely holds
pub knows_too : (initial : List ℕ) (s t : State) → t.log ≡ s.log → t.arrived ≡ s.arrived → t.pasts ≡ s.pasts → KnowsPast initial s → KnowsPast initial t
knows_too initial s t same_log same_arrived same_pasts knows = record {
  count = ap length same_pasts ∙ knows.count ∙ ap length (sym same_arrived);
  past = λ x has i b c at at_past. knows.past x (has_too x has) i b c (ap (λ ks. slice_get ks i) (sym same_arrived) ∙ at) (ap (λ cs. slice_get cs i) (sym same_pasts) ∙ at_past);
}
  where
    has_too : (x : LoggedRun) → HasState initial t x → HasState initial s x
    has_too x has = record {
      memory = has.memory;
      shaped = has.shaped;
      valid = has.valid;
      there = λ i key at. subst (λ l. IsSome (event_in l key)) same_log (has.there i key (ap (λ ks. slice_get ks i) same_arrived ∙ at));
      events = λ key e at. has.events key e (ap (λ l. event_in l key) same_log ∙ at);
      back = λ i r w k at from. subst (λ ks. HasArrived ks i w) same_arrived (has.back i r w k (ap (λ ks. slice_get ks i) same_arrived ∙ at) from);
    }

-- ---- a state with one more event

module _ (s : State) (k : ℕ) (t : ThreadLog) (is : slice_get s.log k ≡ Some t) (e : Event) (named : key_of e ≡ next_key k t) (starts : List Start) (fine : IsState starts s) (child : State) (is_child : IsChild k e s child) where
  new_thread : slice_get child.log k ≡ Some (with_last t e)
  new_thread = ap (λ ts. slice_get ts k) is_child.log ∙ extended_at k e s.log t is

  old_event : (key : EventKey) (f : Event) → event_in s.log key ≡ Some f → event_in child.log key ≡ Some f
  old_event key f at = by (cases_eq key.thread k)
    where
      u : (v : ThreadLog) × (slice_get s.log key.thread ≡ Some v)
      u = thread_of_event s.log key f at

      at_number : slice_get u.0.events key.number ≡ Some f
      at_number = sym (event_at s.log key u.0 u.1) ∙ at

      by : (key.thread ≡ k) ⊎ (key.thread ≢ k) → event_in child.log key ≡ Some f
      by (inr not) = event_at child.log key u.0 (ap (λ ts. slice_get ts key.thread) is_child.log ∙ extended_other k e s.log key.thread not ∙ u.1) ∙ at_number
      by (inl same) =
          let same_thread : t ≡ u.0 = same_Some t u.0 (sym is ∙ ap (slice_get s.log) (sym same) ∙ u.1) in
          event_at child.log key (with_last t e) (ap (slice_get child.log) same ∙ new_thread) ∙ kept_pushed t.events e key.number f (ap (λ (v : ThreadLog). slice_get v.events key.number) same_thread ∙ at_number)

  new_event : event_in child.log (key_of e) ≡ Some e
  new_event = ap (event_in child.log) named ∙ event_at child.log (next_key k t) (with_last t e) new_thread ∙ last_pushed t.events e

  not_old : IsSome (event_in s.log (key_of e)) → ⊥
  not_old there =
      let lt = ltb-true (next_key k t).number (count_in s.log (next_key k t).thread) (there_kept s.log (next_key k t) (subst (λ key. IsSome (event_in s.log key)) named there)) in
      let count = count_at s.log k t is in
      omega (arith, lt, count)

  old_arrived : (i : ℕ) (key : EventKey) → slice_get s.arrived i ≡ Some key → slice_get child.arrived i ≡ Some key
  old_arrived i key at = ap (λ ks. slice_get ks i) is_child.arrived ∙ kept_pushed s.arrived (key_of e) i key at

  arrived_before : (n : ℕ) (w : EventKey) → n ≤ length s.arrived → HasArrived child.arrived n w → HasArrived s.arrived n w
  arrived_before n w le h = by (at_pushed s.arrived (key_of e) h.0 w (ap (λ ks. slice_get ks h.0) (sym is_child.arrived) ∙ h.2))
    where
      by : ((h.0 ≡ length s.arrived) × (w ≡ key_of e)) ⊎ (slice_get s.arrived h.0 ≡ Some w) → HasArrived s.arrived n w
      by (inl last) = absurd (let lt = h.1 in let here = last.0 in omega (arith, lt, here, le))
      by (inr old) = (h.0, h.1, old)

  module _ (initial : List ℕ) where
    pub takes_next : (x : LoggedRun) → HasState initial child x → TakesNext initial s e x
    takes_next x has = record {
      has = record {
        memory = has.memory;
        shaped = has.shaped;
        valid = has.valid;
        there = fine.events;
        events = λ key f at. has.events key f (old_event key f at);
        back = λ i r w j at from. arrived_before i w (let lt = slice_get_within s.arrived i r at in omega (arith, lt)) (has.back i r w j (old_arrived i r at) from);
      };
      new = not_old;
      next = has.events (key_of e) e new_event;
      from = λ j w from. arrived_before (length s.arrived) w (omega arith)
          (has.back (length s.arrived) (key_of e) w j (ap (λ ks. slice_get ks (length s.arrived)) is_child.arrived ∙ last_pushed s.arrived (key_of e)) from);
    }

    pub knows_child : AreKnownWith initial s e child.pasts → KnowsPast initial child
    knows_child known = record {
      count = known.count ∙ sym (length-append s.arrived (key_of e ∷ [])) ∙ ap length (sym is_child.arrived);
      past = λ x has i b p at at_past. known.past x (takes_next x has) i b p (ap (λ ks. slice_get ks i) (sym is_child.arrived) ∙ at) at_past;
    }

    -- an execution that goes on from the state takes a byte of the next event from one that the mark doesn't count
    keeps_mark : (x : LoggedRun) → GoesOn x s → KeepsMark s e x
    keeps_mark x on n marked =
        let missed = on.marks k n (ap (λ (key : EventKey). slice_get s.marks key.thread) (sym named) ∙ marked) in
        let key : record { thread = k; number = count_in s.log k } ≡ key_of e = ap (λ i. record { thread = k; number = i }) (count_at s.log k t is) ∙ sym named in
        (missed.0, missed.1, subst (λ b. ReadsFrom (execution x) b missed.0 (At missed.1)) key missed.2, missed.3)

    -- no execution goes on from the state and from it
    pub forbidden : FindsPast initial s e None → (m : Module) (x : LoggedRun) → IsState starts child → IsExecutionOf m starts x → x.initial ≡ initial → GoesOn x s → GoesOn x child → ⊥
    forbidden none m x fine_child is_execution memory on on_child = none x (takes_next x (has_state m starts initial child x fine_child is_execution memory on_child)) (keeps_mark x on)
