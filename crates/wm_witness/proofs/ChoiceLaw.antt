-- Which writers a byte of a read can have.
use Rattle.std.proofs.Common.{◌≡◌, ◌⊎◌, ℕ, ◌+◌, ◌<◌, ◌≤◌, List, [], IsSome, IsTrue, Option, Some, None, get_or, slice_get, length, refl, sym, ap, ◌∙◌, subst, arith, inl, inr, ⊎_elim}
use Rattle.std.specs.Prelude.{option_and_then, true, false, ◌==◌, ◌&&◌}
use Rattle.std.specs.Option.{is_some}
use Rattle.std.proofs.lemmas.Bool.{and_parts, cases_lt}
use Rattle.std.proofs.lemmas.Bool.Decides.{nat_tests}
use Rattle.wm_witness.specs.declared.assumption.Assumption.TheVariants.{TakesNone}
use Rattle.wm_witness.specs.Assumptions.{Holds}
use Rattle.std.proofs.lemmas.Option.{same_Some, slice_get-get_or, slice_get_within}
use Rattle.wm_event.specs.declared.event.Event.{Event}
use Rattle.wm_event.specs.declared.event.EventKey.{EventKey}
use Rattle.wm_event.specs.declared.event.EventId.{EventId}
use Rattle.wm_event.specs.declared.event.EventId.TheVariants.{Init, At}
use Rattle.wm_event.specs.declared.witness.Witness.{Witness}
use Rattle.wm_event.specs.Event.{byte_written, key_of}
use Rattle.wm_event.specs.Execution.{ReadsFrom, byte_by}
use Rattle.wm_event.specs.Log.{event_in}
use Rattle.wm_event.specs.LoggedRun.{LoggedRun, execution}
use Rattle.wm_event.specs.Rules.{IsValid}
use Rattle.wm_event.specs.Shape.{IsWellShaped, read_width}
use Rattle.wm_event.specs.Witness.{writers_in}
use Rattle.wm_writers.specs.Fits.{fitting}
use Rattle.wm_writers.specs.Forced.{with_witness}
use Rattle.wm_writers.proofs.FitLaws.{writer_fits}
use Rattle.wm_writers.proofs.FittingLemmas.{fit-listed}
use Rattle.wm_witness.specs.declared.assumption.Assumption.{Assumption}
use Rattle.wm_witness.specs.declared.relation.Kind.TheVariants.{Happens}
use Rattle.wm_witness.specs.Always.{Always, IsClosed}
use Rattle.wm_witness.specs.Choice.{IsEventOf, IsExcluded}
use Rattle.wm_witness.specs.Relations.{AlwaysRelates}

-- each of the first n that fit byte k of the read e is excluded, or was found
abbrev pub AreSeen : LoggedRun → List Assumption → Event → ℕ → ℕ → Option EventId → Type 0
AreSeen run assumed e k n found = (m : ℕ) (id : EventId) → m < n → slice_get (fitting run.log run.initial e k) m ≡ Some id → IsExcluded run assumed (key_of e) k id ⊎ (found ≡ Some id)

module _ (run : LoggedRun) (assumed : List Assumption) (e : Event) (is_e : IsEventOf run e) (k : ℕ) where
  -- a read doesn't happen before its writer
  pub after-read : (w : EventKey) → AlwaysRelates run assumed Happens (key_of e) w → IsExcluded run assumed (key_of e) k (At w)
  after-read w h = λ witness shape valid keeps from.
      (valid.keeps_coherence (key_of e) e k (At w) is_e from).0 (h witness shape valid keeps)

  -- no write of the byte comes between them
  pub written-over : (w v : EventKey) → IsSome (byte_by (execution run) (At v) (e.address + k)) → AlwaysRelates run assumed Happens w v → AlwaysRelates run assumed Happens v (key_of e)
      → IsExcluded run assumed (key_of e) k (At w)
  written-over w v writes after before = λ witness shape valid keeps from.
      (valid.keeps_coherence (key_of e) e k (At w) is_e from).1 (At v) writes (after witness shape valid keeps) (before witness shape valid keeps)

  wrote : (o : Option Event) (a : ℕ) → IsSome (option_and_then (λ (f : Event). byte_written f a) o) → IsSome o
  wrote None a h = absurd (cc)
  wrote (Some f) a h = refl

  -- Init happens before all events
  pub init-written-over : (v : EventKey) → IsSome (byte_by (execution run) (At v) (e.address + k)) → AlwaysRelates run assumed Happens v (key_of e)
      → IsExcluded run assumed (key_of e) k Init
  init-written-over v writes before = λ witness shape valid keeps from.
      (valid.keeps_coherence (key_of e) e k Init is_e from).1 (At v) writes ([], wrote (event_in run.log v) (e.address + k) writes) (before witness shape valid keeps)

  module _ (inside : k < read_width e) (found : Option EventId) (seen : AreSeen run assumed e k (length (fitting run.log run.initial e k)) found) where
    -- the writer in a valid run was found
    writer-found : (witness : Witness) → IsWellShaped (with_witness run witness) → IsValid (execution (with_witness run witness))
        → ((id : EventId) → IsExcluded run assumed (key_of e) k id → ReadsFrom (execution (with_witness run witness)) (key_of e) k id → ⊥)
        → (v : EventId) × ReadsFrom (execution (with_witness run witness)) (key_of e) k v × (found ≡ Some v)
    writer-found witness shape valid excluded =
        let ids = writers_in witness (key_of e) in
        let count : length ids ≡ read_width e = (shape.good (key_of e) e is_e).count in
        let within : k < length ids = omega (arith, count, inside) in
        let v : EventId = get_or ids k Init in
        let from : ReadsFrom (execution (with_witness run witness)) (key_of e) k v = slice_get-get_or ids k Init within in
        let fit = writer_fits (with_witness run witness) shape valid (key_of e) e k v is_e from in
        let listed = fit-listed run.log shape.keys run.initial e k v fit in
        ⊎_elim
        (λ (out : IsExcluded run assumed (key_of e) k v). absurd (excluded v out from))
        (λ (is : found ≡ Some v). (v, from, is))
        (seen listed.0 v (slice_get_within (fitting run.log run.initial e k) listed.0 v listed.1) listed.1)

    pub nothing-found : found ≡ None → IsClosed run assumed
    nothing-found none = λ witness shape valid keeps.
        let f = writer-found witness shape valid (λ id out from. out witness shape valid keeps from) in
        let is : found ≡ Some f.0 = f.2 in
        cc

    pub only-found : (w : EventId) → found ≡ Some w → Always run assumed (λ x. ReadsFrom (execution x) (key_of e) k w)
    only-found w one = λ witness shape valid keeps.
        let f = writer-found witness shape valid (λ id out from. out witness shape valid keeps from) in
        let same : f.0 ≡ w = same_Some f.0 w (sym f.2 ∙ one) in
        subst (ReadsFrom (execution (with_witness run witness)) (key_of e) k) same f.1

-- a read that takes nothing from an event has no byte from it
pub takes-none-at : (x : LoggedRun) (a : Assumption) (o u r w : EventKey) (id : EventId) (k : ℕ) → a ≡ TakesNone o u → id ≡ At w → (o.thread == r.thread && o.number == r.number) ≡ true
    → IsTrue (u.thread == w.thread && u.number == w.number) → Holds x a → ReadsFrom (execution x) r k id → ⊥
takes-none-at x a o u r w id k is at same same-writer holds from =
    let reader : o ≡ r = keys-equal o r same in
    let writer : u ≡ w = keys-equal u w same-writer in
    let h : Holds x (TakesNone r w) = subst (Holds x) (is ∙ ap (λ q. TakesNone q u) reader ∙ ap (TakesNone r) writer) holds in
    h (k, subst (ReadsFrom (execution x) r k) at from)
  where
    keys-equal : (a b : EventKey) → (a.thread == b.thread && a.number == b.number) ≡ true → a ≡ b
    keys-equal a b t =
        let p = and_parts (a.thread == b.thread) (a.number == b.number) t in
        let m : a.thread ≡ b.thread = grind (arith, nat_tests) in
        let n : a.number ≡ b.number = grind (arith, nat_tests) in
        λ i. record { thread = m i; number = n i }

module _ (run : LoggedRun) (assumed : List Assumption) (e : Event) (k : ℕ) (ids : List EventId) (all : ids ≡ fitting run.log run.initial e k) (n : ℕ) (inside : n < length ids) (found : Option EventId)
    (seen : AreSeen run assumed e k n found) where
  abbrev here : EventId
  here = get_or ids n Init

  -- one of the first n, or the next
  old-or-here : (m : ℕ) (id : EventId) → m < n + 1 → slice_get (fitting run.log run.initial e k) m ≡ Some id → (m < n) ⊎ (here ≡ id)
  old-or-here m id l at = ⊎_elim
      (λ (less : m < n). inl less)
      (λ (more : n ≤ m).
      let same : m ≡ n = omega (arith, l, more) in
      let stands : slice_get ids n ≡ Some id = ap (λ xs. slice_get xs n) all ∙ ap (slice_get (fitting run.log run.initial e k)) (sym same) ∙ at in
      inr (same_Some here id (sym (slice_get-get_or ids n Init inside) ∙ stands)))
      (cases_lt m n)

  pub seen-excluded : IsExcluded run assumed (key_of e) k here → AreSeen run assumed e k (n + 1) found
  seen-excluded out = λ m id l at. ⊎_elim
      (λ (less : m < n). seen m id less at)
      (λ (same : here ≡ id). inl (subst (IsExcluded run assumed (key_of e) k) same out))
      (old-or-here m id l at)

  none-yet : (o : Option EventId) (id : EventId) → is_some o ≡ false → o ≡ Some id → ⊥
  none-yet None id none some = cc
  none-yet (Some x) id none some = cc

  pub seen-first : is_some found ≡ false → AreSeen run assumed e k (n + 1) (Some here)
  seen-first none = λ m id l at. ⊎_elim
      (λ (less : m < n). ⊎_elim
      (λ (out : IsExcluded run assumed (key_of e) k id). inl out)
      (λ (some : found ≡ Some id). absurd (none-yet found id none some))
      (seen m id less at))
      (λ (same : here ≡ id). inr (ap Some same))
      (old-or-here m id l at)
