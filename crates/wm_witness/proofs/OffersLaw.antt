-- The writes of a log by what they leave.
use Rattle.std.proofs.Common.{◌≡◌, ℕ, ◌+◌, ◌*◌, ◌%◌, ◌^◌, ◌<◌, ◌≤◌, ◌==◌, zero, suc, List, true, IsSome, IsTrue, Option, None, Some, is_some, get_or, slice_get, length, map, refl, sym, ap, ◌∙◌, subst, arith, ⊎_elim}
use Rattle.std.specs.Prelude.{All, option_and_then}
use Rattle.std.specs.List.{Contains, filter}
use Rattle.std.specs.Option.{option_map}
use Rattle.std.proofs.lemmas.Bool.{cases_lt}
use Rattle.std.proofs.lemmas.Bool.Decides.{nat_tests}
use Rattle.std.proofs.lemmas.Nat.{mod-pow-add}
use Rattle.std.proofs.Math.Nat.{mod-eq_of_lt, mod-one}
use Rattle.std.proofs.lemmas.List.Elements.{All-weaker, at_from_Contains}
use Rattle.std.proofs.lemmas.Option.{same_Some, slice_get-get_or, slice_get-map, slice_get_within}
use Rattle.wm_event.specs.declared.event.Event.{Event}
use Rattle.wm_event.specs.declared.event.EventKey.{EventKey}
use Rattle.wm_event.specs.declared.event.EventId.TheVariants.{At}
use Rattle.wm_event.specs.declared.log.ThreadLog.{ThreadLog}
use Rattle.wm_event.specs.Byte.{byte_of}
use Rattle.wm_event.specs.Event.{byte_written}
use Rattle.wm_event.specs.Log.{event_in}
use Rattle.wm_event.specs.LoggedRun.{LoggedRun, execution}
use Rattle.wm_event.specs.Rules.{IsTearFreeLike}
use Rattle.wm_event.specs.Shape.{ListsEachOnce}
use Rattle.wm_event.specs.Writes.{writes_byte}
use Rattle.wm_event.proofs.WritesLemmas.{in_filter}
use Rattle.wm_witness.specs.declared.offers.Offer.{Offer}
use Rattle.wm_witness.specs.Offers.{IsFiled, is_filed, number_of}

-- values with equal bytes are equal, up to so many bytes
same-bytes : (n v w : ℕ) → ((k : ℕ) → k < n → byte_of v k ≡ byte_of w k) → v % 2 ^ (8 * n) ≡ w % 2 ^ (8 * n)
same-bytes zero v w same = mod-one v ∙ sym (mod-one w)
same-bytes (suc n) v w same =
    let long : 8 * suc n ≡ 8 + 8 * n = omega arith in
    let rest : v % 2 ^ (8 * n) ≡ w % 2 ^ (8 * n) = same-bytes n v w (λ k l. same k (omega (arith, l))) in
    let here : byte_of v n ≡ byte_of w n = same n (omega arith) in
    ap (λ m. v % 2 ^ m) long ∙ mod-pow-add v 8 (8 * n) ∙ ap (λ b. b * 2 ^ (8 * n) + v % 2 ^ (8 * n)) here ∙ ap (λ r. byte_of w n * 2 ^ (8 * n) + r) rest
    ∙ sym (mod-pow-add w 8 (8 * n)) ∙ ap (λ m. w % 2 ^ m) (sym long)

pub same-value : (n v w : ℕ) → v < 2 ^ (8 * n) → w < 2 ^ (8 * n) → ((k : ℕ) → k < n → byte_of v k ≡ byte_of w k) → v ≡ w
same-value n v w small_v small_w same = sym (mod-eq_of_lt small_v) ∙ same-bytes n v w same ∙ mod-eq_of_lt small_w

-- what is filed under a number is among what is filed under it
pub filed-at : (offers : List Offer) (number : ℕ) (o : Offer) → Contains offers o → o.number ≡ number → (m : ℕ) × (slice_get (filter (is_filed number) offers) m ≡ Some o)
filed-at offers number o has same =
    let at = at_from_Contains offers o has in
    let passes : (o.number == number) ≡ true = grind (arith, nat_tests) in
    let is : get_or offers at.0 o ≡ o = at.2 o in
    in_filter (is_filed number) offers at.0 o (slice_get-get_or offers at.0 o at.1 ∙ ap Some is) passes

-- what is filed stays filed if no write is lost
pub filed-kept : (log : List ThreadLog) (old new : List Offer) (keys : List EventKey) → ((o : Offer) → Contains old o → Contains new o) → All (IsFiled log old) keys → All (IsFiled log new) keys
filed-kept log old new keys kept all = All-weaker (IsFiled log old) (IsFiled log new) (λ key filed e at does. kept (record { number = number_of e.address e.written; writer = key }) (filed e at does)) keys all

some-there : (o : Option Event) (e : Event) → o ≡ Some e → IsSome o
some-there None e is = absurd (cc)
some-there (Some f) e is = refl

-- if all events of an order of the log are filed, all of the log are
pub filed-all : (log : List ThreadLog) (offers : List Offer) (order : List EventKey) → ListsEachOnce log order → All (IsFiled log offers) order → (key : EventKey) → IsFiled log offers key
filed-all log offers order once all key = λ e at does.
    let n = once.listed key (some-there (event_in log key) e at) in
    let inside : n.0 < length order = slice_get_within order n.0 key n.1 in
    let here : get_or order n.0 key ≡ key = same_Some (get_or order n.0 key) key (sym (slice_get-get_or order n.0 key inside) ∙ n.1) in
    subst (IsFiled log offers) here (all n.0 key inside) e at does

-- whatever an order of the log lists of what writes a byte
pub like-listed : (run : LoggedRun) (order : List EventKey) (e : Event) (a : ℕ) → ListsEachOnce run.log order → All (IsTearFreeLike (execution run) e) (map At (filter (writes_byte run.log a) order))
    → (w : EventKey) → IsTrue (writes_byte run.log a w) → IsTearFreeLike (execution run) e (At w)
like-listed run order e a once all w does =
    let n = once.listed w (written-there (event_in run.log w) a does) in
    let r = in_filter (writes_byte run.log a) order n.0 w n.1 does in
    let ids = map At (filter (writes_byte run.log a) order) in
    let at : slice_get ids r.0 ≡ Some (At w) = slice_get-map At (filter (writes_byte run.log a) order) r.0 ∙ ap (option_map At) r.1 in
    let inside : r.0 < length ids = slice_get_within ids r.0 (At w) at in
    let here : get_or ids r.0 (At w) ≡ At w = same_Some (get_or ids r.0 (At w)) (At w) (sym (slice_get-get_or ids r.0 (At w) inside) ∙ at) in
    subst (IsTearFreeLike (execution run) e) here (all r.0 (At w) inside)
  where
    written-there : (o : Option Event) (a : ℕ) → is_some (option_and_then (λ (f : Event). byte_written f a) o) ≡ true → IsSome o
    written-there None a h = absurd (cc)
    written-there (Some f) a h = refl

-- the bytes so far, and one more
pub one-more-byte : (P : ℕ → Type 0) (n : ℕ) → ((k : ℕ) → k < n → P k) → P n → (k : ℕ) → k < n + 1 → P k
one-more-byte P n so-far here = λ k l. ⊎_elim
    (λ (less : k < n). so-far k less)
    (λ (more : n ≤ k). let same : n ≡ k = omega (arith, l, more) in subst P same here)
    (cases_lt k n)
