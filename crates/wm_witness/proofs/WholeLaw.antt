-- From which event a tear-free read takes all of its bytes, if its range is written only as a whole.
use Rattle.std.proofs.Common.{◌≡◌, ◌⊎◌, ℕ, ◌+◌, ◌-◌, ◌*◌, ◌^◌, ◌<◌, ◌&&◌, nat_le, nat_lt, List, Bool, true, false, IsTrue, Option, None, Some, is_some, get_or, slice_get, length, refl, sym, ap, ◌∙◌, subst, arith, ⊎_elim, if◌then◌else◌}
use Rattle.std.specs.Prelude.{option_and_then}
use Rattle.std.specs.List.{Contains, filter}
use Rattle.std.proofs.lemmas.Option.{same_Some, slice_get-get_or, slice_get_within}
use Rattle.wm_event.specs.declared.event.Event.{Event}
use Rattle.wm_event.specs.declared.event.EventKey.{EventKey}
use Rattle.wm_event.specs.declared.event.EventId.{EventId}
use Rattle.wm_event.specs.declared.event.EventId.TheVariants.{Init, At}
use Rattle.wm_event.specs.declared.event.EventKind.TheVariants.{Read}
use Rattle.wm_event.specs.declared.event.Range.{Range}
use Rattle.wm_event.specs.declared.witness.Witness.{Witness}
use Rattle.wm_event.specs.Byte.{byte_of}
use Rattle.wm_event.specs.Event.{byte_written, key_of, range_of, reads, writes}
use Rattle.wm_event.specs.Execution.{ReadsFrom}
use Rattle.wm_event.specs.Log.{event_in}
use Rattle.wm_event.specs.LoggedRun.{LoggedRun, execution}
use Rattle.wm_event.specs.Rules.{IsTearFree, IsTearFreeLike, IsValid}
use Rattle.wm_event.specs.Shape.{IsWellShaped, ValuesFit, read_width}
use Rattle.wm_event.specs.Witness.{writers_in}
use Rattle.wm_writers.specs.Forced.{with_witness}
use Rattle.wm_witness.specs.declared.assumption.Assumption.{Assumption}
use Rattle.wm_witness.specs.declared.offers.Offer.{Offer}
use Rattle.wm_witness.specs.declared.offers.Offers.{Offers}
use Rattle.wm_witness.specs.Always.{Always, IsClosed}
use Rattle.wm_witness.specs.Assumptions.{Keeps}
use Rattle.wm_witness.specs.Choice.{IsEventOf, IsNeverFromInit, IsOutOfRead}
use Rattle.wm_witness.specs.Offers.{AreOffers, IsWhole, is_filed, number_of}
use Rattle.wm_witness.proofs.OffersLaw.{filed-at, same-value}

-- the writes that are filed under the number of what e reads
abbrev pub offered : Offers → Event → List Offer
offered offers e = filter (is_filed (number_of e.address e.read)) offers.writes.items

-- of each of the first n some byte is excluded, or it was found
abbrev pub AreLooked : LoggedRun → List Assumption → Event → List Offer → ℕ → Option EventId → Type 0
AreLooked run assumed e list n found = (m : ℕ) (o : Offer) → m < n → slice_get list m ≡ Some o → IsOutOfRead run assumed e (At o.writer) ⊎ (found ≡ Some (At o.writer))

-- what an event leaves at a byte of a range that it writes as a whole
left : (f : Event) (a k b : ℕ) → f.address ≡ a → byte_written f (a + k) ≡ Some b → IsTrue (writes f) × (byte_of f.written k ≡ b)
left f a k b same is = by (writes f) (nat_le f.address (a + k) && nat_lt (a + k) (f.address + _)) refl is
  where
    by : (w i : Bool) → writes f ≡ w → (if w && i then Some (byte_of f.written (a + k - f.address)) else None) ≡ Some b → IsTrue (writes f) × (byte_of f.written k ≡ b)
    by true true does here =
        let place : a + k - f.address ≡ k = omega (arith, same) in
        (does, ap (byte_of f.written) (sym place) ∙ same_Some (byte_of f.written (a + k - f.address)) b here)
    by true false does here = absurd (cc)
    by false i does here = absurd (cc)

-- how many bytes a range has
abbrev wide : Event → Range → ℕ
wide e r = read_width (record { thread = e.thread; number = e.number; kind = Read; order = e.order; address = r.address; width = r.width; read = e.read; written = e.written })

all-wide : (d e : Event) → reads d ≡ true → read_width d ≡ wide e (range_of d)
all-wide d e does = ap (λ b. if b then wide e (range_of d) else 0) does

module _ (run : LoggedRun) (assumed : List Assumption) (e : Event) (is_e : IsEventOf run e) (free : IsTearFree e) (whole : IsWhole run.log e) (offers : Offers) (are : AreOffers run.log offers)
    (never : IsNeverFromInit run assumed e) where
  module _ (witness : Witness) (shape : IsWellShaped (with_witness run witness)) (valid : IsValid (execution (with_witness run witness))) (keeps : Keeps (with_witness run witness) assumed) where
    -- some event is the writer of byte k
    some-event : (k : ℕ) → k < read_width e → (w : EventKey) × ReadsFrom (execution (with_witness run witness)) (key_of e) k (At w)
    some-event k inside =
        let ids = writers_in witness (key_of e) in
        let count : length ids ≡ read_width e = (shape.good (key_of e) e is_e).count in
        let within : k < length ids = omega (arith, count, inside) in
        by (get_or ids k Init) (slice_get-get_or ids k Init within)
      where
        by : (v : EventId) → ReadsFrom (execution (with_witness run witness)) (key_of e) k v → (w : EventKey) × ReadsFrom (execution (with_witness run witness)) (key_of e) k (At w)
        by Init from = absurd (never k inside witness shape valid keeps from)
        by (At w) from = (w, from)

    wrote : (w : EventKey) (k : ℕ) → ReadsFrom (execution (with_witness run witness)) (key_of e) k (At w)
        → option_and_then (λ (f : Event). byte_written f (e.address + k)) (event_in run.log w) ≡ Some (byte_of e.read k)
    wrote w k from = (valid.keeps_written_values (key_of e) e k (At w) is_e from).1

    -- it is tear-free with the range of the read
    is-like : (w : EventKey) (k : ℕ) → k < read_width e → ReadsFrom (execution (with_witness run witness)) (key_of e) k (At w) → IsTearFreeLike (execution (with_witness run witness)) e (At w)
    is-like w k inside from = whole.writers w k inside (ap is_some (wrote w k from))

    -- all bytes are from it
    all-from : (w : EventKey) (j : ℕ) → j < read_width e → ReadsFrom (execution (with_witness run witness)) (key_of e) j (At w)
        → (k : ℕ) → k < read_width e → ReadsFrom (execution (with_witness run witness)) (key_of e) k (At w)
    all-from w j inside from k l =
        let v = some-event k l in
        let same : At v.0 ≡ At w = valid.keeps_no_tearing (key_of e) e is_e free (At v.0) (At w) ((k, v.1), is-like v.0 k l v.1) ((j, from), is-like w j inside from) in
        subst (ReadsFrom (execution (with_witness run witness)) (key_of e) k) same v.1

    -- so it leaves the value that was read, and is filed under its number
    listed : (w : EventKey) → ((k : ℕ) → k < read_width e → ReadsFrom (execution (with_witness run witness)) (key_of e) k (At w)) → 0 < read_width e
        → (m : ℕ) × (o : Offer) × (slice_get (offered offers e) m ≡ Some o) × (o.writer ≡ w)
    listed w all reads_some =
        let like = is-like w 0 reads_some (all 0 reads_some) in
        let f : Event = like.0 in
        let at : event_in run.log w ≡ Some f = like.1 in
        let address : f.address ≡ e.address = ap (λ (r : Range). r.address) like.3 in
        let its : (k : ℕ) → k < read_width e → IsTrue (writes f) × (byte_of f.written k ≡ byte_of e.read k) =
        (λ k l. left f e.address k (byte_of e.read k) address (sym (ap (option_and_then (λ (g : Event). byte_written g (e.address + k))) at) ∙ wrote w k (all k l))) in
        let fits_e : ValuesFit e = (shape.good (key_of e) e is_e).fits in
        let fits_f : ValuesFit f = (shape.good w f at).fits in
        let long : read_width e ≡ wide e (range_of e) = all-wide e e whole.does_read in
        let small_e : e.read < 2 ^ (8 * read_width e) = subst (λ n. e.read < 2 ^ (8 * n)) (sym long) fits_e.0 in
        let its_width : f.written < 2 ^ (8 * wide e (range_of f)) = fits_f.1 in
        let small_f : f.written < 2 ^ (8 * read_width e) = subst (λ n. f.written < 2 ^ (8 * n)) (ap (wide e) like.3 ∙ sym long) its_width in
        let value : f.written ≡ e.read = same-value (read_width e) f.written e.read small_f small_e (λ k l. (its k l).1) in
        let o : Offer = record { number = number_of f.address f.written; writer = w } in
        let has : Contains offers.writes.items o = are.filed w f at (its 0 reads_some).0 in
        let number : number_of f.address f.written ≡ number_of e.address e.read = ap (λ a. number_of a f.written) address ∙ ap (number_of e.address) value in
        let r = filed-at offers.writes.items (number_of e.address e.read) o has number in
        (r.0, o, r.1, refl)

  module _ (found : Option EventId) (looked : AreLooked run assumed e (offered offers e) (length (offered offers e)) found) where
    all-found : (witness : Witness) → IsWellShaped (with_witness run witness) → IsValid (execution (with_witness run witness)) → Keeps (with_witness run witness) assumed → (k : ℕ) → k < read_width e
        → (w : EventKey) × ReadsFrom (execution (with_witness run witness)) (key_of e) k (At w) × (found ≡ Some (At w))
    all-found witness shape valid keeps k inside =
        let v = some-event witness shape valid keeps k inside in
        let all = all-from witness shape valid keeps v.0 k inside v.1 in
        let some : 0 < read_width e = omega (arith, inside) in
        let l = listed witness shape valid keeps v.0 all some in
        ⊎_elim
        (λ (out : IsOutOfRead run assumed e (At l.1.writer)).
        absurd (out.excluded witness shape valid keeps (subst (λ (w : EventKey). ReadsFrom (execution (with_witness run witness)) (key_of e) out.byte (At w)) (sym l.3) (all out.byte out.inside))))
        (λ (is : found ≡ Some (At l.1.writer)). (v.0, v.1, is ∙ ap (λ w. Some (At w)) l.3))
        (looked l.0 l.1 (slice_get_within (offered offers e) l.0 l.1 l.2) l.2)

    pub none-of-all : found ≡ None → (k : ℕ) → k < read_width e → IsClosed run assumed
    none-of-all none k inside = λ witness shape valid keeps.
        let f = all-found witness shape valid keeps k inside in
        let is : found ≡ Some (At f.0) = f.2 in
        cc

    pub only-of-all : (w : EventId) → found ≡ Some w → (k : ℕ) → k < read_width e → Always run assumed (λ x. ReadsFrom (execution x) (key_of e) k w)
    only-of-all w one k inside = λ witness shape valid keeps.
        let f = all-found witness shape valid keeps k inside in
        let same : At f.0 ≡ w = same_Some (At f.0) w (sym f.2 ∙ one) in
        subst (ReadsFrom (execution (with_witness run witness)) (key_of e) k) same f.1
