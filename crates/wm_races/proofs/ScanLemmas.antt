-- The races of an event, byte by byte and write by write.
use Rattle.std.proofs.Common.{◌≡◌, ℕ, ◌+◌, ◌<◌, ◌≤◌, List, [], ◌∷◌, ◌++◌, zero, suc, Bool, true, false, length, slice_get, Some, refl, sym, ap, ◌∙◌, subst, arith, ◌⊎◌, inl, inr, ⊎_elim, if◌then◌else◌}
use Rattle.std.proofs.lemmas.Bool.{cases_lt}
use Rattle.std.proofs.lemmas.Option.{same_Some, slice_get_within}
use Rattle.wm_access.specs.AccessWidth.{bytes_of}
use Rattle.wm_access.specs.declared.AccessWidth.{AccessWidth}
use Rattle.wm_access.specs.declared.AccessWidth.TheVariants.{One, Two, Four, Eight}
use Rattle.wm_event.specs.declared.event.Event.{Event}
use Rattle.wm_event.specs.declared.event.EventKey.{EventKey}
use Rattle.wm_event.specs.declared.writes.ByteWrite.{ByteWrite}
use Rattle.wm_event.specs.declared.log.ThreadLog.{ThreadLog}
use Rattle.wm_event.specs.Event.{key_of}
use Rattle.wm_event.specs.Log.{event_in}
use Rattle.wm_event.specs.LoggedRun.{LoggedRun, execution}
use Rattle.wm_event.specs.Shape.{ListsEachOnce}
use Rattle.wm_event.specs.Writes.{listed_from, writes_byte, writes_from}
use Rattle.wm_races.specs.Groups.{AreGroupsOf, IsAtByte}
use Rattle.wm_races.specs.Listing.{IsPairAt, event_place, write_place}
use Rattle.wm_races.specs.Races.{Accesses, ComesBefore, IsRacingPair, first_common}
use Rattle.wm_races.specs.Races.ComesBefore.{by_byte, by_write}
use Rattle.wm_races.specs.Window.{AreRacingWrites}
use Rattle.wm_races.specs.declared.group.Group.{Group}
use Rattle.wm_races.specs.declared.pair.RacingPair.{RacingPair}
use Rattle.wm_races.specs.declared.site.Site.{Site}
use Rattle.wm_races.proofs.GroupLemmas.{groups_append, groups_none, groups_one, groups_same, single}
use Rattle.wm_races.proofs.RaceLemmas.{first-accessed, stands}

-- one of the first of the writes is at this place
abbrev pub IsAmong : List ByteWrite → ℕ → ℕ → Type 0
IsAmong writes count place = (k : ℕ) × (k < count) × ((w : ByteWrite) × (slice_get writes k ≡ Some w) × (w.place ≡ place))

-- a pair of the event at a place, at a byte before this one
abbrev pub IsBelowByte : LoggedRun → ℕ → ℕ → RacingPair → Type 0
IsBelowByte run place byte p = (event_place run p ≡ place) × (first_common (execution run) p < byte)

-- or at this one, with one of the first of some writes
abbrev pub IsOfWrites : LoggedRun → ℕ → ℕ → List ByteWrite → ℕ → RacingPair → Type 0
IsOfWrites run place byte writes count p = IsAtByte run place byte p × IsAmong writes count (write_place run p)

-- a listed write is by an event that passes the test
listed-by : (p : EventKey → Bool) (a n : ℕ) (keys : List EventKey) (i : ℕ) (w : ByteWrite) → slice_get (listed_from p a n keys) i ≡ Some w
    → (m : ℕ) × ((key : EventKey) × (w.place ≡ m + n) × (slice_get keys m ≡ Some key) × (p key ≡ true))
listed-by p a n [] i w at = absurd (cc)
listed-by p a n (k ∷ keys) i w at = by (p k) refl i at (λ i at. listed-by p a (n + 1) keys i w at)
  where
    later : (m : ℕ) × ((key : EventKey) × (w.place ≡ m + (n + 1)) × (slice_get keys m ≡ Some key) × (p key ≡ true)) → (m : ℕ) × ((key : EventKey) × (w.place ≡ m + n) × (slice_get (k ∷ keys) m ≡ Some key) × (p key ≡ true))
    later (m, (key, e, found, passes)) = (suc m, (key, omega (arith, e), found, passes))

    by : (b : Bool) → p k ≡ b → (i : ℕ) → slice_get (if b then record { address = a; place = n } ∷ listed_from p a (n + 1) keys else listed_from p a (n + 1) keys) i ≡ Some w
        → ((i : ℕ) → slice_get (listed_from p a (n + 1) keys) i ≡ Some w → (m : ℕ) × ((key : EventKey) × (w.place ≡ m + (n + 1)) × (slice_get keys m ≡ Some key) × (p key ≡ true)))
        → (m : ℕ) × ((key : EventKey) × (w.place ≡ m + n) × (slice_get (k ∷ keys) m ≡ Some key) × (p key ≡ true))
    by true passes zero at rest = (0, (k, (let e = ap (λ (b : ByteWrite). b.place) (same_Some (record { address = a; place = n }) w at) in omega (arith, e)), refl, passes))
    by true passes (suc i) at rest = later (rest i at)
    by false fails i at rest = later (rest i at)

pub listed-writes : (log : List ThreadLog) (a : ℕ) (order : List EventKey) (i : ℕ) (w : ByteWrite) (key : EventKey) → slice_get (writes_from log a 0 order) i ≡ Some w
    → slice_get order w.place ≡ Some key → writes_byte log a key ≡ true
listed-writes log a order i w key at at_key =
    let b = listed-by (writes_byte log a) a 0 order i w at in
    let e : w.place ≡ b.0 = (let f = b.1.1 in omega (arith, f)) in
    let same : b.1.0 ≡ key = same_Some b.1.0 key (sym b.1.2 ∙ ap (slice_get order) (sym e) ∙ at_key) in
    ap (writes_byte log a) (sym same) ∙ b.1.3

pub few_bytes : (w : AccessWidth) → bytes_of w ≤ 8
few_bytes One = omega arith
few_bytes Two = omega arith
few_bytes Four = omega arith
few_bytes Eight = omega arith

module _ (run : LoggedRun) (sites : List (List Site)) (j a : ℕ) (writes : List ByteWrite) where
  pub of_no_write : (p : RacingPair) → IsOfWrites run j a writes 0 p → ⊥
  of_no_write p is = let l = is.1.1 in omega (arith, l)

  more_writes : (i : ℕ) (p : RacingPair) → IsOfWrites run j a writes i p → IsOfWrites run j a writes (i + 1) p
  more_writes i p (at, (k, l, w)) = (at, (k, omega (arith, l), w))

  module _ (i : ℕ) (w : ByteWrite) (at : slice_get writes i ≡ Some w) where
    either_write : (p : RacingPair) → IsRacingPair (execution run) p → IsOfWrites run j a writes (i + 1) p → IsOfWrites run j a writes i p ⊎ IsPairAt run j a w.place p
    either_write p racing (at_byte, (k, l, (v, at_v, place_v))) = ⊎_elim
        (λ (h : k < i). inl (at_byte, (k, h, (v, at_v, place_v))))
        (λ (h : i ≤ k).
        let e : i ≡ k = omega (arith, h, l) in
        let s : w ≡ v = same_Some w v (sym at ∙ ap (slice_get writes) e ∙ at_v) in
        inr (racing, at_byte.0, at_byte.1, sym (ap (λ (u : ByteWrite). u.place) s ∙ place_v)))
        (cases_lt k i)

    pub write_none : (groups : List Group) → ((p : RacingPair) → IsPairAt run j a w.place p → ⊥) → AreGroupsOf run sites (IsOfWrites run j a writes i) groups → AreGroupsOf run sites (IsOfWrites run j a writes (i + 1)) groups
    write_none groups none is = groups_same run sites (IsOfWrites run j a writes i) (IsOfWrites run j a writes (i + 1)) groups
        (λ p racing h. more_writes i p h)
        (λ p racing h. ⊎_elim (λ (l : IsOfWrites run j a writes i p). l) (λ (r : IsPairAt run j a w.place p). absurd (none p r)) (either_write p racing h))
        is

    pub write_some : (rises : (i j : ℕ) (v w : ByteWrite) → i < j → slice_get writes i ≡ Some v → slice_get writes j ≡ Some w → v.place < w.place) (q : RacingPair) (groups : List Group)
        → IsPairAt run j a w.place q → ((p : RacingPair) → IsPairAt run j a w.place p → p ≡ q)
        → AreGroupsOf run sites (IsOfWrites run j a writes i) groups → AreGroupsOf run sites (IsOfWrites run j a writes (i + 1)) (groups ++ single q w.place ∷ [])
    write_some rises q groups (racing, by_event, by_first, by_place) one is =
        groups_append run sites (IsOfWrites run j a writes i) (λ p. p ≡ q) (IsOfWrites run j a writes (i + 1)) groups (single q w.place ∷ [])
        (λ p r racing_p racing_r h e. subst (ComesBefore (execution run) p) (sym e) (before p h))
        (λ p racing_p h. more_writes i p h)
        (λ p racing_p e. subst (IsOfWrites run j a writes (i + 1)) (sym e) ((by_event, by_first), (i, omega arith, (w, at, sym by_place))))
        (λ p racing_p h. ⊎_elim (λ (l : IsOfWrites run j a writes i p). inl l) (λ (r : IsPairAt run j a w.place p). inr (one p r)) (either_write p racing_p h))
        is (groups_one run sites q w.place racing)
      where
        before : (p : RacingPair) → IsOfWrites run j a writes i p → ComesBefore (execution run) p q
        before p ((at_p, e), (k, below, (v, at_v, place_v))) =
            let r = rises k i v w below at_v at in
            by_write (at_p ∙ sym by_event) (e ∙ sym by_first) (omega (arith, r, place_v, by_place))

  pub writes_done : (i : ℕ) (groups : List Group) → AreRacingWrites run j a writes → length writes ≤ i → AreGroupsOf run sites (IsOfWrites run j a writes i) groups → AreGroupsOf run sites (IsAtByte run j a) groups
  writes_done i groups racing all is = groups_same run sites (IsOfWrites run j a writes i) (IsAtByte run j a) groups
      (λ p racing_p h. h.0)
      (λ p racing_p h.
      let w = racing.all p racing_p h.0 h.1 in
      let within = slice_get_within writes w.0 w.1.0 w.1.1 in
      (h, (w.0, omega (arith, within, all), w.1)))
      is

-- the races at one byte more
pub byte_more : (run : LoggedRun) (sites : List (List Site)) (j a : ℕ) (groups more : List Group) → AreGroupsOf run sites (IsBelowByte run j a) groups → AreGroupsOf run sites (IsAtByte run j a) more
    → AreGroupsOf run sites (IsBelowByte run j (a + 1)) (groups ++ more)
byte_more run sites j a groups more first second = groups_append run sites (IsBelowByte run j a) (IsAtByte run j a) (IsBelowByte run j (a + 1)) groups more
    (λ p q racing_p racing_q h k. let l = h.1 in let e = k.1 in by_byte (h.0 ∙ sym k.0) (omega (arith, l, e)))
    (λ p racing h. (h.0, (let l = h.1 in omega (arith, l))))
    (λ p racing h. (h.0, (let l = h.1 in omega (arith, l))))
    (λ p racing h. ⊎_elim
    (λ (l : first_common (execution run) p < a). inl (h.0, l))
    (λ (l : a ≤ first_common (execution run) p). let k = h.1 in inr (h.0, omega (arith, l, k)))
    (cases_lt (first_common (execution run) p) a))
    first second

module _ (run : LoggedRun) (once : ListsEachOnce run.log run.witness.order) (e : Event) (j : ℕ) (listed : event_in run.log (key_of e) ≡ Some e) (at_e : slice_get run.witness.order j ≡ Some (key_of e)) where
  -- a pair of the event's place is one of the event
  pub event-is : (p : RacingPair) (racing : IsRacingPair (execution run) p) → event_place run p ≡ j → racing.race.first ≡ e
  event-is p racing by_event =
      let at_p : slice_get run.witness.order j ≡ Some p.event = stands run once p.event racing.race.first j racing.race.is_first by_event in
      let same : p.event ≡ key_of e = same_Some p.event (key_of e) (sym at_p ∙ at_e) in
      same_Some racing.race.first e (sym racing.race.is_first ∙ ap (event_in run.log) same ∙ listed)

  accessed : (p : RacingPair) (racing : IsRacingPair (execution run) p) → event_place run p ≡ j → Accesses e (first_common (execution run) p)
  accessed p racing by_event = subst (λ (f : Event). Accesses f (first_common (execution run) p)) (event-is p racing by_event) (first-accessed run once p racing)

  pub byte_init : (sites : List (List Site)) → AreGroupsOf run sites (IsBelowByte run j (e.address + 0)) []
  byte_init sites = groups_none run sites (IsBelowByte run j (e.address + 0)) (λ p racing h. let l = (accessed p racing h.0).0 in let k = h.1 in omega (arith, l, k))

  pub byte_done : (sites : List (List Site)) (n : ℕ) (groups : List Group) → bytes_of e.width ≤ n → AreGroupsOf run sites (IsBelowByte run j (e.address + n)) groups → AreGroupsOf run sites (λ p. event_place run p ≡ j) groups
  byte_done sites n groups all is = groups_same run sites (IsBelowByte run j (e.address + n)) (λ p. event_place run p ≡ j) groups
      (λ p racing h. h.0)
      (λ p racing h. (h, (let l = (accessed p racing h).1 in omega (arith, l, all))))
      is

  -- there is one pair at a byte with a write
  pub one-pair : (a o : ℕ) (p q : RacingPair) → IsPairAt run j a o p → IsPairAt run j a o q → p ≡ q
  one-pair a o p q (racing_p, event_p, byte_p, write_p) (racing_q, event_q, byte_q, write_q) =
      let s : p.event ≡ q.event = same_Some p.event q.event (sym (stands run once p.event racing_p.race.first j racing_p.race.is_first event_p) ∙ stands run once q.event racing_q.race.first j racing_q.race.is_first event_q) in
      let t : p.write ≡ q.write = same_Some p.write q.write (sym (stands run once p.write racing_p.race.second o racing_p.race.is_second write_p) ∙ stands run once q.write racing_q.race.second o racing_q.race.is_second write_q) in
      λ i. record { event = s i; write = t i }
