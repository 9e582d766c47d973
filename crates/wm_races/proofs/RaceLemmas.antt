-- Racing pairs by the places of their events.
use Rattle.std.proofs.Common.{◌≡◌, ℕ, ◌+◌, ◌-◌, ◌<◌, ◌≤◌, ◌&&◌, true, false, max, slice_get, Some, is_some, IsTrue, sym, ap, ◌∙◌, subst, arith, inl, inr, ⊎_elim}
use Rattle.std.specs.Prelude.{nat_le, nat_lt, option_and_then}
use Rattle.std.specs.Option.{option_map_or}
use Rattle.std.proofs.lemmas.Bool.{and_parts, and_from}
use Rattle.std.proofs.lemmas.Option.{same_Some}
use borrow.Author.Tests.{tests}
use Rattle.wm_access.specs.AccessWidth.{bytes_of}
use Rattle.wm_event.specs.declared.event.Event.{Event}
use Rattle.wm_event.specs.declared.event.EventKey.{EventKey}
use Rattle.wm_event.specs.Byte.{byte_of}
use Rattle.wm_event.specs.Event.{byte_written, key_of, writes}
use Rattle.wm_event.specs.Log.{event_in}
use Rattle.wm_event.specs.LoggedRun.{LoggedRun, execution}
use Rattle.wm_event.specs.Shape.{ListsEachOnce}
use Rattle.wm_event.specs.Writes.{writes_byte}
use Rattle.wm_event.proofs.PlaceLemmas.{position_listed}
use Rattle.wm_event.proofs.WritesLemmas.{is_some_if}
use Rattle.wm_hb.proofs.FaultLemmas.{some_of}
use Rattle.wm_races.specs.Listing.{IsNamed, IsPairAt}
use Rattle.wm_races.specs.Races.{Accesses, IsRacingPair, IsUnordered, IsWeak, Overlap, Race, address_of, first_common}
use Rattle.wm_races.specs.declared.pair.RacingPair.{RacingPair}

-- the first byte of two ranges that overlap is in both
pub overlap-first : (a b : Event) → Overlap a b → Accesses a (max a.address b.address) × Accesses b (max a.address b.address)
overlap-first a b (address, (la, ha), (lb, hb)) = ((omega arith, omega arith), (omega arith, omega arith))

test-from : (low a high : ℕ) → low ≤ a → a < high → (nat_le low a && nat_lt a high) ≡ true
test-from low a high h l = grind (arith, tests)

test-to : (low a high : ℕ) → (nat_le low a && nat_lt a high) ≡ true → (low ≤ a) × (a < high)
test-to low a high h = let p = and_parts (nat_le low a) (nat_lt a high) h in (grind (arith, tests), grind (arith, tests))

written-byte : (w : Event) (a : ℕ) → is_some (byte_written w a) ≡ (writes w && (nat_le w.address a && nat_lt a (w.address + bytes_of w.width)))
written-byte w a = is_some_if (writes w && (nat_le w.address a && nat_lt a (w.address + bytes_of w.width))) (byte_of w.written (a - w.address))

module _ (run : LoggedRun) (once : ListsEachOnce run.log run.witness.order) where
  -- an event's place is where the order lists it
  pub stands : (key : EventKey) (e : Event) (n : ℕ) → event_in run.log key ≡ Some e → (execution run).place_of key ≡ n → slice_get run.witness.order n ≡ Some key
  stands key e n there at =
      let l = once.listed key (some_of (event_in run.log key) e there) in
      let p : (execution run).place_of key ≡ l.0 = position_listed run.log run.witness.order once l.0 key l.1 in
      let same : l.0 ≡ n = sym p ∙ at in
      subst (λ (m : ℕ). slice_get run.witness.order m ≡ Some key) same l.1

  pub place-is : (n : ℕ) (key : EventKey) → slice_get run.witness.order n ≡ Some key → (execution run).place_of key ≡ n
  place-is n key at = position_listed run.log run.witness.order once n key at

  pub writes_there : (a : ℕ) (key : EventKey) (w : Event) → event_in run.log key ≡ Some w → IsTrue (writes w) → Accesses w a → writes_byte run.log a key ≡ true
  writes_there a key w there is within =
      ap (λ o. is_some (option_and_then (λ e. byte_written e a) o)) there ∙ written-byte w a
      ∙ and_from (writes w) (nat_le w.address a && nat_lt a (w.address + bytes_of w.width)) is (test-from w.address a (w.address + bytes_of w.width) within.0 within.1)

  pub there_writes : (a : ℕ) (key : EventKey) (w : Event) → event_in run.log key ≡ Some w → writes_byte run.log a key ≡ true → IsTrue (writes w) × Accesses w a
  there_writes a key w there is =
      let t : (writes w && (nat_le w.address a && nat_lt a (w.address + bytes_of w.width))) ≡ true = sym (written-byte w a) ∙ sym (ap (λ o. is_some (option_and_then (λ e. byte_written e a) o)) there) ∙ is in
      let p = and_parts (writes w) (nat_le w.address a && nat_lt a (w.address + bytes_of w.width)) t in
      (p.0, test-to w.address a (w.address + bytes_of w.width) p.1)

  pub first-is : (p : RacingPair) (e w : Event) → event_in run.log p.event ≡ Some e → event_in run.log p.write ≡ Some w → first_common (execution run) p ≡ max e.address w.address
  first-is p e w a b =
      let l : address_of (execution run) p.event ≡ e.address = ap (λ o. option_map_or (λ (e : Event). e.address) o 0) a in
      let r : address_of (execution run) p.write ≡ w.address = ap (λ o. option_map_or (λ (e : Event). e.address) o 0) b in
      ap (λ n. max n (address_of (execution run) p.write)) l ∙ ap (λ n. max e.address n) r

  -- the first byte of a racing pair is one that the write writes, and one that the event accesses
  pub first-written : (p : RacingPair) → IsRacingPair (execution run) p → writes_byte run.log (first_common (execution run) p) p.write ≡ true
  first-written p racing =
      let race = racing.race in
      let both = overlap-first race.first race.second race.overlap in
      let e = first-is p race.first race.second race.is_first race.is_second in
      subst (λ (a : ℕ). writes_byte run.log a p.write ≡ true) (sym e) (writes_there (max race.first.address race.second.address) p.write race.second race.is_second racing.write both.1)

  pub first-accessed : (p : RacingPair) (racing : IsRacingPair (execution run) p) → Accesses racing.race.first (first_common (execution run) p)
  first-accessed p racing =
      let race = racing.race in
      let both = overlap-first race.first race.second race.overlap in
      let e = first-is p race.first race.second race.is_first race.is_second in
      subst (Accesses race.first) (sym e) both.0

  module _ (e : Event) (j a o : ℕ) (listed : event_in run.log (key_of e) ≡ Some e) (at_e : slice_get run.witness.order j ≡ Some (key_of e)) where
    -- what is tested of the event and a write
    pub record Meets (key : EventKey) (w : Event) : Type 0 where
      pub named : IsNamed e j o
      pub first : a ≡ max e.address w.address
      pub weak : IsWeak e w
      pub unordered : IsUnordered (execution run) (key_of e) key

    pub record IsMet (p : RacingPair) : Type 0 where
      pub event : p.event ≡ key_of e
      pub at : slice_get run.witness.order o ≡ Some p.write
      pub write : Event
      pub there : event_in run.log p.write ≡ Some write
      pub meets : Meets p.write write

    pub pair-met : (p : RacingPair) → IsPairAt run j a o p → IsMet p
    pair-met p (racing, by_event, by_byte, by_write) =
        let race = racing.race in
        let at_p : slice_get run.witness.order j ≡ Some p.event = stands p.event race.first j race.is_first by_event in
        let at_w : slice_get run.witness.order o ≡ Some p.write = stands p.write race.second o race.is_second by_write in
        let same : p.event ≡ key_of e = same_Some p.event (key_of e) (sym at_p ∙ at_e) in
        let first : race.first ≡ e = same_Some race.first e (sym race.is_first ∙ ap (event_in run.log) same ∙ listed) in
        record {
          event = same;
          at = at_w;
          write = race.second;
          there = race.is_second;
          meets = record {
            named = (
              λ d. race.apart (same_Some p.event p.write (sym at_p ∙ ap (slice_get run.witness.order) (sym d) ∙ at_w)),
              ⊎_elim
                  (λ (r : writes race.first ≡ false). inl (ap writes (sym first) ∙ r))
                  (λ (l : (execution run).place_of p.write < (execution run).place_of p.event). inr (omega (arith, l, by_event, by_write)))
                  racing.event,
            );
            first = sym by_byte ∙ first-is p race.first race.second race.is_first race.is_second ∙ ap (λ (e : Event). max e.address race.second.address) first;
            weak = subst (λ (e : Event). IsWeak e race.second) first race.weak;
            unordered = subst (λ (k : EventKey). IsUnordered (execution run) k p.write) same race.unordered;
          };
        }

    pub met-pair : (key : EventKey) (w : Event) → Accesses e a → slice_get run.witness.order o ≡ Some key → event_in run.log key ≡ Some w → writes_byte run.log a key ≡ true → Meets key w
        → IsPairAt run j a o (record { event = key_of e; write = key })
    met-pair key w byte at_w there is meets =
        let written = there_writes a key w there is in
        let place_e : (execution run).place_of (key_of e) ≡ j = place-is j (key_of e) at_e in
        let place_w : (execution run).place_of key ≡ o = place-is o key at_w in
        let race : Race (execution run) (key_of e) key = record {
          first = e;
          second = w;
          is_first = listed;
          is_second = there;
          apart = λ s. meets.named.0 (sym place_w ∙ ap (execution run).place_of (sym s) ∙ place_e);
          overlap = (a, byte, written.1);
          one_writes = inr written.0;
          weak = meets.weak;
          unordered = meets.unordered;
        } in (
          record {
            race = race;
            write = written.0;
            event = ⊎_elim
                (λ (r : writes e ≡ false). inl r)
                (λ (l : o < j). inr (omega (arith, l, place_e, place_w)))
                meets.named.1;
          },
          place_e,
          first-is (record { event = key_of e; write = key }) e w listed there ∙ sym meets.first,
          place_w,
        )
