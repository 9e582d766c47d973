-- Places before or after which the writes of a byte are ordered with an event.
use Rattle.std.proofs.Common.{◌≡◌, ℕ, ◌+◌, ◌<◌, ◌≤◌, List, Bool, true, false, length, slice_get, Some, is_some, refl, sym, ap, ◌∙◌, subst, arith, ◌⊎◌, inl, inr, ⊎_elim}
use Rattle.std.specs.List.{filter}
use Rattle.std.proofs.lemmas.Bool.{cases_lt, false≢true}
use Rattle.std.proofs.lemmas.Option.{same_Some, slice_get_within}
use Rattle.wm_event.specs.declared.event.Event.{Event}
use Rattle.wm_event.specs.declared.event.EventKey.{EventKey}
use Rattle.wm_event.specs.declared.event.EventId.{EventId}
use Rattle.wm_event.specs.declared.event.EventId.TheVariants.{Init, At}
use Rattle.wm_event.specs.declared.writes.ByteWrite.{ByteWrite}
use Rattle.wm_event.specs.Event.{key_of, writes}
use Rattle.wm_event.specs.Execution.{place}
use Rattle.wm_event.specs.HappensBefore.{HappensBefore}
use Rattle.wm_event.specs.Limits.{max_events}
use Rattle.wm_event.specs.Log.{HasKeys, event_in}
use Rattle.wm_event.specs.LoggedRun.{LoggedRun, execution}
use Rattle.wm_event.specs.Rules.{KeepsOrder}
use Rattle.wm_event.specs.Shape.{IsListedAt, ListsEachOnce}
use Rattle.wm_event.specs.Writes.{writes_byte, writes_from}
use Rattle.wm_event.proofs.LogLemmas.{thread_inside}
use Rattle.wm_event.proofs.WritesLemmas.{in_filter}
use Rattle.wm_hb.specs.Between.{stands_between}
use Rattle.wm_hb.proofs.BetweenLemmas.{between, rises_kept}
use Rattle.wm_hb.proofs.FilterLemmas.{from_filter}
use Rattle.wm_hb.proofs.ThreadLemmas.{event_among, in_sequence, thread_ids}
use Rattle.wm_races.specs.Bounds.{IsEnd, IsEndFor, IsStart, IsWriteBy}
use Rattle.wm_races.specs.Listing.{event_place, write_place}
use Rattle.wm_races.specs.Races.{IsRacingPair, first_common}
use Rattle.wm_races.specs.Window.{AreRacingWrites}
use Rattle.wm_races.specs.declared.pair.RacingPair.{RacingPair}
use Rattle.wm_races.proofs.RaceLemmas.{first-written, place-is, stands}
use Rattle.wm_races.proofs.ScanLemmas.{event-is}
use Rattle.wm_races.proofs.WindowLemmas.{racing_all}

-- where an id is listed is inside the list
pub listed_inside : (order : List EventKey) (id : EventId) (n : ℕ) → IsListedAt order n id → n < length order
listed_inside order Init n h = absurd h
listed_inside order (At key) n h = slice_get_within order n key h

-- of the writes of one thread
module _ (run : LoggedRun) (once : ListsEachOnce run.log run.witness.order) (keys : HasKeys run.log) (t a : ℕ) (event : EventId) (count : ℕ) where
  among : (n : ℕ) (w : EventKey) → IsWriteBy run (λ s. s ≡ t) a n w → (i : ℕ) × (slice_get (thread_ids run keys t (writes_byte run.log a)) i ≡ Some (At w))
  among n w is = event_among run keys t (writes_byte run.log a) w is.by_thread (once.events n w is.listed) is.written

  placed : (n : ℕ) (w : EventKey) → IsWriteBy run (λ s. s ≡ t) a n w → place (execution run) (At w) ≡ 1 + n
  placed n w is = ap (λ m. 1 + m) (place-is run once n w is.listed)

  module _ (before : (i : ℕ) (v : EventId) → i < count → slice_get (thread_ids run keys t (writes_byte run.log a)) i ≡ Some v → HappensBefore (execution run) v event) where
    pub start_all : length (thread_ids run keys t (writes_byte run.log a)) ≤ count → (start : ℕ) → IsStart run (λ s. s ≡ t) a event start
    start_all all start n w l is =
        let i = among n w is in
        let within = slice_get_within (thread_ids run keys t (writes_byte run.log a)) i.0 (At w) i.1 in
        before i.0 (At w) (omega (arith, within, all)) i.1

    pub start_at : KeepsOrder (execution run) → (v : EventId) → slice_get (thread_ids run keys t (writes_byte run.log a)) count ≡ Some v → (start : ℕ) → (start ≡ 0) ⊎ (place (execution run) v ≡ start + 1) → IsStart run (λ s. s ≡ t) a event start
    start_at agrees v at start (inl zero) n w l is = absurd (omega (arith, l, zero))
    start_at agrees v at start (inr here) n w l is =
        let i = among n w is in
        let p = placed n w is in
        ⊎_elim
        (λ (h : i.0 < count). before i.0 (At w) h i.1)
        (λ (h : count ≤ i.0). ⊎_elim
        (λ (k : count < i.0).
        let later = agrees v (At w) (in_sequence run keys t (writes_byte run.log a) count i.0 v (At w) k at i.1) in
        absurd (omega (arith, later, here, p, l)))
        (λ (k : i.0 ≤ count).
        let e : count ≡ i.0 = omega (arith, h, k) in
        let same : v ≡ At w = same_Some v (At w) (sym at ∙ ap (slice_get (thread_ids run keys t (writes_byte run.log a))) e ∙ i.1) in
        let q = ap (place (execution run)) same in
        absurd (omega (arith, here, p, q, l)))
        (cases_lt count i.0))
        (cases_lt i.0 count)

  module _ (after : (i : ℕ) (v : EventId) → count ≤ i → slice_get (thread_ids run keys t (writes_byte run.log a)) i ≡ Some v → HappensBefore (execution run) event v) where
    pub end_none : count ≡ 0 → IsEnd run (λ s. s ≡ t) a event 0
    end_none zero n w l is = let i = among n w is in after i.0 (At w) (omega (arith, zero)) i.1

    pub end_at : KeepsOrder (execution run) → length run.witness.order ≤ max_events → (last : ℕ) (v : EventId) → last + 1 ≡ count → slice_get (thread_ids run keys t (writes_byte run.log a)) last ≡ Some v
        → (end : ℕ) → (max_events ≤ end) ⊎ (place (execution run) v ≡ end) → IsEnd run (λ s. s ≡ t) a event end
    end_at agrees few last v next at end (inl most) n w l is =
        let within = slice_get_within run.witness.order n w is.listed in
        absurd (omega (arith, few, most, l, within))
    end_at agrees few last v next at end (inr here) n w l is =
        let i = among n w is in
        let p = placed n w is in
        ⊎_elim
        (λ (h : i.0 < count). ⊎_elim
        (λ (k : i.0 < last).
        let earlier = agrees (At w) v (in_sequence run keys t (writes_byte run.log a) i.0 last (At w) v k i.1 at) in
        absurd (omega (arith, earlier, here, p, l)))
        (λ (k : last ≤ i.0).
        let e : last ≡ i.0 = omega (arith, h, k, next) in
        let same : v ≡ At w = same_Some v (At w) (sym at ∙ ap (slice_get (thread_ids run keys t (writes_byte run.log a))) e ∙ i.1) in
        let q = ap (place (execution run)) same in
        absurd (omega (arith, here, p, q, l)))
        (cases_lt i.0 last))
        (λ (h : count ≤ i.0). after i.0 (At w) h i.1)
        (cases_lt i.0 count)

-- of one thread more
split : (t s : ℕ) → s < t + 1 → (s < t) ⊎ (s ≡ t)
split t s l = ⊎_elim (λ (h : s < t). inl h) (λ (h : t ≤ s). inr (omega (arith, l, h))) (cases_lt s t)

by_other : (run : LoggedRun) (P Q : ℕ → Type 0) (a n : ℕ) (w : EventKey) → IsWriteBy run P a n w → Q w.thread → IsWriteBy run Q a n w
by_other run P Q a n w is q = record { listed = is.listed; by_thread = q; written = is.written }

pub start_more : (run : LoggedRun) (t a : ℕ) (event : EventId) (start next least : ℕ) → least ≤ start → least ≤ next → IsStart run (λ s. s < t) a event start → IsStart run (λ s. s ≡ t) a event next
    → IsStart run (λ s. s < t + 1) a event least
start_more run t a event start next least low low2 all one n w l is = ⊎_elim
    (λ (h : w.thread < t). all n w (omega (arith, l, low)) (by_other run (λ s. s < t + 1) (λ s. s < t) a n w is h))
    (λ (h : w.thread ≡ t). one n w (omega (arith, l, low2)) (by_other run (λ s. s < t + 1) (λ s. s ≡ t) a n w is h))
    (split t w.thread is.by_thread)

pub end_more : (run : LoggedRun) (t a : ℕ) (event : EventId) (end next most : ℕ) → end ≤ most → next ≤ most → IsEnd run (λ s. s < t) a event end → IsEnd run (λ s. s ≡ t) a event next
    → IsEnd run (λ s. s < t + 1) a event most
end_more run t a event end next most high high2 all one n w l is = ⊎_elim
    (λ (h : w.thread < t). all n w (omega (arith, l, high)) (by_other run (λ s. s < t + 1) (λ s. s < t) a n w is h))
    (λ (h : w.thread ≡ t). one n w (omega (arith, l, high2)) (by_other run (λ s. s < t + 1) (λ s. s ≡ t) a n w is h))
    (split t w.thread is.by_thread)

-- the writes of a byte between the two places are those that may race
module _ (run : LoggedRun) (once : ListsEachOnce run.log run.witness.order) (e : Event) (j : ℕ) (listed : event_in run.log (key_of e) ≡ Some e) (at_e : slice_get run.witness.order j ≡ Some (key_of e)) where
  pub racing_between : (a start end : ℕ) → IsStart run (λ t. t < length run.log) a (At (key_of e)) start → IsEndFor run (λ t. t < length run.log) e j a end
      → AreRacingWrites run j a (filter (stands_between start end) (writes_from run.log a 0 run.witness.order))
  racing_between a start end from to = record {
    written = λ i w key at at_key. let k = from_filter passes all i w at in whole.written k.0 w key k.1 at_key;
    rises = rises_kept passes all whole.rises;
    all = λ p racing here d.
        let k = whole.all p racing here d in
        let w = k.1.0 in
        let q = in_filter passes all k.0 w k.1.1 (between start end w.place w.address
        (⊎_elim (λ (l : w.place < start). absurd (early p racing here d (omega (arith, l, k.1.2)))) (λ (l : start ≤ w.place). l) (cases_lt w.place start))
        (⊎_elim (λ (l : w.place < end). l) (λ (l : end ≤ w.place). absurd (late p racing here d to (omega (arith, l, k.1.2)))) (cases_lt w.place end))) in
        (q.0, (w, q.1, k.1.2));
  }
    where
      passes : ByteWrite → Bool
      passes = stands_between start end

      all : List ByteWrite
      all = writes_from run.log a 0 run.witness.order

      whole : AreRacingWrites run j a all
      whole = racing_all run once j a

      is_write : (p : RacingPair) → IsRacingPair (execution run) p → first_common (execution run) p ≡ a → IsWriteBy run (λ t. t < length run.log) a (write_place run p) p.write
      is_write p racing d = record {
        listed = stands run once p.write racing.race.second (write_place run p) racing.race.is_second refl;
        by_thread = thread_inside run.log p.write (ap is_some racing.race.is_second);
        written = subst (λ (b : ℕ). writes_byte run.log b p.write ≡ true) d (first-written run once p racing);
      }

      same_key : (p : RacingPair) → IsRacingPair (execution run) p → event_place run p ≡ j → p.event ≡ key_of e
      same_key p racing here = same_Some p.event (key_of e) (sym (stands run once p.event racing.race.first j racing.race.is_first here) ∙ at_e)

      early : (p : RacingPair) → IsRacingPair (execution run) p → event_place run p ≡ j → first_common (execution run) p ≡ a → write_place run p < start → ⊥
      early p racing here d l =
          let h = from (write_place run p) p.write l (is_write p racing d) in
          racing.race.unordered.1 (subst (λ (k : EventKey). HappensBefore (execution run) (At p.write) (At k)) (sym (same_key p racing here)) h)

      late : (p : RacingPair) → IsRacingPair (execution run) p → event_place run p ≡ j → first_common (execution run) p ≡ a → IsEndFor run (λ t. t < length run.log) e j a end → end ≤ write_place run p → ⊥
      late p racing here d (inl stops) l =
          let first : racing.race.first ≡ e = event-is run once e j listed at_e p racing here in
          let is = stops.1 in
          ⊎_elim
          (λ (r : writes racing.race.first ≡ false). false≢true (sym r ∙ ap writes first ∙ stops.0))
          (λ (r : write_place run p < event_place run p). absurd (omega (arith, r, here, is, l)))
          racing.event
      late p racing here d (inr after) l =
          let h = after (write_place run p) p.write l (is_write p racing d) in
          racing.race.unordered.0 (subst (λ (k : EventKey). HappensBefore (execution run) (At k) (At p.write)) (sym (same_key p racing here)) h)
