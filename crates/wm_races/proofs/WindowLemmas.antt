-- The writes of a byte that may race with an event.
use Rattle.std.proofs.Common.{◌≡◌, ◌≢◌, ℕ, ◌+◌, [], max, slice_get, Some, true, refl, sym, ap, ◌∙◌, subst, arith}
use Rattle.wm_event.specs.declared.event.Event.{Event}
use Rattle.wm_event.specs.declared.writes.ByteWrite.{ByteWrite}
use Rattle.wm_event.specs.Event.{key_of}
use Rattle.wm_event.specs.Log.{event_in}
use Rattle.wm_event.specs.LoggedRun.{LoggedRun, execution}
use Rattle.wm_event.specs.Shape.{ListsEachOnce}
use Rattle.wm_event.specs.Writes.{writes_byte, writes_from}
use Rattle.wm_event.proofs.WritesLemmas.{rises_from, write_listed}
use Rattle.wm_races.specs.Listing.{event_place, write_place}
use Rattle.wm_races.specs.Races.{IsRacingPair, first_common}
use Rattle.wm_races.specs.Window.{AreRacingWrites, HasBegins, IsAmongBegins}
use Rattle.wm_races.specs.declared.begins.Begins.{Begins}
use Rattle.wm_races.specs.declared.pair.RacingPair.{RacingPair}
use Rattle.wm_races.proofs.RaceLemmas.{first-is, first-written, stands}
use Rattle.wm_races.proofs.ScanLemmas.{event-is, listed-writes}

-- all writes of a byte are such
pub racing_all : (run : LoggedRun) → ListsEachOnce run.log run.witness.order → (j a : ℕ) → AreRacingWrites run j a (writes_from run.log a 0 run.witness.order)
racing_all run once j a = record {
  written = λ i w key at at_key. listed-writes run.log a run.witness.order i w key at at_key;
  rises = λ m n v w l at_v at_w. rises_from (writes_byte run.log a) a 0 run.witness.order m n v w l at_v at_w;
  all = λ p racing here d.
      let n = write_place run p in
      let at : slice_get run.witness.order n ≡ Some p.write = stands run once p.write racing.race.second n racing.race.is_second refl in
      let w = write_listed (writes_byte run.log a) a 0 run.witness.order n p.write at (subst (λ (b : ℕ). writes_byte run.log b p.write ≡ true) d (first-written run once p racing)) in
      (w.0, (record { address = a; place = 0 + n }, w.1, (let z : 0 + n ≡ n = omega arith in z)));
}

module _ (run : LoggedRun) (once : ListsEachOnce run.log run.witness.order) (e : Event) (j : ℕ) (listed : event_in run.log (key_of e) ≡ Some e) (at_e : slice_get run.witness.order j ≡ Some (key_of e)) where
  -- at a byte after the event's first one the write of a racing pair begins
  begins_there : (a : ℕ) → a ≢ e.address → (p : RacingPair) (racing : IsRacingPair (execution run) p) → event_place run p ≡ j → first_common (execution run) p ≡ a → a ≡ racing.race.second.address
  begins_there a other p racing here d =
      let race = racing.race in
      let first = event-is run once e j listed at_e p racing here in
      let address : race.first.address ≡ e.address = ap (λ (f : Event). f.address) first in
      let most : first_common (execution run) p ≡ max race.first.address race.second.address = first-is run once p race.first race.second race.is_first race.is_second in
      larger a race.first.address e.address race.second.address other address (sym d ∙ most)
    where
      larger : (a f e w : ℕ) → a ≢ e → f ≡ e → a ≡ max f w → a ≡ w
      larger a f e w other same is = grind arith

  -- so there is no racing pair if no write begins there
  pub racing_none : (begins : Begins) (a : ℕ) → HasBegins run begins → a ≢ e.address → (IsAmongBegins begins a → ⊥) → AreRacingWrites run j a []
  racing_none begins a has other none = record {
    written = λ i w key at at_key. absurd (nothing i w at);
    rises = λ m n v w l at_v at_w. absurd (nothing m v at_v);
    all = λ p racing here d.
        let there = has p.write racing.race.second racing.race.is_second racing.write in
        absurd (none (subst (IsAmongBegins begins) (sym (begins_there a other p racing here d)) there));
  }
    where
      nothing : (i : ℕ) (w : ByteWrite) → slice_get [] i ≡ Some w → ⊥
      nothing i w h = cc
