use Rattle.std.proofs.Common.{◌≡◌, ℕ, ◌<◌, Some}
use Rattle.std.specs.Prelude.{slice_get}
use Rattle.wm_explore.specs.Values.{Has, OffersInitial, left_at, is_new}
use Rattle.wm_explore.proofs.values.offers.Given as goal

abbrev pub invariant-loop-place : goal.invariant-loop-place
invariant-loop-place l = record {
  initially : OffersInitial l.initial' l.address l.mark l.offers;
  left : (i : ℕ) (place byte : ℕ) → i < l.place-index → slice_get l.writing i ≡ Some place → left_at l.state place l.address ≡ Some byte
      → Has l.offers (record { value = byte; is_new = is_new place l.mark });
}
