-- Where atomic events stand in the order of a valid execution.
use Rattle.std.proofs.Common.{◌≡◌, ℕ, ◌<◌, ◌≤◌, [], inl, inr, Some, IsSome, IsTrue, refl, sym, ap, subst, ◌∙◌, arith}
use Rattle.std.specs.Prelude.{◌≢◌, ◌⊎◌, slice_get}
use Rattle.std.proofs.lemmas.Bool.{cases_eq, cases_lt}
use Rattle.std.proofs.lemmas.Option.{same_Some}
use Rattle.wm_event.specs.Event.{is_atomic, range_of, writes}
use Rattle.wm_event.specs.Execution.{ReadsFrom, place}
use Rattle.wm_event.specs.HappensBefore.{HappensBefore, SynchronizesWith}
use Rattle.wm_event.specs.Log.{event_in}
use Rattle.wm_event.specs.LoggedRun.{LoggedRun, execution}
use Rattle.wm_event.specs.Rules.{IsValid}
use Rattle.wm_event.specs.Rules.Overtakes.{read_past, synchronized}
use Rattle.wm_event.specs.Shape.{IsWellShaped}
use Rattle.wm_event.proofs.PlaceLemmas.{position_listed}
use Rattle.wm_event.specs.declared.event.Event.{Event}
use Rattle.wm_event.specs.declared.event.EventId.{EventId}
use Rattle.wm_event.specs.declared.event.EventId.TheVariants.{Init, At}
use Rattle.wm_event.specs.declared.event.EventKey.{EventKey}
use Rattle.wm_explore.specs.Past.{WouldSynchronize}

module _ (x : LoggedRun) (shaped : IsWellShaped x) (valid : IsValid (execution x)) where
  is_there : (key : EventKey) (e : Event) → event_in x.log key ≡ Some e → IsSome (event_in x.log key)
  is_there key e at = subst (λ o. IsSome o) (sym at) refl

  listed : (key : EventKey) → IsSome (event_in x.log key) → slice_get x.witness.order ((execution x).place_of key) ≡ Some key
  listed key there =
      let l = shaped.order.listed key there in
      subst (λ n. slice_get x.witness.order n ≡ Some key) (sym (position_listed x.log x.witness.order shaped.order l.0 key l.1)) l.1

  -- two events don't stand at one place
  one_place : (a b : EventKey) → IsSome (event_in x.log a) → IsSome (event_in x.log b) → (execution x).place_of a ≡ (execution x).place_of b → a ≡ b
  one_place a b there_a there_b same = same_Some a b (sym (listed a there_a) ∙ ap (slice_get x.witness.order) same ∙ listed b there_b)

  -- an atomic read synchronizes with what it takes a byte from
  synchronizes : (r u : EventKey) (e : Event) (k : ℕ) → event_in x.log r ≡ Some e → IsTrue (is_atomic e) → WouldSynchronize x.log e (At u) → ReadsFrom (execution x) r k (At u) → SynchronizesWith (execution x) u r
  synchronizes r u e k at atomic like from = record {
    writer = like.0;
    reader = e;
    is_writer = like.1;
    is_reader = at;
    writer_atomic = like.2;
    reader_atomic = atomic;
    ranges = like.3;
    reads = (k, from);
  }

  -- so that happens before it
  pub source_before : (r : EventKey) (e : Event) (k : ℕ) (w : EventId) → event_in x.log r ≡ Some e → IsTrue (is_atomic e) → WouldSynchronize x.log e w → ReadsFrom (execution x) r k w
      → HappensBefore (execution x) w (At r)
  source_before r e k Init at atomic like from = ([], is_there r e at)
  source_before r e k (At u) at atomic like from = ([], inr (synchronizes r u e k at atomic like from))

  -- and it stands before an atomic write of its range that stands after its source
  pub stands_before : (r v : EventKey) (e f : Event) (k : ℕ) (w : EventId) → event_in x.log r ≡ Some e → IsTrue (is_atomic e) → WouldSynchronize x.log e w → ReadsFrom (execution x) r k w
      → event_in x.log v ≡ Some f → IsTrue (is_atomic f) → IsTrue (writes f) → range_of f ≡ range_of e → v ≢ r → place (execution x) w < place (execution x) (At v) → place (execution x) (At r) < place (execution x) (At v)
  stands_before r v e f k w at_r atomic like from at_v atomic_v writing same not after = by (cases_lt (place (execution x) (At v)) (place (execution x) (At r)))
    where
      between : (w : EventId) → WouldSynchronize x.log e w → ReadsFrom (execution x) r k w → place (execution x) w < place (execution x) (At v) → place (execution x) (At v) < place (execution x) (At r) → ⊥
      between Init like from after less =
          valid.keeps_sequential_consistency r e k Init at_r from (At v) 3 (f, at_v, atomic_v, writing) after less (read_past refl atomic ([], is_there r e at_r) ([], is_there v f at_v) (f, at_v, same))
      between (At u) like from after less =
          valid.keeps_sequential_consistency r e k (At u) at_r from (At v) 1 (f, at_v, atomic_v, writing) after less (synchronized refl u refl (synchronizes r u e k at_r atomic like from) (f, at_v, same))

      further : ((execution x).place_of v ≡ (execution x).place_of r) ⊎ ((execution x).place_of v ≢ (execution x).place_of r) → place (execution x) (At r) ≤ place (execution x) (At v) → place (execution x) (At r) < place (execution x) (At v)
      further (inl one) most = absurd (not (one_place v r (is_there v f at_v) (is_there r e at_r) one))
      further (inr apart) most = omega (arith, apart, most)

      by : (place (execution x) (At v) < place (execution x) (At r)) ⊎ (place (execution x) (At r) ≤ place (execution x) (At v)) → place (execution x) (At r) < place (execution x) (At v)
      by (inl less) = absurd (between w like from after less)
      by (inr most) = further (cases_eq ((execution x).place_of v) ((execution x).place_of r)) most
