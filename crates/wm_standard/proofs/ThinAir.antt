-- Two overlapping updates that each take their value from the other.
use Rattle.std.proofs.Common.{◌≡◌, ◌<◌, length, refl, sym, ap, subst, arith}
use Rattle.wm_event.specs.declared.event.EventKey.{EventKey}
use Rattle.wm_event.specs.declared.event.EventId.TheVariants.{At}
use Rattle.wm_event.specs.Execution.{ReadsFrom}
use Rattle.wm_event.specs.Rules.{IsValid}
use Rattle.wm_event.specs.Shape.{IsWellShaped}
use Rattle.wm_event.specs.LoggedRun.{LoggedRun, execution}
use Rattle.wm_standard.specs.Agreement.{Ends, ValuesEnd}
use Rattle.wm_standard.specs.Agreement.Ends.{ends}
use Rattle.wm_standard.specs.Needed.{ValuesOutOfThinAir}
use Rattle.wm_standard.proofs.Existence.{agrees-in-some-order}
use Rattle.wm_standard.proofs.TwoUpdates.{key, run, shaped, update, valid, wide_update}

abbrev thin_air : LoggedRun
thin_air = run 42 42 42 (At (key 1)) (At (key 0))

-- a chain of updates goes on for ever
goes-on : {r : EventKey} → Ends (execution thin_air) r → (r ≡ key 0 → ⊥) × (r ≡ key 1 → ⊥)
goes-on {r} (ends next) = (
  λ s. (goes-on (next 0 (key 1) (wide_update 42 42 42 (At (key 1)) (At (key 0))) (subst (λ r. ReadsFrom (execution thin_air) r 0 (At (key 1))) (sym s) refl) refl refl)).1 refl,
  λ s. (goes-on (next 0 (key 0) (update 42 42 42 (At (key 1)) (At (key 0))) (subst (λ r. ReadsFrom (execution thin_air) r 0 (At (key 0))) (sym s) refl) refl refl)).0 refl,
)

is-shaped : IsWellShaped thin_air
is-shaped = shaped 42 42 42 (At (key 1)) (At (key 0)) (omega arith) (omega arith) (omega arith) refl refl

is-valid : IsValid (execution thin_air)
is-valid = valid 42 42 42 (At (key 1)) (At (key 0))
    (λ u h. let k : key 1 ≡ u = cc in ap (λ (k : EventKey). k.thread) (sym k))
    (λ u h. let k : key 0 ≡ u = cc in ap (λ (k : EventKey). k.thread) (sym k))
    refl refl refl

go-round : ValuesEnd (execution thin_air) → ⊥
go-round values = (goes-on (values (key 0) refl)).0 refl

is-large : 8 < length thin_air.initial
is-large = omega arith

pub values-out-of-thin-air : ValuesOutOfThinAir
values-out-of-thin-air = record {
  run = thin_air;
  shaped = is-shaped;
  large = is-large;
  valid = is-valid;
  go_round = go-round;
  not_standard = λ ops fitting std. go-round ((agrees-in-some-order thin_air ops is-shaped fitting is-large).1 std).1;
}
