-- Where updates look back, values end.
use Rattle.std.proofs.Common.{◌≡◌, ℕ, zero, suc, ◌+◌, ◌<◌, Some, arith}
use Rattle.wm_event.specs.declared.event.Event.{Event}
use Rattle.wm_event.specs.declared.event.EventKey.{EventKey}
use Rattle.wm_event.specs.declared.event.EventKind.TheVariants.{Update}
use Rattle.wm_event.specs.Execution.{Execution}
use Rattle.wm_event.specs.LoggedRun.{execution}
use Rattle.wm_standard.specs.Agreement.{AgreesLookingBack, Ends, UpdatesLookBack, ValuesEnd}
use Rattle.wm_standard.specs.Agreement.Ends.{ends}
use Rattle.wm_standard.proofs.Agreement.{from-standard, to-standard}

module _ (x : Execution) (back : UpdatesLookBack x) where
  ends-below : (n : ℕ) (r : EventKey) (e : Event) → x.event_of r ≡ Some e → e.kind ≡ Update → x.place_of r < n → Ends x r
  ends-below zero r e there is l = absurd (omega (arith, l))
  ends-below (suc n) r e there is l = ends (λ k u f from at update. let m = back r u e f k there is from at update in ends-below n u f at update (omega (arith, l, m)))

  pub values-end : ValuesEnd x
  values-end r there = ends (λ k u f from at update. ends-below (1 + x.place_of u) u f at update (omega arith))

pub agrees-looking-back : AgreesLookingBack
agrees-looking-back run ops shape fitting large back = (λ valid. to-standard run ops shape fitting large valid (values-end (execution run) back), λ std. (from-standard run ops shape fitting large std).0)
