-- What is valid and causal is valid by ECMA-262.
use Rattle.std.proofs.Common.{ℕ, zero, suc, ◌<◌, IsSome, refl, sym, subst, arith}
use Rattle.wm_event.specs.Execution.{Execution}
use Rattle.wm_event.specs.LoggedRun.{execution}
use Rattle.wm_event.specs.declared.event.EventKey.{EventKey}
use Rattle.wm_standard.specs.Agreement.{Ends, ValuesEnd}
use Rattle.wm_standard.specs.Agreement.Ends.{ends}
use Rattle.wm_standard.proofs.Agreement.{to-standard}
use Rattle.wm_explore.specs.Executions.{HasTimes, IsCausal}
use Rattle.wm_explore.specs.Standard.{CausalIsStandard, ExploredIsStandard}

-- what comes later cannot be read, so no chain of reads goes on for ever
ends_by : (x : Execution) (time : EventKey → ℕ) → HasTimes x time → (n : ℕ) (r : EventKey) → time r < n → IsSome (x.event_of r) → Ends x r
ends_by x time has zero r lt there = absurd (omega (arith, lt))
ends_by x time has (suc n) r lt there = ends (λ k u f from at update.
    let before = has.reads r u k there from in
    ends_by x time has n u (omega (arith, lt, before)) (subst (λ o. IsSome o) (sym at) refl))

values_end : (x : Execution) → IsCausal x → ValuesEnd x
values_end x causal r there = ends_by x causal.0 causal.1 (suc (causal.0 r)) r (omega arith) there

pub causal-is-standard : CausalIsStandard
causal-is-standard run ops shape fitting large causal valid = to-standard run ops shape fitting large valid (values_end (execution run) causal)

pub explored-is-standard : ExploredIsStandard
explored-is-standard m starts f initial ops found is_init fitting large =
    let is = found initial is_init in
    causal-is-standard _ ops is.0.shaped fitting large is.1 is.0.valid
