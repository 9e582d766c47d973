use Rattle.std.proofs.Common.{◌≡◌, length, subst, ap, ◌∙◌, true, false}
use Rattle.std.specs.Prelude.{IfOk}
use Rattle.wm_event.specs.LoggedRun.{LoggedRun, execution}
use Rattle.wm_hb.specs.Premises.{FindsChains, FindsShown, premises}
use Rattle.wm_hb.proofs.PremiseLaws.{order-kept, shown, when-ok}
use Rattle.wm_hb.proofs.fault_chain.fault_chains.Goals as goal

pub returns : goal.returns
returns c first =
    let some = λ (e : length (premises c.args.fault.now) ≡ 0).
    let clash : false ≡ true = c.if-is_empty.ensures.1 (ap length c.in_ok-premises.ensures ∙ e) in let no : ⊥ = cc in no in
    order-kept (execution c.args.candidate.now) c.args.fault.now c.in-Err.field-0 some c.in-Err.ensures.first first

pub returns-in-Ok : goal.returns-in-Ok
returns-in-Ok c =
    let x = execution c.args.candidate.now in
    let f = c.args.fault.now in
    let same : c.as_slice.result.now ≡ premises f = c.as_slice.ensures ∙ c.in_ok-premises.ensures in
    let found : IfOk c.chains_in.result (FindsChains x c.as_slice.result.now) =
    subst (λ (run : LoggedRun). IfOk c.chains_in.result (FindsChains (execution run) c.as_slice.result.now)) c.in-Ok.ensures.value c.chains_in.ensures in
    when-ok (FindsChains x c.as_slice.result.now) (FindsShown x f) (shown x f c.as_slice.result.now same) c.chains_in.result found
