use Rattle.std.proofs.Common.{◌<◌, None, length, get_or, subst, sym, arith}
use Rattle.wm_event.specs.declared.event.EventId.TheVariants.{Init}
use Rattle.wm_event.specs.HappensBefore.{HappensBefore}
use Rattle.wm_event.specs.LoggedRun.{LoggedRun, execution}
use Rattle.wm_hb.specs.Chain.{FindsChain}
use Rattle.wm_hb.specs.declared.premise.Premise.{Premise}
use Rattle.wm_hb.proofs.fault_chain.chains_in.Goals as goal

pub returns-in_default : goal.returns-in_default
returns-in_default c hold =
    let i = c.loop-premise.premise-index in
    let inside : i < length c.args.premises.now = omega arith in
    let p : Premise = get_or c.args.premises.now i (record { from = Init; to = Init }) in
    let none : FindsChain (execution c.candidate.result.now) p.from p.to None = subst (FindsChain (execution c.candidate.result.now) p.from p.to) c.in_default.is c.in_ok-links.ensures in
    none (subst (λ (run : LoggedRun). HappensBefore (execution run) p.from p.to) (sym c.candidate.ensures.value) (hold i (record { from = Init; to = Init }) inside))
