use Rattle.std.proofs.Common.{rules, subst}
use Rattle.std.specs.Prelude.{◌≢◌}
use Rattle.std.proofs.lemmas.Result.{IfOk-weaker}
use Rattle.wm_run.specs.declared.fault.RunFault.TheVariants.{OutOfMemory}
use Rattle.wm_run.specs.Refusal.{IsScriptFault}
use Rattle.wm_run.specs.Scripted.{IsScripted}
use Rattle.wm_run.specs.Traced.{IsTraced}
use Rattle.wm_litmus.specs.Trace.AnswersTrace.{refused, traced}
use Rattle.wm_litmus.proofs.trace.play.Goals as goal

pub returns-in-Ok : goal.returns-in-Ok
returns-in-Ok c =
    let m = c.args.code.module.now in
    let t = c.in-Ok.traced in
    let plan = c.args.script.now.plan in
    let scripted = subst (λ turns. IsScripted m plan turns t.run) c.as_slice.ensures c.in-Ok.ensures.scripted in
    let trace = subst (λ turns. IsTraced m plan turns t.run t.turns) c.as_slice.ensures c.in-Ok.ensures.traced in
    IfOk-weaker c.shown.result _ _ (λ answer shows modules. traced m t.run t.turns modules scripted trace shows) c.shown.ensures

pub returns-in-Err : goal.returns-in-Err
returns-in-Err c =
    let plan = c.args.script.now.plan in
    let fault = subst (λ turns. IsScriptFault c.args.code.module.now plan turns c.in-Err.fault) c.as_slice.ensures c.in-Err.ensures.refused in
    let other : c.in-Err.fault ≢ OutOfMemory = search rules in
    IfOk-weaker c.refused_run.result _ _
    (λ answer prints modules. refused c.args.code.module.now c.in-Err.fault modules other fault prints.status_is prints.text_is) c.refused_run.ensures
