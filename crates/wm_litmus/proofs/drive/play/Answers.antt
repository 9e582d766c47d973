use Rattle.std.proofs.Common.{rules, subst}
use Rattle.std.specs.Prelude.{◌≢◌}
use Rattle.std.proofs.lemmas.Result.{IfOk-weaker}
use Rattle.wm_run.specs.declared.fault.RunFault.TheVariants.{OutOfMemory}
use Rattle.wm_run.specs.Refusal.{IsScriptFault}
use Rattle.wm_run.specs.Scripted.{IsScripted}
use Rattle.wm_litmus.specs.Drive.AnswersDrive.{driven, refused}
use Rattle.wm_litmus.specs.Own.{IsMadeOf}
use Rattle.wm_litmus.proofs.drive.play.Goals as goal

pub returns-in-Ok : goal.returns-in-Ok
returns-in-Ok g c =
    let m = c.args.module.now in
    let run = c.in-Ok.run' in
    let plan = c.args.script.now.plan in
    let scripted = subst (λ turns. IsScripted m plan turns run) c.as_slice.ensures c.in-Ok.ensures.scripted in
    IfOk-weaker c.driven.result _ _
    (λ answer over module_bytes modules.
    let made : IsMadeOf module_bytes m run = record { modules = modules; own = c.in-Ok.ensures.own; within = c.in-Ok.ensures.within } in
    let is = over module_bytes made in
    driven m run is.verdict modules scripted is.says is.own is.prints.status_is is.prints.text_is)
    c.driven.ensures

pub returns-in-Err : goal.returns-in-Err
returns-in-Err g c =
    let plan = c.args.script.now.plan in
    let fault = subst (λ turns. IsScriptFault c.args.module.now plan turns c.in-Err.fault) c.as_slice.ensures c.in-Err.ensures.refused in
    let other : c.in-Err.fault ≢ OutOfMemory = search rules in
    IfOk-weaker c.refused_run.result _ _
    (λ answer prints module_bytes modules. refused c.args.module.now c.in-Err.fault modules other fault prints.status_is prints.text_is) c.refused_run.ensures
