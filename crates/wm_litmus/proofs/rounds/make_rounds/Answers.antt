use Rattle.std.proofs.Common.{◌<◌, ◌≢◌, ◌^◌, refl, rules, subst, sym}
use Rattle.std.proofs.lemmas.Result.{IfOk-weaker}
use Rattle.wm_run.specs.declared.fault.RunFault.TheVariants.{OutOfMemory}
use Rattle.wm_litmus.specs.Rounds.{HasMade, RunsOver, outcomes}
use Rattle.wm_litmus.specs.Rounds.AnswersRounds.{made, refused}
use Rattle.wm_litmus.specs.Table.{IsTableText}
use Rattle.wm_litmus.proofs.Gathering.{none_made}
use Rattle.wm_litmus.proofs.rounds.make_rounds.Goals as goal

pub run_rounds-counter-requires-clause-begins : goal.run_rounds-counter-requires-clause-begins
run_rounds-counter-requires-clause-begins g c κs within = λ small. none_made c.args.module.now c.args.rounds.now.plan c.new.result.counts c.new.ensures

pub run_rounds-counter-requires-clause-many : goal.run_rounds-counter-requires-clause-many
run_rounds-counter-requires-clause-many g c κs within = (refl, search rules)

pub returns-in-Ok-true : goal.returns-in-Ok-true
returns-in-Ok-true g c =
    let call = c.run_rounds-counter in
    let taken = rw (c.in-Ok-true.is, c.in-Ok-true.field-0-test) at call.ensures.taken in
    let small : c.args.rounds.now.count < 2 ^ 64 = search rules in
    let h = subst (λ t. HasMade t.0 t.1.plan c.args.rounds.now.count call.result.0.table.counts) call.ensures.same (taken small) in
    let table = subst (IsTableText (outcomes h.runs)) (sym c.as_str.ensures.value) (c.in_ok-text-in-Ok-true.ensures (outcomes h.runs) h.counted) in
    IfOk-weaker c.rounds.result _ _
    (λ answer prints module_bytes modules. made c.args.module.now h.runs c.as_str.result.now modules h.many h.allowed table prints.status_is prints.text_is)
    c.rounds.ensures

pub returns-in-Some : goal.returns-in-Some
returns-in-Some g c =
    let call = c.run_rounds-counter in
    let done = rw (c.in-Ok-false.is, c.in-Ok-false.field-0-test, c.in-Some.is) at call.ensures.taken in
    subst (λ t. RunsOver t.0 t.1 c.in-Some.answer) call.ensures.same done

pub returns : goal.returns
returns g c =
    let other : c.in-Err.fault ≢ OutOfMemory = search rules in
    let fault = rw c.in-Err.is at c.run_rounds-counter.ensures.refused in
    IfOk-weaker c.refused_run.result _ _
    (λ answer prints module_bytes modules. refused c.args.module.now c.in-Err.fault modules other fault prints.status_is prints.text_is)
    c.refused_run.ensures
