use Rattle.std.proofs.Common.{subst, sym}
use Rattle.std.proofs.lemmas.Result.{IfOk-weaker}
use Rattle.wm_logfile.specs.DocumentBytes.{IsDocumentOf}
use Rattle.wm_replay.specs.Complete.{CompletesLog, IsCompletion, IsWithoutRun}
use Rattle.wm_valid.specs.Valid.{IsInit}
use Rattle.wm_litmus.specs.LineWitness.AnswersLineWitness.{searched, without_run, misshapen, no_document}
use Rattle.wm_litmus.specs.Witness.{IsStarted}
use Rattle.wm_litmus.proofs.Witnessing.{over_own}
use Rattle.wm_litmus.proofs.line_witness.completed_answer.Goals as goal

pub returns-in-Err : goal.returns-in-Err
returns-in-Err c =
    IfOk-weaker c.refused_document.result _ _
    (λ answer prints. no_document c.in-Err.fault (c.in-Err.ensures.refused prints.0) prints.1.status_is prints.1.text_is)
    c.refused_document.ensures

pub returns-in-NoRun : goal.returns-in-NoRun
returns-in-NoRun c =
    let m = c.args.module.now in
    let log = c.in-Ok.log in
    let document : IsDocumentOf c.args.line.now log c.in-Ok._own = record {
      small = c.in-Ok.ensures.within.0;
      spelled = c.in-Ok.ensures.spelled;
      is_log = c.in-Ok.ensures.within.1;
      limits = c.in-Ok.ensures.within.2;
    } in
    let none : IsWithoutRun m log c.in-NoRun.answer = subst (CompletesLog m log) c.in-NoRun.is c.in_ok-completed.ensures in
    IfOk-weaker c.of_verdict.result _ _ (λ answer prints. without_run log c.in-Ok._own c.in-NoRun.answer document none prints.status_is prints.text_is) c.of_verdict.ensures

pub returns-in-Ok-2 : goal.returns-in-Ok-2
returns-in-Ok-2 c =
    let m = c.args.module.now in
    let log = c.in-Ok.log in
    let document : IsDocumentOf c.args.line.now log c.in-Ok._own = record {
      small = c.in-Ok.ensures.within.0;
      spelled = c.in-Ok.ensures.spelled;
      is_log = c.in-Ok.ensures.within.1;
      limits = c.in-Ok.ensures.within.2;
    } in
    let completed = c.in-Completed.completed in
    let completion : IsCompletion m log completed = subst (CompletesLog m log) c.in-Completed.is c.in_ok-completed.ensures in
    let run = c.in-Ok-2.start in
    let start = subst (IsStarted completed c.initial.result.now) c.in-Ok-2.is c.in_ok-start.ensures in
    let initial = subst (IsInit m) (sym start.initial_is) c.initial.ensures in
    IfOk-weaker c.searched.result _ _
    (λ answer answers. searched log completed c.in-Ok._own run document completion initial (over_own completed c.initial.result.now run start) answers)
    c.searched.ensures

pub returns : goal.returns
returns c =
    let m = c.args.module.now in
    let log = c.in-Ok.log in
    let document : IsDocumentOf c.args.line.now log c.in-Ok._own = record {
      small = c.in-Ok.ensures.within.0;
      spelled = c.in-Ok.ensures.spelled;
      is_log = c.in-Ok.ensures.within.1;
      limits = c.in-Ok.ensures.within.2;
    } in
    let completed = c.in-Completed.completed in
    let completion : IsCompletion m log completed = subst (CompletesLog m log) c.in-Completed.is c.in_ok-completed.ensures in
    let is = subst (IsStarted completed c.initial.result.now) c.in-Err-2.is c.in_ok-start.ensures in
    let initial = subst (IsInit m) (sym is.1.initial_is) c.initial.ensures in
    IfOk-weaker c.refused_shape.result _ _
    (λ answer prints. misshapen log completed c.in-Ok._own is.0 c.in-Err-2.fault document completion initial (over_own completed c.initial.result.now is.0 is.1)
    (is.2 prints.0) prints.1.status_is prints.1.text_is)
    c.refused_shape.ensures
