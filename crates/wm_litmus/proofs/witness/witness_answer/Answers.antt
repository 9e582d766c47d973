use Rattle.std.proofs.Common.{subst, sym}
use Rattle.std.proofs.lemmas.Result.{IfOk-weaker}
use Rattle.wm_logfile.specs.DocumentBytes.{IsDocumentOf}
use Rattle.wm_valid.specs.Valid.{IsInit}
use Rattle.wm_litmus.specs.Witness.{IsStarted}
use Rattle.wm_litmus.specs.Witness.AnswersWitness.{compared, misshapen, no_module, no_document}
use Rattle.wm_litmus.proofs.Witnessing.{over_own}
use Rattle.wm_litmus.proofs.witness.witness_answer.Goals as goal

pub returns-in-Err : goal.returns-in-Err
returns-in-Err g c =
    IfOk-weaker c.refused_module.result _ _
    (λ answer said. no_module said.refusal (rw said.is_refused at c.in-Err.ensures.refused) said.prints.status_is said.prints.text_is)
    c.refused_module.ensures

pub returns-in-Err-read_document : goal.returns-in-Err-read_document
returns-in-Err-read_document g c =
    let refused = c.in-Err-read_document.ensures.refused in
    IfOk-weaker c.refused_document.result _ _
    (λ answer prints. no_document c.in-Ok.module c.in-Err-read_document.fault c.in-Ok.ensures.read (refused prints.0) prints.1.status_is prints.1.text_is)
    c.refused_document.ensures

pub returns-in-Ok-2 : goal.returns-in-Ok-2
returns-in-Ok-2 g c =
    let m = c.in-Ok.module in
    let read = c.in-Ok-read_document in
    let document : IsDocumentOf c.args.document_bytes.now read.log read._own = record {
      small = read.ensures.within.0;
      spelled = read.ensures.spelled;
      is_log = read.ensures.within.1;
      limits = read.ensures.within.2;
    } in
    let run = c.in-Ok-2.start in
    let start = subst (IsStarted read.log c.initial.result.now) c.in-Ok-2.is c.in_ok-start.ensures in
    let initial = subst (IsInit m) (sym start.initial_is) c.initial.ensures in
    IfOk-weaker c.compared.result _ _
    (λ answer answers. compared m read.log read._own run c.in-Ok.ensures.read document initial (over_own read.log c.initial.result.now run start) answers)
    c.compared.ensures

pub returns : goal.returns
returns g c =
    let m = c.in-Ok.module in
    let read = c.in-Ok-read_document in
    let document : IsDocumentOf c.args.document_bytes.now read.log read._own = record {
      small = read.ensures.within.0;
      spelled = read.ensures.spelled;
      is_log = read.ensures.within.1;
      limits = read.ensures.within.2;
    } in
    let is = subst (IsStarted read.log c.initial.result.now) c.in-Err-2.is c.in_ok-start.ensures in
    let initial = subst (IsInit m) (sym is.1.initial_is) c.initial.ensures in
    IfOk-weaker c.refused_shape.result _ _
    (λ answer prints. misshapen m read.log read._own is.0 c.in-Err-2.fault c.in-Ok.ensures.read document initial (over_own read.log c.initial.result.now is.0 is.1)
    (is.2 prints.0) prints.1.status_is prints.1.text_is)
    c.refused_shape.ensures
