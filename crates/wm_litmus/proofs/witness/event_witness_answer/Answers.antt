use Rattle.std.proofs.Common.{List, ℕ, subst}
use Rattle.std.proofs.lemmas.Result.{IfOk-weaker}
use Rattle.wm_logfile.specs.DocumentBytes.{IsDocumentOf}
use Rattle.wm_litmus.specs.Rules.{zeros}
use Rattle.wm_litmus.specs.Witness.{IsStarted}
use Rattle.wm_litmus.specs.Witness.AnswersEventWitness.{searched, misshapen, no_document}
use Rattle.wm_litmus.proofs.witness.event_witness_answer.Goals as goal

pub returns-in-Err : goal.returns-in-Err
returns-in-Err c =
    IfOk-weaker c.refused_document.result _ _
    (λ answer prints. no_document c.in-Err.fault (c.in-Err.ensures.refused prints.0) prints.1.status_is prints.1.text_is)
    c.refused_document.ensures

pub returns-in-Ok-2 : goal.returns-in-Ok-2
returns-in-Ok-2 c =
    let log = c.in-Ok.log in
    let document : IsDocumentOf c.args.bytes.now log c.in-Ok._own = record {
      small = c.in-Ok.ensures.within.0;
      spelled = c.in-Ok.ensures.spelled;
      is_log = c.in-Ok.ensures.within.1;
      limits = c.in-Ok.ensures.within.2;
    } in
    let found = c.in_ok-start.field-0 in
    let over = subst (λ (initial : List ℕ). IsStarted log initial found) c.zero_memory-initial.ensures c.in_ok-start.ensures in
    let start = subst (IsStarted log (zeros 16)) c.in-Ok-2.is over in
    IfOk-weaker c.searched.result _ _ (λ answer answers. searched log c.in-Ok._own c.in-Ok-2.start document start answers) c.searched.ensures

pub returns : goal.returns
returns c =
    let log = c.in-Ok.log in
    let document : IsDocumentOf c.args.bytes.now log c.in-Ok._own = record {
      small = c.in-Ok.ensures.within.0;
      spelled = c.in-Ok.ensures.spelled;
      is_log = c.in-Ok.ensures.within.1;
      limits = c.in-Ok.ensures.within.2;
    } in
    let found = c.in_ok-start.field-0 in
    let over = subst (λ (initial : List ℕ). IsStarted log initial found) c.zero_memory-initial.ensures c.in_ok-start.ensures in
    let is = subst (IsStarted log (zeros 16)) c.in-Err-2.is over in
    IfOk-weaker c.refused_shape.result _ _
    (λ answer prints. misshapen log c.in-Ok._own is.0 c.in-Err-2.fault document is.1 (is.2 prints.0) prints.1.status_is prints.1.text_is)
    c.refused_shape.ensures
