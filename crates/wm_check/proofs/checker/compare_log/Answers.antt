use Rattle.std.proofs.Common.{subst, sym}
use Rattle.std.proofs.lemmas.Result.{IfOk-weaker}
use Rattle.wm_event.specs.LoggedRun.{LoggedRun}
use Rattle.wm_event.specs.Shape.{IsWellShaped}
use Rattle.wm_logfile.specs.DocumentBytes.{IsDocumentOf}
use Rattle.wm_valid.specs.Valid.{IsInit}
use Rattle.wm_check.proofs.checker.compare_log.Goals as goal

pub returns-in-Ok-clause-verdict : goal.returns-in-Ok-clause-verdict
returns-in-Ok-clause-verdict g c =
    let is = sym c.in-Ok.ensures.value in
    IfOk-weaker c.compare.result _ _
    (λ checked compares. λ module_bytes document_bytes is_module is_document. compares module_bytes document_bytes is_module
    (subst (λ (run : LoggedRun). IsDocumentOf document_bytes run.log run.witness) is is_document)
    (subst (λ (run : LoggedRun). IsInit c.args.module.now run.initial) is c.initial.ensures)
    (subst (λ (run : LoggedRun). IsWellShaped run) is c.in-Ok.ensures.shape))
    c.compare.ensures.verdict

pub returns-in_default : goal.returns-in_default
returns-in_default g c = record {
  verdict = λ module_bytes document_bytes is_module is_document. record {
    «module» = c.args.module.now;
    run = record { log = c.args.log; witness = c.args.witness; initial = c.initial.result.now };
    is_run = record {
      modules = is_module;
      document = is_document;
      initial = c.initial.ensures;
    };
    first = c.in-Err.ensures.fault c.in_default.not-OutOfMemory;
    no_want = c.in_default.not-OutOfMemory;
  };
  kept = c.in-Err.ensures.given;
}
