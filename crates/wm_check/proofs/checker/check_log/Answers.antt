use Rattle.std.proofs.lemmas.Result.{IfOk-weaker}
use Rattle.wm_check.proofs.checker.check_log.Goals as goal

pub returns-in-Ok-clause-verdict : goal.returns-in-Ok-clause-verdict
returns-in-Ok-clause-verdict g c =
    IfOk-weaker c.compare_log.result _ _ (λ checked over. λ module_bytes is_module. over module_bytes c.args.document_bytes.now is_module c.in-Ok.ensures.read) c.compare_log.ensures.verdict
