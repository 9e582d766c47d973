use Rattle.std.proofs.Common.{◌≤◌, ◌<◌, length, subst, ◌∙◌}
use Rattle.std.proofs.lemmas.Result.{IfErr-weaker}
use Rattle.wm_logfile.specs.DocumentBytes.{IsDocumentOf}
use Rattle.wm_logfile.proofs.Again.{same_again, too_long}
use Rattle.wm_logfile.proofs.migration.write_and_read.Goals as goal

written : (c : goal.After-drop-text) → length c.as_bytes.result.now ≤ 8388608 → IsDocumentOf c.as_bytes.result.now c.args.log.now c.args.witness.now
written c = rw c.as_bytes.ensures.value (λ small. c.in_ok-text.ensures.again small c.requires.limits)

pub returns-clause-same : goal.returns-clause-same
returns-clause-same c =
    same_again c.as_bytes.result.now c.read_document.result c.args.log.now c.args.witness.now (written c) c.read_document.ensures.within c.read_document.ensures.only

pub returns-clause-refused : goal.returns-clause-refused
returns-clause-refused c =
    IfErr-weaker c.read_document.result _ _ (λ e long memory. subst (λ bytes. 8388608 < length bytes) (c.as_bytes.ensures.value ∙ c.in_ok-text.ensures.text) (long memory))
    (too_long c.as_bytes.result.now c.read_document.result c.args.log.now c.args.witness.now (written c) c.read_document.ensures.refused)
