use Rattle.std.proofs.lemmas.Result.{IfErr-weaker, IfOk-weaker}
use Rattle.wm_logfile.specs.DocumentBytes.{IsDocumentOf}
use Rattle.wm_logfile.proofs.migration.migrate.Goals as goal

document : (c : goal.After-rewrite) → IsDocumentOf c.args.bytes.now c.in_ok-log.log c.in_ok-log.witness
document c =
    let within = c.in_ok-log.ensures.within in record { small = within.0; spelled = c.in_ok-log.ensures.spelled; is_log = within.1; limits = within.2 }

pub returns-clause-migrated : goal.returns-clause-migrated
returns-clause-migrated c =
    IfOk-weaker c.rewrite.result _ _ (λ s is. record { log = c.in_ok-log.log; witness = c.in_ok-log.witness; document = document c; fits = is.fits; written = is.written })
    c.rewrite.ensures.written

pub returns-clause-misplaced : goal.returns-clause-misplaced
returns-clause-misplaced c =
    IfErr-weaker c.rewrite.result _ _ (λ e is misplaced. record { log = c.in_ok-log.log; witness = c.in_ok-log.witness; document = document c; misfits = is.misfits misplaced })
    c.rewrite.ensures.refused

pub returns-clause-refused : goal.returns-clause-refused
returns-clause-refused c =
    IfErr-weaker c.rewrite.result _ _ (λ e is memory misplaced. absurd (misplaced (is.misplaced memory))) c.rewrite.ensures.refused
