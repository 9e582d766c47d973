use Rattle.std.proofs.Common.{subst, sym}
use Rattle.wm_event.specs.Fitting.{FitsLog}
use Rattle.wm_replay.specs.Complete.{CompletesLog}
use Rattle.wm_check.proofs.CompletedFits.{completed_fits}
use Rattle.wm_check.proofs.completed.complete_candidate.Goals as goal

pub write_document-requires : goal.write_document-requires
write_document-requires c =
    let m = c.args.module.now in
    let log = c.log.result.now in
    let witness = c.witness.result.now in
    let completion = subst (CompletesLog m log) c.in-Completed.is c.in_ok-answer.ensures in
    completed_fits m log c.in-Completed.log witness completion
    (subst (λ x. FitsLog x witness) (sym c.log.ensures.value)
    (subst (FitsLog c.args.candidate.now.log) (sym c.witness.ensures.value) c.witness.ensures.fits))
