use Rattle.std.proofs.Common.{subst}
use Rattle.wm_event.specs.CandidateShape.{run_inside}
use Rattle.wm_event.specs.Fitting.{FitsLog}
use Rattle.wm_event.specs.LoggedRun.{LoggedRun}
use Rattle.wm_event.proofs.FittingLemmas.{fits_log}
use Rattle.wm_event.proofs.candidate.Candidate.witness.Goals as goal

pub returns-clause-fits : goal.returns-clause-fits
returns-clause-fits c = subst (λ (run : LoggedRun). FitsLog run.log run.witness) c.self.view_is (fits_log (run_inside c.self.inside) c.self.invariant.shape)
