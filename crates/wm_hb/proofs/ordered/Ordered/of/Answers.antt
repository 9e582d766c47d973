use Rattle.wm_event.specs.LoggedRun.{execution}
use Rattle.wm_hb.proofs.Valid.{has_earlier, keeps_order}
use Rattle.wm_hb.proofs.Broken.{disagrees, of_rule}
use Rattle.wm_hb.proofs.ordered.Ordered.of.Goals as goal

pub invariant_of-result : goal.invariant_of-result
invariant_of-result c = keeps_order (execution c.args.candidate.now) (has_earlier c.args.candidate.now) (λ f u. c.in-None.ensures f u)

pub returns-in-None-clause-agrees : goal.returns-in-None-clause-agrees
returns-in-None-clause-agrees c = keeps_order (execution c.args.candidate.now) (has_earlier c.args.candidate.now) (λ f u. c.in-None.ensures f u)

pub returns-in-Some-clause-fails : goal.returns-in-Some-clause-fails
returns-in-Some-clause-fails c = disagrees (execution c.args.candidate.now) c.in-Some.fault (of_rule (execution c.args.candidate.now) c.in-Some.fault c.in-Some.ensures.holds)
