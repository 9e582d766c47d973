use Rattle.std.proofs.Common.{subst}
use Rattle.wm_witness.specs.Answer.{FoundIsValid, NoneIsNever}
use Rattle.wm_explain.proofs.Adding.{pushed}
use Rattle.wm_explain.proofs.remedy.add_search.Goals as goal

pub returns-in_ok-push-in-NoWitness : goal.returns-in_ok-push-in-NoWitness
returns-in_ok-push-in-NoWitness c all =
    let run = c.args.candidate.now in
    pushed run _ _ _ c.in_ok-push-in-NoWitness.ensures.items (subst (NoneIsNever run) c.in-NoWitness.is c.in_ok-searched.ensures.none)
    (c.in_ok-add_prose-in-NoWitness.ensures run all)

pub returns-in_ok-push-in-Found-2 : goal.returns-in_ok-push-in-Found-2
returns-in_ok-push-in-Found-2 c all =
    let run = c.args.candidate.now in
    pushed run _ _ _ c.in_ok-push-in-Found-2.ensures.items tt
    (pushed run _ _ _ c.in_ok-push-in-Found.ensures.items (subst (FoundIsValid run) c.in-Found.is c.in_ok-searched.ensures.found) all)

pub returns-in-GaveUp : goal.returns-in-GaveUp
returns-in-GaveUp c = c.add_prose-in-GaveUp.ensures c.args.candidate.now
