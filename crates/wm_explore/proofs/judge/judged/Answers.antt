use Rattle.wm_explore.proofs.JudgingLaw.{judged-found, judged-none}
use Rattle.wm_explore.proofs.judge.judged.Goals as goal

pub returns-in-Found : goal.returns-in-Found
returns-in-Found c =
    judged-found c.args.log.now c.in_ok-copy.copy c.args.arrived.now c.args.initial.now c.in_ok-wanted.wanted c.as_slice.result.now c.in-Ok.candidate c.in_ok-witness.witness c.in_ok-answer-in-Ok.answer
    c.in-Ok.ensures.value c.in_ok-copy.ensures c.as_slice.ensures c.in_ok-wanted.ensures c.in-Found.witness c.in-Found.is c.in_ok-answer-in-Ok.ensures.found

pub returns-in-NoWitness : goal.returns-in-NoWitness
returns-in-NoWitness c =
    judged-none c.args.log.now c.in_ok-copy.copy c.args.arrived.now c.args.initial.now c.in_ok-wanted.wanted c.as_slice.result.now c.in-Ok.candidate c.in_ok-witness.witness c.in_ok-answer-in-Ok.answer
    c.in-Ok.ensures.value c.in_ok-copy.ensures c.as_slice.ensures c.in_ok-wanted.ensures c.in-NoWitness.is c.in_ok-answer-in-Ok.ensures.none
