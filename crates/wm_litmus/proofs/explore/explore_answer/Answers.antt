use Rattle.std.proofs.lemmas.Result.{IfOk-weaker}
use Rattle.wm_litmus.specs.Explore.AnswersExplore.{no_module}
use Rattle.wm_litmus.proofs.explore.explore_answer.Goals as goal

pub returns-in-Ok : goal.returns-in-Ok
returns-in-Ok g c = IfOk-weaker c.explored.result _ _ (λ answer over. over c.args.module_bytes.now c.in-Ok.ensures.read) c.explored.ensures

pub returns-in-Err : goal.returns-in-Err
returns-in-Err g c =
    IfOk-weaker c.refused_module.result _ _
    (λ answer said. no_module said.refusal (rw said.is_refused at c.in-Err.ensures.refused) said.prints.status_is said.prints.text_is)
    c.refused_module.ensures
