use Rattle.std.proofs.lemmas.Result.{IfOk-weaker}
use Rattle.wm_litmus.proofs.explanation.explain_refused.Goals as goal

pub returns : goal.returns
returns c = IfOk-weaker c.explained.result _ _ (λ answer prints. (_, prints)) c.explained.ensures
