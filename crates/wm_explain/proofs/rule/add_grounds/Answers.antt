use Rattle.std.proofs.lemmas.Result.{on_ok_weaker}
use Rattle.wm_explain.proofs.Adding.{pushed}
use Rattle.wm_explain.proofs.rule.add_grounds.Goals as goal

pub returns : goal.returns
returns c run are = on_ok_weaker c.add_chains.result (λ more all. more (pushed run _ _ _ c.in_ok-push.ensures.items tt all)) (c.add_chains.ensures run are)
