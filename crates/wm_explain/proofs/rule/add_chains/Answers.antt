use Rattle.std.proofs.Common.{subst, sym}
use Rattle.wm_event.specs.LoggedRun.{execution}
use Rattle.wm_explain.specs.Parts.{IsChain}
use Rattle.wm_explain.proofs.rule.add_chains.Goals as goal

pub loop-chain-preserved : goal.loop-chain-preserved
loop-chain-preserved c run are all =
    c.in_ok-add_chain.ensures run
    (subst (IsChain (execution run)) (sym c.chain-item.is) (are c.loop-chain.chain-index c.chain-item.result c.loop-chain-test.true))
    (c.loop-chain.invariant run are all)
