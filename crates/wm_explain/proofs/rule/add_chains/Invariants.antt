use Rattle.std.proofs.Common.{All}
use Rattle.wm_event.specs.LoggedRun.{LoggedRun, execution}
use Rattle.wm_explain.specs.Parts.{AllHold, IsChain}
use Rattle.wm_explain.proofs.rule.add_chains.Given as goal

abbrev pub invariant-loop-chain : goal.invariant-loop-chain
invariant-loop-chain l = (run : LoggedRun) → All (IsChain (execution run)) l.chains → AllHold run l.initial.parts.items → AllHold run l.parts.items
