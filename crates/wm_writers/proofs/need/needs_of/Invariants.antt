use Rattle.std.proofs.Common.{◌≡◌, take}
use Rattle.wm_writers.specs.Needs.{needs}
use Rattle.wm_writers.proofs.need.needs_of.Given as goal

-- those of the chains so far
abbrev pub invariant-loop-chain : goal.invariant-loop-chain
invariant-loop-chain l = l.needs ≡ needs l.fault (take l.chain-index l.chains)
