use Rattle.std.proofs.Common.{◌≡◌, map, take}
use Rattle.wm_event.specs.LoggedRun.{execution}
use Rattle.wm_hb.specs.Chain.{AreChains}
use Rattle.wm_hb.specs.Premises.{ends_of}
use Rattle.wm_hb.proofs.fault_chain.chains_in.Given as goal

-- those of the premises so far
abbrev pub invariant-loop-premise : goal.invariant-loop-premise
invariant-loop-premise l = record {
  chains : AreChains (execution l.ordered) l.chains;
  ends : map ends_of l.chains ≡ take l.premise-index l.premises;
}
