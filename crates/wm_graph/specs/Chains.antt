-- The chains of a picture.
use Rattle.std.specs.Prelude.{◌≡◌, List, [], Option, None, Some}
use Rattle.wm_check.specs.declared.verdict.Breach.{Breach}
use Rattle.wm_check.specs.declared.verdict.Breach.TheVariants.{Replay, Rule}
use Rattle.wm_event.specs.Faults.{Judges}
use Rattle.wm_event.specs.LoggedRun.{LoggedRun, execution}
use Rattle.wm_event.specs.declared.rule.Judgement.TheVariants as judgement
use Rattle.wm_hb.specs.Premises.{Shows}
use Rattle.wm_hb.specs.declared.fault_chain.FaultChain.{FaultChain}

-- if the check found the first fault of the run, there is one chain for each of its premises, in their order; if it found
-- something else or nothing, there are no chains
abbrev pub HasChains : LoggedRun → Option Breach → List FaultChain → Type 0
HasChains x None chains = chains ≡ []
HasChains x (Some (Replay answer)) chains = chains ≡ []
HasChains x (Some (Rule fault)) chains = Judges (execution x) (judgement.Broken fault) → Shows (execution x) fault chains
