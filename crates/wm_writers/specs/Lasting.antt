-- Faults that no order of the events mends, given the writers.
use Rattle.std.specs.Prelude.{◌≡◌, ◌⊎◌, List, [], ◌∷◌, MatchOption, Option}
use Rattle.wm_event.specs.declared.rule.Judgement.TheVariants.{Broken}
use Rattle.wm_event.specs.declared.rule.Rule.{Rule}
use Rattle.wm_event.specs.declared.rule.Rule.TheVariants.{WrittenValues, Order, Coherence, NoTearing, SequentialConsistency}
use Rattle.wm_event.specs.declared.rule.RuleFault.{RuleFault}
use Rattle.wm_event.specs.Execution.{Execution}
use Rattle.wm_event.specs.Faults.{Judges}
use Rattle.wm_hb.specs.Cycle.{IsAcyclic, IsCycle}
use Rattle.wm_hb.specs.Premises.{Shows}
use Rattle.wm_hb.specs.declared.fault_chain.FaultChain.{FaultChain}

-- one chain, which leads from an event back to it
abbrev pub AreCycle : Execution → List FaultChain → Type 0
AreCycle x chains = (chain : FaultChain) × (chains ≡ chain ∷ []) × IsCycle x chain

-- the chains show that no order mends the fault: of the order, since happens-before has a cycle; of written values,
-- coherence and tearing, since these don't depend on the order. Nothing shows it of sequential consistency.
abbrev pub LastsBy : Rule → Execution → RuleFault → List FaultChain → Type 0
LastsBy WrittenValues x f chains = Shows x f chains
LastsBy Order x f chains = AreCycle x chains
LastsBy Coherence x f chains = Shows x f chains
LastsBy NoTearing x f chains = Shows x f chains
LastsBy SequentialConsistency x f chains = ⊥

abbrev pub Lasts : Execution → RuleFault → List FaultChain → Type 0
Lasts x f chains = LastsBy f.rule x f chains

-- another order may mend a fault of the rule: of the order, since happens-before has no cycle, or of sequential consistency
abbrev pub DependsOnOrder : Execution → Rule → Type 0
DependsOnOrder x WrittenValues = ⊥
DependsOnOrder x Order = IsAcyclic x
DependsOnOrder x Coherence = ⊥
DependsOnOrder x NoTearing = ⊥
DependsOnOrder x SequentialConsistency = Unit {0}

-- chains that show it; None if another order may mend the fault, or it isn't the run's first fault
abbrev pub FindsLasting : Execution → RuleFault → Option (List FaultChain) → Type 0
FindsLasting x f result = MatchOption result (DependsOnOrder x f.rule ⊎ (Judges x (Broken f) → ⊥)) (Lasts x f)
