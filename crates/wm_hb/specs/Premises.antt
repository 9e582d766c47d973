-- What a fault of a memory rule rests on: which events happen before which.
use Rattle.std.specs.Prelude.{◌≡◌, ◌==◌, ℕ, List, [], ◌∷◌, All, MatchOption, Option, None, Some, map, if◌then◌else◌}
use Rattle.wm_event.specs.declared.event.EventId.{EventId}
use Rattle.wm_event.specs.declared.event.EventId.TheVariants.{At}
use Rattle.wm_event.specs.declared.rule.Judgement.TheVariants.{Broken}
use Rattle.wm_event.specs.declared.rule.Rule.{Rule}
use Rattle.wm_event.specs.declared.rule.Rule.TheVariants.{WrittenValues, Order, Coherence, NoTearing, SequentialConsistency}
use Rattle.wm_event.specs.declared.rule.RuleFault.{RuleFault}
use Rattle.wm_event.specs.Execution.{Execution}
use Rattle.wm_event.specs.Faults.{Judges}
use Rattle.wm_event.specs.HappensBefore.{HappensBefore}
use Rattle.wm_hb.specs.Chain.{AreChains}
use Rattle.wm_hb.specs.declared.fault_chain.FaultChain.{FaultChain}
use Rattle.wm_hb.specs.declared.premise.Premise.{Premise}

-- the premise that a happens before b
abbrev pub before : EventId → EventId → Premise
before a b = record { from = a; to = b }

-- a fault of the third rule: the read happens before its writer; or the writer happens before the other write, and that
-- write before the read
abbrev pub coherence_premises : RuleFault → Option EventId → List Premise
coherence_premises f None = before (At f.event) f.writer ∷ []
coherence_premises f (Some v) = before f.writer v ∷ before v (At f.event) ∷ []

-- a fault of the fifth rule, in its case c: the writer and the other write happen before the read; or the writer
-- happens before the read and the other write
abbrev pub sequential_premises : RuleFault → ℕ → Option EventId → List Premise
sequential_premises f c None = []
sequential_premises f c (Some v) =
    if c == 2 then before f.writer (At f.event) ∷ before v (At f.event) ∷ []
    else (if c == 3 then before f.writer (At f.event) ∷ before f.writer v ∷ [] else [])

-- the other rules don't rest on happens-before, nor does the first case of the fifth
abbrev pub premises_by : Rule → RuleFault → List Premise
premises_by WrittenValues f = []
premises_by Order f = []
premises_by Coherence f = coherence_premises f f.other
premises_by NoTearing f = []
premises_by SequentialConsistency f = sequential_premises f f.case f.other

-- the pairs of events that a fault rests on: the first of each happens before the second
abbrev pub premises : RuleFault → List Premise
premises f = premises_by f.rule f

-- the first event of each premise happens before the second
abbrev pub Hold : Execution → List Premise → Type 0
Hold x list = All (λ (p : Premise). HappensBefore x p.from p.to) list

-- the ends of a chain
abbrev pub ends_of : FaultChain → Premise
ends_of chain = before chain.from chain.to

-- the chains are chains of happens-before, one for each premise of the fault, in their order
pub record Shows (x : Execution) (f : RuleFault) (list : List FaultChain) : Type 0 where
  pub chains : AreChains x list
  pub for_premises : map ends_of list ≡ premises f

-- a chain for each premise; None if they don't all hold
abbrev pub FindsChains : Execution → List Premise → Option (List FaultChain) → Type 0
FindsChains x list result = MatchOption result (Hold x list → ⊥) (λ chains. AreChains x chains × (map ends_of chains ≡ list))

-- chains that show a fault; None if it isn't the first fault
abbrev pub FindsShown : Execution → RuleFault → Option (List FaultChain) → Type 0
FindsShown x f result = MatchOption result (Judges x (Broken f) → ⊥) (Shows x f)
