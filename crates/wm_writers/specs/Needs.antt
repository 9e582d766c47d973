-- What a fault of a memory rule needs of the witness: that reads take bytes from writers.
use Rattle.std.specs.Prelude.{List, [], ◌∷◌, ◌++◌, Option, None, Some, flat_map}
use Rattle.wm_event.specs.declared.event.EventId.{EventId}
use Rattle.wm_event.specs.declared.event.EventId.TheVariants.{At}
use Rattle.wm_event.specs.declared.rule.Rule.{Rule}
use Rattle.wm_event.specs.declared.rule.Rule.TheVariants.{WrittenValues, Order, Coherence, NoTearing, SequentialConsistency}
use Rattle.wm_event.specs.declared.rule.RuleFault.{RuleFault}
use Rattle.wm_hb.specs.declared.chain.Link.{Link}
use Rattle.wm_hb.specs.declared.chain.LinkKind.{LinkKind}
use Rattle.wm_hb.specs.declared.chain.LinkKind.TheVariants.{Initial, Sequenced, Synchronizes}
use Rattle.wm_hb.specs.declared.fault_chain.FaultChain.{FaultChain}
use Rattle.wm_writers.specs.declared.need.Need.{Need}

-- that any byte of the read with the fault comes from w
abbrev pub any_byte : RuleFault → EventId → Need
any_byte f w = record { reader = f.event; writer = w; byte = None }

-- that a tear-free read takes bytes from both writers
abbrev pub tearing_needs : RuleFault → Option EventId → List Need
tearing_needs f None = any_byte f f.writer ∷ []
tearing_needs f (Some v) = any_byte f f.writer ∷ any_byte f v ∷ []

-- that the byte of the fault comes from its writer
abbrev pub byte_needs : RuleFault → List Need
byte_needs f = record { reader = f.event; writer = f.writer; byte = Some f.byte } ∷ []

-- what a fault needs for the read where it is
abbrev pub own_needs_by : Rule → RuleFault → List Need
own_needs_by WrittenValues f = byte_needs f
own_needs_by Order f = []
own_needs_by Coherence f = byte_needs f
own_needs_by NoTearing f = tearing_needs f f.other
own_needs_by SequentialConsistency f = []

abbrev pub own_needs : RuleFault → List Need
own_needs f = own_needs_by f.rule f

-- what a link from the event a needs: a write that synchronizes with a read is its writer
abbrev pub link_needs : LinkKind → EventId → Link → List Need
link_needs Initial a link = []
link_needs Sequenced a link = []
link_needs Synchronizes a link = record { reader = link.event; writer = a; byte = None } ∷ []

-- what a chain from a needs
abbrev pub step_needs : EventId → List Link → List Need
step_needs a [] = []
step_needs a (link ∷ links) = link_needs link.kind a link ++ step_needs (At link.event) links

-- everything that a fault needs, given these chains
abbrev pub needs : RuleFault → List FaultChain → List Need
needs f chains = own_needs f ++ flat_map (λ chain. step_needs chain.from chain.links) chains
