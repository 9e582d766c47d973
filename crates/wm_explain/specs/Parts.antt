-- The parts of an explanation: prose, and what states something of the run.
use Rattle.std.specs.Prelude.{◌≡◌, ℕ, ◌+◌, ◌<◌, List, ◌++◌, All, IsTrue, Some, codes, flat_map, length, string_bytes, OnOk, Result}
use Rattle.std.specs.Fmt.{decimal}
use Rattle.wm_event.specs.declared.event.Event.{Event}
use Rattle.wm_event.specs.declared.event.EventId.{EventId}
use Rattle.wm_event.specs.declared.event.EventKey.{EventKey}
use Rattle.wm_event.specs.Execution.{Execution}
use Rattle.wm_event.specs.HappensBefore.{HappensBefore}
use Rattle.wm_event.specs.Log.{event_in}
use Rattle.wm_event.specs.LoggedRun.{LoggedRun, execution}
use Rattle.wm_event.specs.Rules.{IsValid}
use Rattle.wm_event.specs.Shape.{IsWellShaped}
use Rattle.wm_event.specs.Texts.{id_text, key_text}
use Rattle.wm_hb.specs.Chain.{IsEdge, Leads}
use Rattle.wm_hb.specs.declared.chain.LinkKind.{LinkKind}
use Rattle.wm_hb.specs.declared.chain.LinkKind.TheVariants.{Initial, Sequenced, Synchronizes}
use Rattle.wm_hb.specs.declared.fault_chain.FaultChain.{FaultChain}
use Rattle.wm_writers.specs.Fits.{fits, fitting}
use Rattle.wm_writers.specs.Forced.{IsNeverValid, with_witness}
use Rattle.wm_event.specs.declared.rule.RuleFault.{RuleFault}
use Rattle.wm_event.specs.Faults.{Breaks}
use Rattle.wm_writers.specs.Answer.{IsAnswer, IsByteFit, StaysIfOnly}
use Rattle.wm_writers.specs.declared.writers.Writers.{Writers}
use Rattle.wm_writers.specs.declared.source.ByteFit.{ByteFit}
use Rattle.wm_explain.specs.declared.part.Part.{Part}
use Rattle.wm_explain.specs.declared.part.Part.TheVariants.{Prose, Before, BeforeItself, Edge, Byte, Fits, FitsToo, FitsNone, FitMore, NoWitness, OtherWitness}

-- ---- what the parts print

-- the edges of happens-before, in words
abbrev pub sequenced_text : EventId → EventKey → List ℕ
sequenced_text from event = id_text from ++ (codes " is sequenced before " ++ (key_text event ++ (codes ": it comes earlier in thread " ++ decimal event.thread)))

abbrev pub synchronizes_text : EventId → EventKey → List ℕ
synchronizes_text from event =
    id_text from ++ (codes " synchronizes with " ++ (key_text event ++ (codes ": " ++ (key_text event ++ codes " reads from it, and both are atomic accesses of one range"))))

abbrev pub edge_text : EventId → LinkKind → EventKey → List ℕ
edge_text from Initial event = id_text from ++ codes " writes the initial memory, before " ++ key_text event ++ codes " as before every event"
edge_text from Sequenced event = sequenced_text from event
edge_text from Synchronizes event = synchronizes_text from event

-- a byte of a read, with its address
abbrev pub byte_text : EventKey → ℕ → ℕ → List ℕ
byte_text reader byte address =
    codes "  byte " ++ (decimal byte ++ (codes " of " ++ (key_text reader ++ (codes ", at address " ++ (decimal address ++ codes ": ")))))

abbrev pub part_text : Part → List ℕ
part_text (Prose text) = string_bytes text
part_text (Before from to) = codes "Why " ++ id_text from ++ codes " happens before " ++ id_text to ++ codes ":\n"
part_text (BeforeItself event) = codes "Why " ++ id_text event ++ codes " happens before itself:\n"
part_text (Edge from link) = codes "  " ++ edge_text from link.kind link.event ++ codes "\n"
part_text (Byte reader byte address) = byte_text reader byte address
part_text (Fits reader byte id) = id_text id
part_text (FitsToo reader byte id) = codes ", " ++ id_text id
part_text (FitsNone reader byte) = codes "none"
part_text (FitMore reader byte more) = codes " and " ++ decimal more ++ codes " more"
part_text NoWitness = codes "with these values, no witness makes this run allowed.\n"
part_text (OtherWitness witness) = codes "With another witness, the same accesses are allowed:\n"

abbrev pub parts_text : List Part → List ℕ
parts_text parts = flat_map part_text parts

-- ---- what they state of a run

-- of the read e, which is the event of this name
abbrev pub OfRead : LoggedRun → EventKey → (Event → Type 0) → Type 0
OfRead run reader P = (e : Event) × (event_in run.log reader ≡ Some e) × P e

-- the most ids that are named for a byte
abbrev pub max_named : ℕ
max_named = 8

abbrev pub Holds : LoggedRun → Part → Type 0
Holds run (Prose text) = Unit {0}
Holds run (Before from to) = HappensBefore (execution run) from to
Holds run (BeforeItself event) = HappensBefore (execution run) event event
Holds run (Edge from link) = IsEdge (execution run) link.kind from link.event
Holds run (Byte reader byte address) = OfRead run reader (λ e. address ≡ e.address + byte)
Holds run (Fits reader byte id) = OfRead run reader (λ e. IsTrue (fits run.log run.initial e byte id))
Holds run (FitsToo reader byte id) = OfRead run reader (λ e. IsTrue (fits run.log run.initial e byte id))
Holds run (FitsNone reader byte) = OfRead run reader (λ e. length (fitting run.log run.initial e byte) ≡ 0)
Holds run (FitMore reader byte more) = OfRead run reader (λ e. length (fitting run.log run.initial e byte) ≡ max_named + more)
Holds run NoWitness = IsNeverValid run
Holds run (OtherWitness witness) = IsWellShaped (with_witness run witness) × IsValid (execution (with_witness run witness))

abbrev pub AllHold : LoggedRun → List Part → Type 0
AllHold run parts = All (Holds run) parts

-- what was added holds
abbrev pub Adds : {X E : Type 0} → Result X E → LoggedRun → List Part → List Part → Type 0
Adds result run old new = OnOk result (AllHold run old → AllHold run new)

-- a chain of happens-before with at least one edge
pub record IsChain (x : Execution) (chain : FaultChain) : Type 0 where
  pub leads : Leads x chain.from chain.links chain.to
  pub some : 0 < length chain.links

-- these ids fit the byte of this read
abbrev pub AreNamed : LoggedRun → EventKey → ℕ → List EventId → Type 0
AreNamed run reader byte ids = OfRead run reader (λ e. All (λ (id : EventId). IsTrue (fits run.log run.initial e byte id)) ids)

-- the byte of this read is listed with its address and all ids that fit it
abbrev pub IsFitOf : LoggedRun → EventKey → ByteFit → Type 0
IsFitOf run reader b = OfRead run reader (λ e. IsByteFit run e b)

-- what is known of a fault: it breaks its rule in this run, and the answer about its writers is right
pub record IsKnown (run : LoggedRun) (f : RuleFault) (writers : Writers) : Type 0 where
  pub breaks : Breaks (execution run) f
  pub answer : IsAnswer run f writers
  pub stays : StaysIfOnly run f writers
