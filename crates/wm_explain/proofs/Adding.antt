-- Parts that are added one after the other.
use Rattle.std.proofs.Common.{◌≡◌, ◌⊎◌, ◌++◌, ◌∷◌, ◌<◌, [], ℕ, List, length, take, arith, ap, inl, inr, subst, sym, ◌∙◌}
use Rattle.std.specs.Prelude.{All, IsTrue}
use Rattle.std.proofs.lemmas.List.Elements.{All-push, All-take, filter_passes}
use Rattle.wm_event.specs.declared.event.EventId.{EventId}
use Rattle.wm_event.specs.declared.event.EventId.TheVariants.{Init, At}
use Rattle.wm_event.specs.declared.event.EventKey.{EventKey}
use Rattle.wm_event.specs.declared.rule.Rule.{Rule}
use Rattle.wm_event.specs.declared.rule.Rule.TheVariants.{WrittenValues, Order, Coherence, NoTearing, SequentialConsistency}
use Rattle.wm_event.specs.declared.rule.RuleFault.{RuleFault}
use Rattle.wm_event.specs.Execution.{Execution}
use Rattle.wm_event.specs.HappensBefore.{Edge, HappensBefore}
use Rattle.wm_event.specs.LoggedRun.{LoggedRun, execution}
use Rattle.wm_hb.specs.Chain.{AreChains, IsEdge, Leads}
use Rattle.wm_hb.specs.declared.chain.Link.{Link}
use Rattle.wm_hb.specs.declared.chain.LinkKind.{LinkKind}
use Rattle.wm_hb.specs.declared.chain.LinkKind.TheVariants.{Initial, Sequenced, Synchronizes}
use Rattle.wm_hb.specs.declared.fault_chain.FaultChain.{FaultChain}
use Rattle.wm_writers.specs.Answer.{IsAnswer}
use Rattle.wm_writers.specs.declared.writers.FaultWriters.{FaultWriters}
use Rattle.wm_writers.specs.declared.writers.Writers.{Writers}
use Rattle.wm_writers.specs.declared.writers.Writers.TheVariants.{Only, Several}
use Rattle.wm_writers.specs.Fits.{fits, fitting, ids}
use Rattle.wm_writers.specs.Lasting.{Lasts, LastsBy}
use Rattle.wm_writers.specs.declared.source.ByteFit.{ByteFit}
use Rattle.wm_explain.specs.declared.part.Part.{Part}
use Rattle.wm_explain.specs.Parts.{AllHold, AreNamed, Holds, IsChain, IsFitOf, OfRead}

pub pushed : (run : LoggedRun) (old new : List Part) (part : Part) → new ≡ old ++ part ∷ [] → Holds run part → AllHold run old → AllHold run new
pushed run old new part is holds all = rw is (All-push (Holds run) old part all holds)

-- ---- chains

edge_of : (x : Execution) (kind : LinkKind) (a : EventId) (b : EventKey) → IsEdge x kind a b → Edge x a (At b)
edge_of x Initial Init b edge = edge
edge_of x Initial (At a) b edge = absurd edge
edge_of x Sequenced Init b edge = absurd edge
edge_of x Sequenced (At a) b edge = inl edge
edge_of x Synchronizes Init b edge = absurd edge
edge_of x Synchronizes (At a) b edge = inr edge

leads_before : (x : Execution) (a : EventId) (l : Link) (ls : List Link) (b : EventId) → Leads x a (l ∷ ls) b → HappensBefore x a b
leads_before x a l [] b leads = ([], subst (Edge x a) leads.1 (edge_of x l.kind a l.event leads.0))
leads_before x a l (m ∷ ms) b leads =
    let rest = leads_before x (At l.event) m ms b leads.1 in
    (At l.event ∷ rest.0, (edge_of x l.kind a l.event leads.0, rest.1))

pub chain_before : (x : Execution) (a : EventId) (links : List Link) (b : EventId) → Leads x a links b → 0 < length links → HappensBefore x a b
chain_before x a [] b leads some = absurd (omega arith)
chain_before x a (l ∷ ls) b leads some = leads_before x a l ls b leads

-- shortest chains are chains
pub shortest_are : (x : Execution) (chains : List FaultChain) → AreChains x chains → All (IsChain x) chains
shortest_are x chains are = λ k d within. record { leads = (are k d within).leads; some = (are k d within).some }

-- what lasts is shown by chains
lasts_by : (x : Execution) (rule : Rule) (f : RuleFault) (chains : List FaultChain) → LastsBy rule x f chains → All (IsChain x) chains
lasts_by x WrittenValues f chains shows = shortest_are x chains shows.chains
lasts_by x Order f chains cycle =
    subst (All (IsChain x)) (sym cycle.1)
    (All-push (IsChain x) [] cycle.0 (λ k d within. absurd (omega arith)) (record { leads = cycle.2.leads; some = cycle.2.some }))
lasts_by x Coherence f chains shows = shortest_are x chains shows.chains
lasts_by x NoTearing f chains shows = shortest_are x chains shows.chains
lasts_by x SequentialConsistency f chains none = absurd none

pub lasting_are : (x : Execution) (f : RuleFault) (chains : List FaultChain) → Lasts x f chains → All (IsChain x) chains
lasting_are x f chains lasts = lasts_by x f.rule f chains lasts

-- the chains of an answer about a fault are chains
pub answered_are : (run : LoggedRun) (f : RuleFault) (writers : Writers) (found : FaultWriters) → (writers ≡ Only found) ⊎ (writers ≡ Several found) → IsAnswer run f writers
    → All (IsChain (execution run)) found.chains
answered_are run f writers found (inl only) answer = lasting_are (execution run) f found.chains (subst (IsAnswer run f) only answer).0.lasts
answered_are run f writers found (inr several) answer = lasting_are (execution run) f found.chains (subst (IsAnswer run f) several answer).0.lasts

-- ---- ids that fit

-- the first ids that fit a byte fit it
pub named_fit : (run : LoggedRun) (reader : EventKey) (b : ByteFit) (n : ℕ) (listed : List EventId) → listed ≡ b.fit → IsFitOf run reader b → AreNamed run reader b.byte (take n listed)
named_fit run reader b n listed same is = (
  is.0,
  is.1,
  All-take (λ (id : EventId). IsTrue (fits run.log run.initial is.0 b.byte id)) n listed
      (subst (All (λ (id : EventId). IsTrue (fits run.log run.initial is.0 b.byte id))) (sym (same ∙ is.2.fit)) (filter_passes (fits run.log run.initial is.0 b.byte) (ids run.log))),
)

-- their number is that of the list
pub number_fit : (run : LoggedRun) (reader : EventKey) (b : ByteFit) (n : ℕ) (listed : List EventId) → listed ≡ b.fit → length listed ≡ n → IsFitOf run reader b
    → OfRead run reader (λ e. length (fitting run.log run.initial e b.byte) ≡ n)
number_fit run reader b n listed same number is = (is.0, is.1, ap length (sym (same ∙ is.2.fit)) ∙ number)
