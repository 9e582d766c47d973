-- No witness mends a forced fault.
use Rattle.std.proofs.Common.{◌≡◌, ◌≢◌, ℕ, ◌+◌, ◌<◌, List, [], ◌∷◌, Option, None, Some, IsSome, get_or, map, length, refl, sym, ◌∙◌, subst, arith, inl, inr}
use Rattle.std.specs.Prelude.{All, flat_map}
use Rattle.std.proofs.lemmas.Option.{same_Some, slice_get-get_or, slice_get_within}
use Rattle.wm_event.specs.declared.event.Event.{Event}
use Rattle.wm_event.specs.declared.event.EventKey.{EventKey}
use Rattle.wm_event.specs.declared.event.EventId.{EventId}
use Rattle.wm_event.specs.declared.event.EventId.TheVariants.{Init, At}
use Rattle.wm_event.specs.declared.rule.Rule.{Rule}
use Rattle.wm_event.specs.declared.rule.Rule.TheVariants.{WrittenValues, Order, Coherence, NoTearing, SequentialConsistency}
use Rattle.wm_event.specs.declared.rule.RuleFault.{RuleFault}
use Rattle.wm_event.specs.declared.witness.Witness.{Witness}
use Rattle.wm_event.specs.Byte.{byte_of}
use Rattle.wm_event.specs.Execution.{ReadsFrom, byte_by, event_at}
use Rattle.wm_event.specs.Faults.{BreaksCoherence, BreaksNoTearing, BreaksRule, BreaksWrittenValues, reads_itself, not_written, other_value, reads_future, written_between}
use Rattle.wm_event.specs.HappensBefore.{Edge, HappensBefore}
use Rattle.wm_event.specs.Log.{event_in}
use Rattle.wm_event.specs.LoggedRun.{LoggedRun, execution}
use Rattle.wm_event.specs.Rules.{IsTearFreeLike, IsValid, Writes}
use Rattle.wm_event.specs.Shape.{IsWellShaped}
use Rattle.wm_event.specs.Witness.{writers_in}
use Rattle.wm_hb.specs.Chain.{AreChains, IsEdge, IsShortestChain, Leads}
use Rattle.wm_hb.specs.declared.chain.Link.{Link}
use Rattle.wm_hb.specs.declared.chain.LinkKind.{LinkKind}
use Rattle.wm_hb.specs.declared.chain.LinkKind.TheVariants.{Initial, Sequenced, Synchronizes}
use Rattle.wm_hb.specs.declared.fault_chain.FaultChain.{FaultChain}
use Rattle.wm_writers.specs.Forced.{ForcedFaultStays, IsForced, IsNamed, with_witness}
use Rattle.wm_hb.specs.Cycle.{IsCycle}
use Rattle.wm_hb.specs.Premises.{coherence_premises, ends_of, premises, premises_by}
use Rattle.wm_writers.specs.Lasting.{AreCycle, LastsBy}
use Rattle.wm_writers.specs.Needs.{byte_needs, link_needs, own_needs, own_needs_by, step_needs, tearing_needs, any_byte}
use Rattle.wm_writers.specs.declared.need.Need.{Need}
use Rattle.wm_hb.specs.declared.premise.Premise.{Premise}
use Rattle.wm_writers.proofs.AllLemmas.{all-first, all-head, all-second, all-tail}
use Rattle.wm_writers.proofs.FitLaws.{left_by, writer_fits}

module _ (run : LoggedRun) (shape : IsWellShaped run) (witness : Witness) (other_shape : IsWellShaped (with_witness run witness))
    (valid : IsValid (execution (with_witness run witness))) where
  abbrev other : LoggedRun
  other = with_witness run witness

  -- each byte of a read has a writer in the other run too
  has_writer : (r : EventKey) (e : Event) (k : ℕ) (w : EventId) → event_in run.log r ≡ Some e → ReadsFrom (execution run) r k w → (v : EventId) × ReadsFrom (execution other) r k v
  has_writer r e k w at reads =
      let inside = slice_get_within (writers_in run.witness r) k w reads in
      let count = (shape.good r e at).count in
      let other_count = (other_shape.good r e at).count in
      let within : k < length (writers_in witness r) = omega (arith, inside, count, other_count) in
      (get_or (writers_in witness r) k w, slice_get-get_or (writers_in witness r) k w within)

  -- what is forced is so in the other run too
  pub record Kept (need : Need) : Type 0 where
    pub byte : ℕ
    pub named : IsNamed need.byte byte
    pub reads : ReadsFrom (execution other) need.reader byte need.writer

  kept : (need : Need) → IsForced run need → Kept need
  kept need forced =
      let v = has_writer need.reader forced.read forced.byte need.writer forced.is_read forced.meets.0 in
      let fits = writer_fits other other_shape valid need.reader forced.read forced.byte v.0 forced.is_read v.1 in
      let same : v.0 ≡ need.writer = forced.only v.0 fits in
      record { byte = forced.byte; named = forced.meets.1; reads = subst (ReadsFrom (execution other) need.reader forced.byte) same v.1 }

  -- so its edges are edges there
  edge_kept : (kind : LinkKind) (a : EventId) (link : Link) → IsEdge (execution run) kind a link.event → All (IsForced run) (link_needs kind a link) → Edge (execution other) a (At link.event)
  edge_kept Initial Init link e forced = e
  edge_kept Initial (At a) link e forced = absurd e
  edge_kept Sequenced Init link e forced = absurd e
  edge_kept Sequenced (At a) link e forced = inl (record { first = e.first; second = e.second; same_thread = e.same_thread; earlier = e.earlier })
  edge_kept Synchronizes Init link e forced = absurd e
  edge_kept Synchronizes (At a) link e forced =
      let k = kept (record { reader = link.event; writer = At a; byte = None }) (all-head (IsForced run) (record { reader = link.event; writer = At a; byte = None }) [] forced) in
      inr (record {
        writer = e.writer;
        reader = e.reader;
        is_writer = e.is_writer;
        is_reader = e.is_reader;
        writer_atomic = e.writer_atomic;
        reader_atomic = e.reader_atomic;
        ranges = e.ranges;
        reads = (k.byte, k.reads);
      })

  -- and a chain whose steps are forced is one there
  chain_kept : (a : EventId) (link : Link) (links : List Link) (b : EventId) → Leads (execution run) a (link ∷ links) b → All (IsForced run) (step_needs a (link ∷ links))
      → HappensBefore (execution other) a b
  chain_kept a link [] b leads forced =
      let first = edge_kept link.kind a link leads.0 (all-first (IsForced run) (link_needs link.kind a link) [] forced) in
      ([], subst (Edge (execution other) a) leads.1 first)
  chain_kept a link (next ∷ links) b leads forced =
      let first = edge_kept link.kind a link leads.0 (all-first (IsForced run) (link_needs link.kind a link) (step_needs (At link.event) (next ∷ links)) forced) in
      let rest = chain_kept (At link.event) next links b leads.1 (all-second (IsForced run) (link_needs link.kind a link) (step_needs (At link.event) (next ∷ links)) forced) in
      (At link.event ∷ rest.0, (first, rest.1))

  led_kept : (a : EventId) (links : List Link) (b : EventId) → Leads (execution run) a links b → 0 < length links → All (IsForced run) (step_needs a links) → HappensBefore (execution other) a b
  led_kept a [] b leads some forced = absurd (omega (arith, some))
  led_kept a (link ∷ links) b leads some forced = chain_kept a link links b leads forced

  links_kept : (a : EventId) (links : List Link) (b : EventId) → IsShortestChain (execution run) a links b → All (IsForced run) (step_needs a links) → HappensBefore (execution other) a b
  links_kept a links b chain forced = led_kept a links b chain.leads chain.some forced

  module _ (f : RuleFault) where
    -- what the fault states about its read holds of the forced one
    value_stays : (e : Event) → event_in run.log f.event ≡ Some e → BreaksWrittenValues (execution run) f.event e f.byte f.writer f.case → All (IsForced run) (byte_needs f) → ⊥
    value_stays e at breaks forced =
        let k = kept (record { reader = f.event; writer = f.writer; byte = Some f.byte }) (all-head (IsForced run) (record { reader = f.event; writer = f.writer; byte = Some f.byte }) [] forced) in
        let reads : ReadsFrom (execution other) f.event f.byte f.writer = subst (λ n. ReadsFrom (execution other) f.event n f.writer) k.named k.reads in
        let values = valid.keeps_written_values f.event e f.byte f.writer at reads in
        let written : byte_by (execution run) f.writer (e.address + f.byte) ≡ Some (byte_of e.read f.byte) =
        left_by run f.writer (e.address + f.byte) ∙ sym (left_by other f.writer (e.address + f.byte)) ∙ values.1 in
        by f.case breaks values.0 written
      where
        by : (c : ℕ) → BreaksWrittenValues (execution run) f.event e f.byte f.writer c → f.writer ≢ At f.event
            → byte_by (execution run) f.writer (e.address + f.byte) ≡ Some (byte_of e.read f.byte) → ⊥
        by c (reads_itself is same) apart written = apart same
        by c (not_written is none) apart written = cc
        by c (other_value is b left differs) apart written = differs (same_Some b (byte_of e.read f.byte) (sym left ∙ written))

    event_same : (w : EventId) → event_at (execution run) w ≡ event_at (execution other) w
    event_same Init = refl
    event_same (At key) = refl

    like_kept : (e : Event) (w : EventId) → IsTearFreeLike (execution run) e w → IsTearFreeLike (execution other) e w
    like_kept e w like = (like.0, sym (event_same w) ∙ like.1, like.2, like.3)

    tearing_stays : (e : Event) (v : EventId) (o : Option EventId) → o ≡ Some v → event_in run.log f.event ≡ Some e → BreaksNoTearing (execution run) f.event e f.byte f.writer v
        → All (IsForced run) (tearing_needs f o) → ⊥
    tearing_stays e v None is at breaks forced = cc
    tearing_stays e v (Some u) is at breaks forced =
        let same : u ≡ v = same_Some u v is in
        let first = kept (any_byte f f.writer) (all-head (IsForced run) (any_byte f f.writer) (any_byte f u ∷ []) forced) in
        let second = kept (any_byte f u) (all-head (IsForced run) (any_byte f u) [] (all-tail (IsForced run) (any_byte f f.writer) (any_byte f u ∷ []) forced)) in
        let reads : ReadsFrom (execution other) f.event second.byte v = subst (ReadsFrom (execution other) f.event second.byte) same second.reads in
        breaks.two (valid.keeps_no_tearing f.event e at breaks.reader v f.writer
        ((second.byte, reads), like_kept e v breaks.first) ((first.byte, first.reads), like_kept e f.writer breaks.second))

    -- one chain
    one_kept : (p : Premise) (chains : List FaultChain) → AreChains (execution run) chains → map ends_of chains ≡ p ∷ []
        → All (IsForced run) (flat_map (λ (c : FaultChain). step_needs c.from c.links) chains) → HappensBefore (execution other) p.from p.to
    one_kept p [] are ends forced = absurd (cc)
    one_kept p (c ∷ cs) are ends forced =
        let first : ends_of c ≡ p = cc in
        let hb : HappensBefore (execution other) c.from c.to =
        links_kept c.from c.links c.to (all-head (λ (c : FaultChain). IsShortestChain (execution run) c.from c.links c.to) c cs are)
        (all-first (IsForced run) (step_needs c.from c.links) (flat_map (λ (c : FaultChain). step_needs c.from c.links) cs) forced) in
        subst (λ (q : Premise). HappensBefore (execution other) q.from q.to) first hb

    -- and the second of two
    second_kept : (p q : Premise) (chains : List FaultChain) → AreChains (execution run) chains → map ends_of chains ≡ p ∷ q ∷ []
        → All (IsForced run) (flat_map (λ (c : FaultChain). step_needs c.from c.links) chains)
        → HappensBefore (execution other) p.from p.to × HappensBefore (execution other) q.from q.to
    second_kept p q [] are ends forced = absurd (cc)
    second_kept p q (c ∷ cs) are ends forced =
        let first : ends_of c ≡ p = cc in
        let rest : map ends_of cs ≡ q ∷ [] = cc in
        let hb : HappensBefore (execution other) c.from c.to =
        links_kept c.from c.links c.to (all-head (λ (c : FaultChain). IsShortestChain (execution run) c.from c.links c.to) c cs are)
        (all-first (IsForced run) (step_needs c.from c.links) (flat_map (λ (c : FaultChain). step_needs c.from c.links) cs) forced) in (
          subst (λ (p : Premise). HappensBefore (execution other) p.from p.to) first hb,
          one_kept q cs (all-tail (λ (c : FaultChain). IsShortestChain (execution run) c.from c.links c.to) c cs are) rest
              (all-second (IsForced run) (step_needs c.from c.links) (flat_map (λ (c : FaultChain). step_needs c.from c.links) cs) forced),
        )

    coherence_stays : (e : Event) (o : Option EventId) (chains : List FaultChain) → event_in run.log f.event ≡ Some e → BreaksCoherence (execution run) f.event e f.byte f.writer f.case o
        → AreChains (execution run) chains → map ends_of chains ≡ coherence_premises f o
        → All (IsForced run) (byte_needs f) → All (IsForced run) (flat_map (λ (c : FaultChain). step_needs c.from c.links) chains) → ⊥
    coherence_stays e o chains at breaks are ends own steps =
        let k = kept (record { reader = f.event; writer = f.writer; byte = Some f.byte }) (all-head (IsForced run) (record { reader = f.event; writer = f.writer; byte = Some f.byte }) [] own) in
        let reads : ReadsFrom (execution other) f.event f.byte f.writer = subst (λ n. ReadsFrom (execution other) f.event n f.writer) k.named k.reads in
        by o f.case breaks ends (valid.keeps_coherence f.event e f.byte f.writer at reads)
      where
        by : (o : Option EventId) (c : ℕ) → BreaksCoherence (execution run) f.event e f.byte f.writer c o → map ends_of chains ≡ coherence_premises f o
            → (HappensBefore (execution other) (At f.event) f.writer → ⊥)
            × ((v : EventId) → Writes (execution other) v (e.address + f.byte) → HappensBefore (execution other) f.writer v → HappensBefore (execution other) v (At f.event) → ⊥) → ⊥
        by None c breaks ends keeps = keeps.0 (one_kept (record { from = At f.event; to = f.writer }) chains are ends steps)
        by (Some v) c (reads_future is none before) ends keeps = cc
        by (Some v) c (written_between is u some writes after before) ends keeps =
            let same : v ≡ u = same_Some v u some in
            let both = second_kept (record { from = f.writer; to = v }) (record { from = v; to = At f.event }) chains are ends steps in
            let there : Writes (execution run) v (e.address + f.byte) = subst (λ w. Writes (execution run) w (e.address + f.byte)) (sym same) writes in
            let here : Writes (execution other) v (e.address + f.byte) = subst (λ o. IsSome o) (left_by run v (e.address + f.byte) ∙ sym (left_by other v (e.address + f.byte))) there in
            keeps.1 v here both.0 both.1

    -- a cycle whose steps are forced is one in the other run too, and its order agrees with none
    cycle_stays : (c : FaultChain) → IsCycle (execution run) c → All (IsForced run) (step_needs c.from c.links) → ⊥
    cycle_stays c cycle steps =
        let around : HappensBefore (execution other) c.from c.to = led_kept c.from c.links c.to cycle.leads cycle.some steps in
        let below = valid.keeps_order c.from c.from (subst (HappensBefore (execution other) c.from) cycle.closed around) in
        omega (arith, below)

    order_stays : (chains : List FaultChain) → AreCycle (execution run) chains → All (IsForced run) (flat_map (λ (c : FaultChain). step_needs c.from c.links) chains) → ⊥
    order_stays chains is steps =
        let one : All (IsForced run) (flat_map (λ (c : FaultChain). step_needs c.from c.links) (is.0 ∷ [])) =
        subst (λ cs. All (IsForced run) (flat_map (λ (c : FaultChain). step_needs c.from c.links) cs)) is.1 steps in
        cycle_stays is.0 is.2 (all-first (IsForced run) (step_needs is.0.from is.0.links) [] one)

    fault_stays : (chains : List FaultChain) (rule : Rule) → BreaksRule (execution run) f rule → LastsBy rule (execution run) f chains → premises f ≡ premises_by rule f
        → All (IsForced run) (own_needs_by rule f) → All (IsForced run) (flat_map (λ (c : FaultChain). step_needs c.from c.links) chains) → ⊥
    fault_stays chains WrittenValues breaks lasts of own steps = value_stays breaks.1.0 breaks.1.1 breaks.1.3 own
    fault_stays chains Order breaks lasts of own steps = order_stays chains lasts steps
    fault_stays chains Coherence breaks lasts of own steps = coherence_stays breaks.0 f.other chains breaks.1 breaks.3 lasts.chains (lasts.for_premises ∙ of) own steps
    fault_stays chains NoTearing breaks lasts of own steps = let v = breaks.1 in tearing_stays v.2.0 v.0 f.other v.1 v.2.1 v.2.3 own
    fault_stays chains SequentialConsistency breaks lasts of own steps = lasts

pub forced-fault-stays : ForcedFaultStays
forced-fault-stays run f chains shape breaks lasts forced witness other_shape valid =
    fault_stays run shape witness other_shape valid f chains f.rule breaks lasts refl
    (all-first (IsForced run) (own_needs f) (flat_map (λ (c : FaultChain). step_needs c.from c.links) chains) forced)
    (all-second (IsForced run) (own_needs f) (flat_map (λ (c : FaultChain). step_needs c.from c.links) chains) forced)
