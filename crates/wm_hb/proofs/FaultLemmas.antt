-- The meaning of a fault of each rule, and the first one at a byte.
use Rattle.std.proofs.Common.{◌≡◌, ◌≢◌, ℕ, ◌+◌, ◌≤◌, [], ◌∷◌, Option, None, Some, arith, refl, sym, ap, subst, ◌∙◌, IsSome}
use Rattle.std.proofs.lemmas.Option.{same_Some}
use Rattle.wm_event.specs.declared.event.Event.{Event}
use Rattle.wm_event.specs.declared.event.EventKey.{EventKey}
use Rattle.wm_event.specs.declared.event.EventId.{EventId}
use Rattle.wm_event.specs.declared.event.EventId.TheVariants.{At}
use Rattle.wm_event.specs.declared.rule.Rule.{Rule}
use Rattle.wm_event.specs.declared.rule.Rule.TheVariants.{WrittenValues, Order, Coherence, NoTearing, SequentialConsistency}
use Rattle.wm_event.specs.declared.rule.RuleFault.{RuleFault}
use Rattle.wm_event.specs.Byte.{byte_of}
use Rattle.wm_event.specs.First.{NoLater, IsFirst, Under}
use Rattle.wm_event.specs.Execution.{Execution, ReadsFrom, byte_by, place}
use Rattle.std.specs.Option.{option_map_or}
use Rattle.wm_event.proofs.Scan.{NoLater-after}
use Rattle.wm_event.specs.Faults.{Breaks, BreaksRule, BreaksWrittenValues, reads_itself, not_written, other_value, BreaksOrder, in_thread, synchronized, AtRead, rank, rule_number}
use Rattle.wm_event.specs.Event.{key_of}
use Rattle.wm_hb.specs.Scan.{Finds}

pub rule_one : (r : Rule) → rule_number r ≡ 1 → r ≡ WrittenValues
rule_one WrittenValues h = refl
rule_one Order h = absurd (omega arith)
rule_one Coherence h = absurd (omega arith)
rule_one NoTearing h = absurd (omega arith)
rule_one SequentialConsistency h = absurd (omega arith)

pub rule_two : (r : Rule) → rule_number r ≡ 2 → r ≡ Order
rule_two WrittenValues h = absurd (omega arith)
rule_two Order h = refl
rule_two Coherence h = absurd (omega arith)
rule_two NoTearing h = absurd (omega arith)
rule_two SequentialConsistency h = absurd (omega arith)

pub same_key_parts : (a b : EventKey) → a.thread ≡ b.thread → a.number ≡ b.number → a ≡ b
same_key_parts a b s t = λ i. record { thread = s i; number = t i }

-- the third case of the first rule is the first one where the two others don't hold
pub third_case : (x : Execution) (r : EventKey) (e : Event) (k : ℕ) (w : EventId) (b : ℕ) → w ≢ At r → byte_by x w (e.address + k) ≡ Some b → b ≢ byte_of e.read k → IsFirst (λ c. c ∷ []) (BreaksWrittenValues x r e k w) 3
third_case x r e k w b other written differs = record {
  holds = other_value refl b written differs;
  first = λ c h. none_before c h;
}
  where
    none_before : (c : ℕ) → BreaksWrittenValues x r e k w c → NoLater (3 ∷ []) (c ∷ [])
    none_before c (reads_itself is same) = absurd (other same)
    none_before c (not_written is none) = absurd (cc)
    none_before c (other_value is d h g) = (omega arith, λ _. tt)

-- what holds of a read, its byte and its writer there also holds of the same read and byte
pub read_moves : (x : Execution) (Q : EventKey → Event → ℕ → EventId → Type 0) (r s : EventKey) (e d : Event) (k j : ℕ) (w v : EventId)
    → s ≡ r → j ≡ k → x.event_of r ≡ Some e → x.event_of s ≡ Some d → ReadsFrom x r k w → ReadsFrom x s j v → Q s d j v → Q r e k w
read_moves x Q r s e d k j w v sr jk there there' reads reads' q =
    let de : d ≡ e = same_Some d e (sym there' ∙ ap x.event_of sr ∙ there) in
    let vw : v ≡ w = same_Some v w (sym reads' ∙ (rw (sr, jk) reads)) in
    subst (λ r. Q r e k w) sr (subst (λ e. Q s e k w) de (subst (λ k. Q s d k w) jk (subst (λ w. Q s d j w) vw q)))

-- the meaning of a fault of V1 at a byte
pub value_fault_says : (x : Execution) (e : Event) (k : ℕ) (w : EventId) → x.event_of (key_of e) ≡ Some e → ReadsFrom x (key_of e) k w
    → (f : RuleFault) → Under (rank x) (Breaks x) (1 ∷ e.thread ∷ e.number ∷ k ∷ []) f → BreaksWrittenValues x (key_of e) e k w f.case
value_fault_says x e k w there reads f u =
    let says : AtRead x f (λ e. BreaksWrittenValues x f.event e f.byte f.writer f.case) = (subst (BreaksRule x f) (rule_one f.rule u.1.0) u.0).1 in
    read_moves x (λ r e k w. BreaksWrittenValues x r e k w f.case) (key_of e) f.event e says.0 k f.byte w f.writer
    (same_key_parts f.event (key_of e) u.1.1.0 u.1.1.1.0) u.1.1.1.1.0 there says.1 reads says.2 says.3

pub value_fault_none : (x : Execution) (e : Event) (k : ℕ) (w : EventId) → x.event_of (key_of e) ≡ Some e → ReadsFrom x (key_of e) k w
    → ((c : ℕ) → BreaksWrittenValues x (key_of e) e k w c → ⊥) → Finds x (1 ∷ e.thread ∷ e.number ∷ k ∷ []) None
value_fault_none x e k w there reads none f u = none f.case (value_fault_says x e k w there reads f u)

pub value_fault_some : (x : Execution) (e : Event) (k : ℕ) (w : EventId) (c : ℕ) → x.event_of (key_of e) ≡ Some e → ReadsFrom x (key_of e) k w
    → IsFirst (λ c. c ∷ []) (BreaksWrittenValues x (key_of e) e k w) c → Finds x (1 ∷ e.thread ∷ e.number ∷ k ∷ []) (Some (record { rule = WrittenValues; case = c; event = key_of e; byte = k; writer = w; other = None }))
value_fault_some x e k w c there reads found = record {
  holds = ((refl, (e, there, reads, found.holds)), (refl, (refl, (refl, (refl, tt)))));
  first = λ f u. NoLater-after (1 ∷ e.thread ∷ e.number ∷ k ∷ []) (c ∷ 0 ∷ []) (rank x f) u.1 (after f (found.first f.case (value_fault_says x e k w there reads f u)).0);
}
  where
    after : (f : RuleFault) → c ≤ f.case → NoLater (c ∷ 0 ∷ []) (f.case ∷ option_map_or (place x) f.other 0 ∷ [])
    after f h = (h, λ _. (omega arith, λ _. tt))

pub some_of : {X : Type 0} (o : Option X) (y : X) → o ≡ Some y → IsSome o
some_of o y h = subst (λ o. IsSome o) (sym h) refl

edge_listed : (x : Execution) (r p : EventKey) (k c : ℕ) → BreaksOrder x r p k c → IsSome (x.event_of r)
edge_listed x r p k c (in_thread is at s next) = s.second
edge_listed x r p k c (synchronized is reads s) = some_of (x.event_of r) s.reader s.is_reader

rule_listed : (x : Execution) (f : RuleFault) (r : Rule) → BreaksRule x f r → IsSome (x.event_of f.event)
rule_listed x f WrittenValues h = some_of (x.event_of f.event) h.1.0 h.1.1
rule_listed x f Order h = edge_listed x f.event h.1.0 f.byte f.case h.1.3
rule_listed x f Coherence h = some_of (x.event_of f.event) h.0 h.1
rule_listed x f NoTearing h = some_of (x.event_of f.event) h.1.2.0 h.1.2.1
rule_listed x f SequentialConsistency h = some_of (x.event_of f.event) h.2.0 h.2.1

-- a fault is at an event of the log
pub fault_listed : (x : Execution) (f : RuleFault) → Breaks x f → IsSome (x.event_of f.event)
fault_listed x f h = rule_listed x f f.rule h

pub rule_three : (r : Rule) → rule_number r ≡ 3 → r ≡ Coherence
rule_three WrittenValues h = absurd (omega arith)
rule_three Order h = absurd (omega arith)
rule_three Coherence h = refl
rule_three NoTearing h = absurd (omega arith)
rule_three SequentialConsistency h = absurd (omega arith)

pub rule_four : (r : Rule) → rule_number r ≡ 4 → r ≡ NoTearing
rule_four WrittenValues h = absurd (omega arith)
rule_four Order h = absurd (omega arith)
rule_four Coherence h = absurd (omega arith)
rule_four NoTearing h = refl
rule_four SequentialConsistency h = absurd (omega arith)

pub rule_five : (r : Rule) → rule_number r ≡ 5 → r ≡ SequentialConsistency
rule_five WrittenValues h = absurd (omega arith)
rule_five Order h = absurd (omega arith)
rule_five Coherence h = absurd (omega arith)
rule_five NoTearing h = absurd (omega arith)
rule_five SequentialConsistency h = refl
