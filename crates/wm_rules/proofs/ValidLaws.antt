-- Where no fault of V3 to V5 is found, the rule holds.
use Rattle.std.proofs.Common.{◌≡◌, ◌≢◌, ℕ, ◌<◌, ◌≤◌, arith, subst, [], ◌∷◌, None, Some, refl, sym, ap, ◌∙◌, slice_get, ◌⊎◌, inl, inr, ⊎_elim}
use Rattle.std.proofs.lemmas.Bool.{cases_eq, cases_order}
use Rattle.std.proofs.lemmas.Option.{same_Some}
use Rattle.wm_event.specs.declared.event.EventKey.{EventKey}
use Rattle.wm_event.specs.declared.event.EventId.{EventId}
use Rattle.wm_event.specs.declared.event.EventId.TheVariants.{Init, At}
use Rattle.wm_event.specs.declared.rule.Rule.TheVariants.{Coherence, NoTearing, SequentialConsistency}
use Rattle.wm_event.specs.Execution.{Execution, ReadsFrom}
use Rattle.wm_event.specs.Faults.{reads_future, written_between}
use Rattle.wm_event.specs.LoggedRun.{LoggedRun, execution}
use Rattle.wm_event.specs.Rules.{IsTearFreeWriter, IsValid, KeepsSequentialConsistency, KeepsCoherence, KeepsNoTearing}
use Rattle.wm_event.specs.declared.rule.Rule.{Rule}
use Rattle.wm_event.specs.declared.rule.Rule.TheVariants.{WrittenValues, Order}
use Rattle.wm_event.specs.declared.rule.RuleFault.{RuleFault}
use Rattle.wm_event.specs.Faults.{Breaks, BreaksRule, rank, rule_number}
use Rattle.wm_event.specs.First.{IsFirst}
use Rattle.wm_event.specs.Rules.{KeepsOrder}
use Rattle.wm_hb.proofs.Broken.{disagrees}
use Rattle.wm_hb.specs.Scan.{Finds}
use Rattle.wm_rules.proofs.CaseLemmas.{none_of, of_all, rule_found}
use Rattle.wm_hb.proofs.FaultLemmas.{same_key_parts}
use Rattle.wm_hb.proofs.Valid.{has_earlier, keeps_order, keeps_written_values}

pub keeps_coherence : (x : Execution) → Finds x (3 ∷ []) None → KeepsCoherence x
keeps_coherence x none r e k w there reads = (
  λ before. none (record { rule = Coherence; case = 1; event = r; byte = k; writer = w; other = None })
      ((e, there, reads, reads_future refl refl before), (refl, tt)),
  λ v writes after before. none (record { rule = Coherence; case = 2; event = r; byte = k; writer = w; other = Some v })
      ((e, there, reads, written_between refl v refl writes after before), (refl, tt)),
)

same_key_or_not : (a b : EventKey) → (a ≡ b) ⊎ (a ≢ b)
same_key_or_not a b = ⊎_elim
    (λ (s : a.thread ≡ b.thread). ⊎_elim
    (λ (t : a.number ≡ b.number). inl (same_key_parts a b s t))
    (λ (d : a.number ≢ b.number). inr (λ e. d (ap (λ (k : EventKey). k.number) e)))
    (cases_eq a.number b.number))
    (λ (d : a.thread ≢ b.thread). inr (λ e. d (ap (λ (k : EventKey). k.thread) e)))
    (cases_eq a.thread b.thread)

same_or_not : (a b : EventId) → (a ≡ b) ⊎ (a ≢ b)
same_or_not Init Init = inl refl
same_or_not Init (At b) = inr (λ e. cc)
same_or_not (At a) Init = inr (λ e. cc)
same_or_not (At a) (At b) = ⊎_elim (λ (s : a ≡ b). inl (ap At s)) (λ (d : a ≢ b). inr (λ e. d (cc))) (same_key_or_not a b)

pub keeps_no_tearing : (x : Execution) → Finds x (4 ∷ []) None → KeepsNoTearing x
keeps_no_tearing x none r e there tear_free v w first second = ⊎_elim (λ (s : v ≡ w). s) (λ (d : v ≢ w). absurd (torn d)) (same_or_not v w)
  where
    at : (j k : ℕ) (a b : EventId) → j < k → ReadsFrom x r j a → ReadsFrom x r k b → a ≢ b → IsTearFreeWriter x r e a → IsTearFreeWriter x r e b → ⊥
    at j k a b l i h d p q = none (record { rule = NoTearing; case = 1; event = r; byte = k; writer = b; other = Some a })
        ((refl, (a, refl, (e, there, h, record { reader = tear_free; earlier = (j, l, i); two = d; first = p.1; second = q.1 }))), (refl, tt))

    torn : v ≢ w → ⊥
    torn d =
        let j = first.0.0 in
        let k = second.0.0 in
        ⊎_elim
        (λ (s : j ≡ k). d (same_Some v w (sym first.0.1 ∙ ap (slice_get (x.writers_of r)) s ∙ second.0.1)))
        (⊎_elim
        (λ (l : j < k). at j k v w l first.0.1 second.0.1 d first second)
        (λ (l : k < j). at k j w v l second.0.1 first.0.1 (λ s. d (sym s)) second first))
        (cases_order j k)

pub keeps_sequential_consistency : (x : Execution) → Finds x (5 ∷ []) None → KeepsSequentialConsistency x
keeps_sequential_consistency x none r e k w there reads v c write after before over =
    none (record { rule = SequentialConsistency; case = c; event = r; byte = k; writer = w; other = Some v })
    ((v, refl, (e, there, reads, record { write = write; between = (after, before); overtakes = over })), (refl, tt))

-- a run in which no fault is found is a valid execution
pub is_valid : (run : LoggedRun) → Finds (execution run) [] None → IsValid (execution run)
is_valid run none = record {
  keeps_written_values = keeps_written_values (execution run) (none_of (execution run) (1 ∷ []) none);
  keeps_order = keeps_order (execution run) (has_earlier run) (none_of (execution run) (2 ∷ []) none);
  keeps_coherence = keeps_coherence (execution run) (none_of (execution run) (3 ∷ []) none);
  keeps_no_tearing = keeps_no_tearing (execution run) (none_of (execution run) (4 ∷ []) none);
  keeps_sequential_consistency = keeps_sequential_consistency (execution run) (none_of (execution run) (5 ∷ []) none);
}

-- a rule's number is one of the five
rule_small : (r : Rule) → rule_number r < 6
rule_small WrittenValues = omega arith
rule_small Order = omega arith
rule_small Coherence = omega arith
rule_small NoTearing = omega arith
rule_small SequentialConsistency = omega arith

pub from_value : (x : Execution) (f : RuleFault) → Finds x (1 ∷ []) (Some f) → IsFirst (rank x) (Breaks x) f
from_value x f found = of_all x f (rule_found x 1 (Some f) refl found (λ j l g h b. first_rule g.rule j l b.0))
  where
    first_rule : (r : Rule) (j : ℕ) → j < 1 → rule_number r ≡ j → ⊥
    first_rule WrittenValues j l e = absurd (omega arith)
    first_rule Order j l e = absurd (omega arith)
    first_rule Coherence j l e = absurd (omega arith)
    first_rule NoTearing j l e = absurd (omega arith)
    first_rule SequentialConsistency j l e = absurd (omega arith)

pub from_order : (x : Execution) (f : RuleFault) → Finds x (1 ∷ []) None → Finds x (2 ∷ []) (Some f) → IsFirst (rank x) (Breaks x) f
from_order x f none found = of_all x f (rule_found x 2 (Some f) refl found (λ j l g h b. none_before g h j l b.0))
  where
    none_before : (g : RuleFault) → Breaks x g → (j : ℕ) → j < 2 → rule_number g.rule ≡ j → ⊥
    none_before g h j l e = by g.rule refl
      where
        by : (r : Rule) → g.rule ≡ r → ⊥
        by WrittenValues s = none g (h, (ap rule_number s, tt))
        by Order s = let n = ap rule_number s in absurd (omega arith)
        by Coherence s = let n = ap rule_number s in absurd (omega arith)
        by NoTearing s = let n = ap rule_number s in absurd (omega arith)
        by SequentialConsistency s = let n = ap rule_number s in absurd (omega arith)

-- where V1 has no fault and the order agrees, a fault is of a later rule
pub later_rule : (x : Execution) → Finds x (1 ∷ []) None → KeepsOrder x → (f : RuleFault) → Breaks x f → 3 ≤ rule_number f.rule
later_rule x none agrees f h = by f.rule refl
  where
    by : (r : Rule) → f.rule ≡ r → 3 ≤ rule_number f.rule
    by WrittenValues s = absurd (none f (h, (ap rule_number s, tt)))
    by Order s = absurd (disagrees x f (subst (BreaksRule x f) s h) agrees)
    by Coherence s = let n = ap rule_number s in omega arith
    by NoTearing s = let n = ap rule_number s in omega arith
    by SequentialConsistency s = let n = ap rule_number s in omega arith
