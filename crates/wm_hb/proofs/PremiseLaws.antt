-- The premises of a fault hold, and the order is kept where it has any.
use Rattle.std.proofs.Common.{◌≡◌, ℕ, ◌≤◌, List, [], ◌∷◌, Option, None, Some, length, Result, Ok, Err, refl, sym, ◌∙◌, subst, arith}
use Rattle.std.specs.Prelude.{IfOk}
use Rattle.std.proofs.lemmas.List.Elements.{All-cons}
use Rattle.std.proofs.lemmas.Option.{same_Some}
use Rattle.wm_event.specs.declared.event.Event.{Event}
use Rattle.wm_event.specs.declared.event.EventId.{EventId}
use Rattle.wm_event.specs.declared.event.EventId.TheVariants.{At}
use Rattle.wm_event.specs.declared.rule.Rule.{Rule}
use Rattle.wm_event.specs.declared.rule.Rule.TheVariants.{WrittenValues, Order, Coherence, NoTearing, SequentialConsistency}
use Rattle.wm_event.specs.declared.rule.RuleFault.{RuleFault}
use Rattle.wm_event.specs.declared.rule.Judgement.TheVariants.{Broken}
use Rattle.wm_event.specs.Execution.{Execution}
use Rattle.wm_event.specs.Faults.{BreaksCoherence, BreaksRule, Judges, reads_future, rule_number, written_between}
use Rattle.wm_event.specs.HappensBefore.{HappensBefore}
use Rattle.wm_event.specs.Rules.{Overtakes, read_past, synchronized, written_over}
use Rattle.wm_hb.specs.Edges.{IsFirstBroken}
use Rattle.wm_hb.specs.declared.fault_chain.FaultChain.{FaultChain}
use Rattle.wm_hb.specs.Premises.{FindsChains, FindsShown, Hold, before, coherence_premises, premises, premises_by, sequential_premises}
use Rattle.wm_hb.specs.declared.premise.Premise.{Premise}

-- what follows from what holds of an Ok holds of it
pub when-ok : {A E : Type 0} (P Q : A → Type 0) → ((a : A) → P a → Q a) → (r : Result A E) → IfOk r P → IfOk r Q
when-ok P Q follows (Ok a) h = follows a h
when-ok P Q follows (Err e) h = tt

module _ (x : Execution) where
  none_hold : Hold x []
  none_hold k d l = absurd (omega arith)

  one_holds : (a b : EventId) → HappensBefore x a b → Hold x (before a b ∷ [])
  one_holds a b h = All-cons (λ (p : Premise). HappensBefore x p.from p.to) (before a b) [] h none_hold

  two_hold : (a b c d : EventId) → HappensBefore x a b → HappensBefore x c d → Hold x (before a b ∷ before c d ∷ [])
  two_hold a b c d h k = All-cons (λ (p : Premise). HappensBefore x p.from p.to) (before a b) (before c d ∷ []) h (one_holds c d k)

  coherence_holds : (f : RuleFault) (e : Event) (c : ℕ) (o : Option EventId) → BreaksCoherence x f.event e f.byte f.writer c o → Hold x (coherence_premises f o)
  coherence_holds f e c None (reads_future is none h) = one_holds (At f.event) f.writer h
  coherence_holds f e c None (written_between is v some writes after h) = absurd (cc)
  coherence_holds f e c (Some u) (reads_future is none h) = absurd (cc)
  coherence_holds f e c (Some u) (written_between is v some writes after h) =
      let same : v ≡ u = sym (same_Some u v some) in
      two_hold f.writer u u (At f.event) (subst (HappensBefore x f.writer) same after) (subst (λ w. HappensBefore x w (At f.event)) same h)

  sequential_holds : (f : RuleFault) (e : Event) (v : EventId) (c : ℕ) → Overtakes x f.writer v f.event e c → Hold x (sequential_premises f c (Some v))
  sequential_holds f e v c (synchronized is u same syncs ranges) = subst (λ n. Hold x (sequential_premises f n (Some v))) (sym is) none_hold
  sequential_holds f e v c (written_over is w there atomic first second ranges) =
      subst (λ n. Hold x (sequential_premises f n (Some v))) (sym is) (two_hold f.writer (At f.event) v (At f.event) first second)
  sequential_holds f e v c (read_past is atomic first second ranges) =
      subst (λ n. Hold x (sequential_premises f n (Some v))) (sym is) (two_hold f.writer (At f.event) f.writer v first second)

  premises_hold : (f : RuleFault) (rule : Rule) → BreaksRule x f rule → Hold x (premises_by rule f)
  premises_hold f WrittenValues breaks = none_hold
  premises_hold f Order breaks = none_hold
  premises_hold f Coherence breaks = coherence_holds f breaks.0 f.case f.other breaks.3
  premises_hold f NoTearing breaks = none_hold
  premises_hold f SequentialConsistency breaks =
      subst (λ o. Hold x (sequential_premises f f.case o)) (sym breaks.1) (sequential_holds f breaks.2.0 breaks.0 f.case breaks.2.3.overtakes)

  -- the premises of a fault hold
  pub premises-hold : (f : RuleFault) → Judges x (Broken f) → Hold x (premises f)
  premises-hold f first = premises_hold f f.rule first.holds

  rule_of : (f : RuleFault) (rule : Rule) → (length (premises_by rule f) ≡ 0 → ⊥) → 3 ≤ rule_number rule
  rule_of f WrittenValues some = absurd (some refl)
  rule_of f Order some = absurd (some refl)
  rule_of f Coherence some = omega arith
  rule_of f NoTearing some = omega arith
  rule_of f SequentialConsistency some = omega arith

  -- a first fault that has premises doesn't come after a broken edge
  pub order-kept : (f edge : RuleFault) → (length (premises f) ≡ 0 → ⊥) → IsFirstBroken x edge → Judges x (Broken f) → ⊥
  order-kept f edge some broken first =
      let later = first.first edge broken.holds.0 in
      let second : rule_number edge.rule ≡ 2 = broken.holds.1.0 in
      let low : rule_number f.rule ≤ rule_number edge.rule = later.0 in
      let high : 3 ≤ rule_number f.rule = rule_of f f.rule some in
      omega (arith, low, high, second)

  -- the chains of the premises show the fault
  pub shown : (f : RuleFault) (list : List Premise) → list ≡ premises f → (r : Option (List FaultChain)) → FindsChains x list r → FindsShown x f r
  shown f list same None none = λ first. none (subst (Hold x) (sym same) (premises-hold f first))
  shown f list same (Some chains) found = record { chains = found.0; for_premises = found.1 ∙ same }
