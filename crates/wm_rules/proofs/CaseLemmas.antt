-- Faults of one byte, by their case and then by the place of their other write.
use Rattle.std.proofs.Common.{◌≡◌, ℕ, ◌+◌, ◌<◌, ◌≤◌, List, [], ◌∷◌, ◌++◌, Option, None, Some, IsSome, is_some, true, false, refl, sym, ap, subst, ◌∙◌, arith, length, slice_get, get_or, zero, suc, ⊎_elim}
use Rattle.std.specs.Option.{option_map, option_map_or}
use Rattle.std.proofs.lemmas.Bool.{cases_lt}
use Rattle.std.proofs.lemmas.Option.{slice_get_within}
use Rattle.wm_event.specs.declared.event.EventKey.{EventKey}
use Rattle.wm_event.specs.declared.event.EventId.{EventId}
use Rattle.wm_event.specs.declared.event.EventId.TheVariants.{At}
use Rattle.wm_event.specs.declared.rule.Rule.TheVariants.{Coherence, NoTearing, SequentialConsistency}
use Rattle.wm_event.specs.declared.rule.RuleFault.{RuleFault}
use Rattle.wm_event.specs.Execution.{Execution, ReadsFrom, place}
use Rattle.wm_event.specs.Faults.{AtRead, Breaks, BreaksCoherence, BreaksRule, rank, rule_number}
use Rattle.wm_event.specs.First.{BeginsWith, IsFirst, NoLater, Under}
use Rattle.wm_event.specs.LoggedRun.{LoggedRun, execution}
use Rattle.wm_event.specs.Shape.{ListsEachOnce}
use Rattle.wm_event.proofs.PlaceLemmas.{position_listed}
use Rattle.wm_event.proofs.Scan.{NoneBelow, none-found, scan-found, scan-more}
use Rattle.wm_rules.specs.declared.scan.LateRule.TheVariants.{Coherence, NoTearing, SequentialConsistency}
use Rattle.wm_rules.specs.declared.cases.OvertakingCase.TheVariants.{Synchronized, WrittenOver, ReadPast}
use Rattle.wm_rules.specs.Cases.{overtaking_number}
use Rattle.wm_rules.specs.Late.{late_number}
use Rattle.wm_rules.specs.Others.{FindsListed}
use Rattle.wm_hb.specs.Scan.{Finds}
use Rattle.wm_hb.proofs.FaultLemmas.{rule_three, same_key_parts}

-- of two faults of one case, the one whose other write is no later comes no later
pub other_no_later : (x : Execution) (a t i k c : ℕ) (f g : RuleFault) → BeginsWith (a ∷ t ∷ i ∷ k ∷ c ∷ []) (rank x f) → BeginsWith (a ∷ t ∷ i ∷ k ∷ c ∷ []) (rank x g)
    → option_map_or (place x) f.other 0 ≤ option_map_or (place x) g.other 0 → NoLater (rank x f) (rank x g)
other_no_later x a t i k c f g u v l =
    (omega (arith, u.0, v.0), λ _. (omega (arith, u.1.0, v.1.0), λ _. (omega (arith, u.1.1.0, v.1.1.0), λ _. (omega (arith, u.1.1.1.0, v.1.1.1.0), λ _. (omega (arith, u.1.1.1.1.0, v.1.1.1.1.0), λ _. (l, λ _. tt))))))

module _ (x : Execution) (a t i k : ℕ) where
  abbrev pub start : List ℕ
  start = a ∷ t ∷ i ∷ k ∷ []

  pub next_case : (f : RuleFault) → Breaks x f → BeginsWith start (rank x f) → (c : ℕ) × BeginsWith (start ++ c ∷ []) (rank x f)
  next_case f h b = (f.case, (b.0, (b.1.0, (b.1.1.0, (b.1.1.1.0, (refl, tt))))))

  -- cases are numbered from 1
  pub first_case : ((f : RuleFault) → Under (rank x) (Breaks x) start f → 1 ≤ f.case) → NoneBelow (rank x) (Breaks x) start 1
  first_case one c l f h b = let n = one f (h, (b.0, (b.1.0, (b.1.1.0, (b.1.1.1.0, tt))))) in omega (arith, l, n, b.1.1.1.1.0)

  -- what the last case finds is what all cases find, where the ones before it have none
  pub last_case : (c : ℕ) (r : Option RuleFault) → NoneBelow (rank x) (Breaks x) start c → Finds x (a ∷ t ∷ i ∷ k ∷ c ∷ []) r
      → ((f : RuleFault) → Under (rank x) (Breaks x) start f → f.case ≤ c) → Finds x start r
  last_case c None none found few =
      none-found (rank x) (Breaks x) start (c + 1)
      (λ f h b. let n = few f (h, b) in (f.case, omega arith, (b.0, (b.1.0, (b.1.1.0, (b.1.1.1.0, (refl, tt)))))))
      (scan-more (rank x) (Breaks x) start c None refl found none)
  last_case c (Some f) none found few = scan-found (rank x) (Breaks x) start c (Some f) refl found none next_case

module _ (run : LoggedRun) (once : ListsEachOnce run.log run.witness.order) (a t i k c : ℕ) (P : EventKey → Type 0) (make : EventKey → RuleFault)
    (says : (f : RuleFault) → Under (rank (execution run)) (Breaks (execution run)) (a ∷ t ∷ i ∷ k ∷ c ∷ []) f
    → (v : EventKey) × (f.other ≡ Some (At v)) × IsSome ((execution run).event_of v) × P v)
    (makes : (v : EventKey) → P v → Under (rank (execution run)) (Breaks (execution run)) (a ∷ t ∷ i ∷ k ∷ c ∷ []) (make v))
    (others : (v : EventKey) → (make v).other ≡ Some (At v)) where
  place_at : (n : ℕ) (v : EventKey) (f : RuleFault) → f.other ≡ Some (At v) → slice_get run.witness.order n ≡ Some v → option_map_or (place (execution run)) f.other 0 ≡ 1 + n
  place_at n v f o at = ap (λ (w : Option EventId). option_map_or (place (execution run)) w 0) o ∙ ap (λ m. 1 + m) (position_listed run.log run.witness.order once n v at)

  -- the first listed event of which P holds makes the first fault of the case
  pub finds_other : (r : Option EventKey) → FindsListed run.witness.order P r → Finds (execution run) (a ∷ t ∷ i ∷ k ∷ c ∷ []) (option_map make r)
  finds_other None none = λ f u. let s = says f u in let l = once.listed s.0 s.2 in none l.0 s.0 l.1 s.3
  finds_other (Some key) found = record {
    holds = makes key found.holds;
    first = λ f u. later f u (says f u);
  }
    where
      later : (f : RuleFault) → Under (rank (execution run)) (Breaks (execution run)) (a ∷ t ∷ i ∷ k ∷ c ∷ []) f
          → (v : EventKey) × (f.other ≡ Some (At v)) × IsSome ((execution run).event_of v) × P v → NoLater (rank (execution run) (make key)) (rank (execution run) f)
      later f u s =
          let l = once.listed s.0 s.2 in
          let mine = place_at found.place key (make key) (others key) found.listed in
          let its = place_at l.0 s.0 f s.1 l.1 in
          let order : found.place ≤ l.0 = ⊎_elim (λ (e : l.0 < found.place). absurd (found.first l.0 s.0 e l.1 s.3)) (λ (e : found.place ≤ l.0). e) (cases_lt l.0 found.place) in
          other_no_later (execution run) a t i k c (make key) f (makes key found.holds).1 u.1 (omega (arith, mine, its, order))

module _ (x : Execution) where
  -- the first rule with a fault has the first fault of all
  pub rule_found : (a : ℕ) (r : Option RuleFault) → is_some r ≡ true → Finds x (a ∷ []) r → NoneBelow (rank x) (Breaks x) [] a → Finds x [] r
  rule_found a r some found none = scan-found (rank x) (Breaks x) [] a r some found none (λ f h b. (rule_number f.rule, (refl, tt)))

  pub of_all : (f : RuleFault) → Finds x [] (Some f) → IsFirst (rank x) (Breaks x) f
  of_all f found = record { holds = found.holds.0; first = λ g h. found.first g (h, tt) }

  pub none_of : (begin : List ℕ) → Finds x [] None → Finds x begin None
  none_of begin none f u = none f (u.0, tt)

-- the last three rules are judged in the order of their numbers
pub late_at : (i : ℕ) → i < 3 → late_number (get_or (Coherence ∷ NoTearing ∷ SequentialConsistency ∷ []) i Coherence) ≡ i + 3
late_at zero l = refl
late_at (suc zero) l = refl
late_at (suc (suc zero)) l = refl
late_at (suc (suc (suc i))) l = absurd (omega arith)

-- the cases of V5 are looked at in the order of their numbers
pub overtaking_at : (i : ℕ) → i < 3 → overtaking_number (get_or (Synchronized ∷ WrittenOver ∷ ReadPast ∷ []) i Synchronized) ≡ i + 1
overtaking_at zero l = refl
overtaking_at (suc zero) l = refl
overtaking_at (suc (suc zero)) l = refl
overtaking_at (suc (suc (suc i))) l = absurd (omega arith)

-- where none of the bytes so far has a fault, nor the next one
pub byte_more : (x : Execution) (a t i k : ℕ) (r : Option RuleFault) → is_some r ≡ false → Finds x (a ∷ t ∷ i ∷ k ∷ []) r → NoneBelow (rank x) (Breaks x) (a ∷ t ∷ i ∷ []) k
    → NoneBelow (rank x) (Breaks x) (a ∷ t ∷ i ∷ []) (k + 1)
byte_more x a t i k r none found seen = scan-more (rank x) (Breaks x) (a ∷ t ∷ i ∷ []) k r none found seen

-- a fault of V1 or of V3 is at one of the bytes that have a writer
module _ (x : Execution) (t i : ℕ) (writers : List EventId) (same : writers ≡ x.writers_of (record { thread = t; number = i })) (f : RuleFault) where
  read_byte : (f.event.thread ≡ t) → (f.event.number ≡ i) → ReadsFrom x f.event f.byte f.writer → f.byte < length writers
  read_byte thread number reads =
      let key : f.event ≡ record { thread = t; number = i } = same_key_parts f.event (record { thread = t; number = i }) thread number in
      slice_get_within writers f.byte f.writer (ap (λ (ws : List EventId). slice_get ws f.byte) (same ∙ ap x.writers_of (sym key)) ∙ reads)

  pub coherence_byte : Under (rank x) (Breaks x) (3 ∷ t ∷ i ∷ []) f → f.byte < length writers
  coherence_byte u =
      let says : AtRead x f (λ e. BreaksCoherence x f.event e f.byte f.writer f.case f.other) = subst (BreaksRule x f) (rule_three f.rule u.1.0) u.0 in
      read_byte u.1.1.0 u.1.1.1.0 says.2
