-- The part of a class of writes that races with an event.
use Rattle.std.proofs.Common.{◌≡◌, ℕ, ◌<◌, ◌≤◌, List, Bool, true, false, Some, IsTrue, ltb, slice_get, length, get_or, arith, ap, subst, ⊎_elim, ◌∙◌, sym}
use Rattle.std.proofs.lemmas.Bool.{cases_lt, false≢true, ltb-false, ltb-true}
use Rattle.std.proofs.lemmas.Option.{get_or_from_slice_get, slice_get-get_or, slice_get_within}
use Rattle.std.specs.List.Sorted.{IsNonDecreasingBy, IsPartitionPoint}
use Rattle.wm_event.specs.declared.event.EventId.TheVariants.{At}
use Rattle.wm_event.specs.LoggedRun.{LoggedRun, execution}
use Rattle.wm_hb.specs.Steps.{DecidesBefore}
use Rattle.wm_hb.specs.Turn.{IsTurn, TurnsOnce}
use Rattle.wm_races.specs.Classes.{RisePlaces}
use Rattle.wm_races.specs.Parts.{AreInSequenceAt, AreParted, AtIndex, IsBeforeAt, IsNotBeforeAt}
use Rattle.wm_hb.proofs.SequenceLemmas.{before_join}

module _ (run : LoggedRun) where
  pub decided : (m n : ℕ) (b : Bool) → DecidesBefore run m n b → IsTrue b → IsBeforeAt run m n
  decided m n b decides is a z at_a at_z = (decides a z at_a at_z).0 is

  pub decided_not : (m n : ℕ) (b : Bool) → DecidesBefore run m n b → b ≡ false → IsNotBeforeAt run m n
  decided_not m n b decides is a z at_a at_z before = false≢true (sym is ∙ (decides a z at_a at_z).1 before)

  module _ (places : List ℕ) (in_sequence : AreInSequenceAt run places) where
    -- those before one that happens before the event do so too
    pub before_before : (i j m n place : ℕ) → i < j → slice_get places i ≡ Some m → slice_get places j ≡ Some n → IsBeforeAt run n place → IsBeforeAt run m place
    before_before i j m n place l at_m at_n before a z at_a at_z =
        let k = in_sequence.listed j n at_n in
        before_join (execution run) (At a) (At k.0) (At z) (in_sequence.sequence i j m n l at_m at_n a k.0 at_a k.1) (before k.0 z k.1 at_z)

    -- those after one that does not happen before the event do not either
    pub not_before_before : (i j m n place : ℕ) → i < j → slice_get places i ≡ Some m → slice_get places j ≡ Some n → IsNotBeforeAt run m place → IsNotBeforeAt run n place
    not_before_before i j m n place l at_m at_n not_before a z at_a at_z before =
        let k = in_sequence.listed i m at_m in
        not_before k.0 z k.1 at_z (before_join (execution run) (At k.0) (At a) (At z) (in_sequence.sequence i j m n l at_m at_n k.0 a k.1 at_a) before)

    -- the event happens before those after one that it happens before
    pub before_after : (i j m n place : ℕ) → i < j → slice_get places i ≡ Some m → slice_get places j ≡ Some n → IsBeforeAt run place m → IsBeforeAt run place n
    before_after i j m n place l at_m at_n before z a at_z at_a =
        let k = in_sequence.listed i m at_m in
        before_join (execution run) (At z) (At k.0) (At a) (before z k.0 at_z k.1) (in_sequence.sequence i j m n l at_m at_n k.0 a k.1 at_a)

    -- it does not happen before those before one that it does not happen before
    pub not_after_after : (i j m n place : ℕ) → i < j → slice_get places i ≡ Some m → slice_get places j ≡ Some n → IsNotBeforeAt run place n → IsNotBeforeAt run place m
    not_after_after i j m n place l at_m at_n not_before z a at_z at_a before =
        let k = in_sequence.listed j n at_n in
        not_before z k.0 at_z k.1 (before_join (execution run) (At z) (At a) (At k.0) before (in_sequence.sequence i j m n l at_m at_n a k.0 at_a k.1))

    -- so of those the early ones, which happen before the event, come first
    pub before_turns : (place : ℕ) → TurnsOnce (AtIndex (λ o. IsBeforeAt run o place) places) (AtIndex (λ o. IsNotBeforeAt run o place) places) (length places)
    before_turns place = record {
      falls = λ i j l within early o at.
          let n = get_or places j 0 in
          let at_n = slice_get-get_or places j 0 within in
          before_before i j o n place l at at_n (early n at_n);
      rises = λ i j l within late o at.
          let m = get_or places i 0 in
          let at_m = slice_get-get_or places i 0 (omega (arith, l, within)) in
          not_before_before i j m o place l at_m at (late m at_m);
    }

    -- and the late ones, which the event happens before, come last
    pub after_turns : (place : ℕ) → TurnsOnce (AtIndex (λ o. IsNotBeforeAt run place o) places) (AtIndex (λ o. IsBeforeAt run place o) places) (length places)
    after_turns place = record {
      falls = λ i j l within early o at.
          let n = get_or places j 0 in
          let at_n = slice_get-get_or places j 0 within in
          not_after_after i j o n place l at at_n (early n at_n);
      rises = λ i j l within late o at.
          let m = get_or places i 0 in
          let at_m = slice_get-get_or places i 0 (omega (arith, l, within)) in
          before_after i j m o place l at_m at (late m at_m);
    }

-- the places up to the turn, and the others
pub parted : (P Q : ℕ → Type 0) (places : List ℕ) (n : ℕ) → IsTurn (AtIndex P places) (AtIndex Q places) (length places) n → AreParted P Q places n
parted P Q places n turn = record {
  bound = turn.bound;
  first = λ i o l at. turn.first i l o at;
  rest = λ i o l at. turn.rest i l (slice_get_within places i o at) o at;
}

-- places that rise
pub rise : (places : List ℕ) → RisePlaces places → IsNonDecreasingBy (λ (o : ℕ). o) places
rise places rises i j d l inside = ⊎_elim
    (λ (h : i < j). let r = rises i j (get_or places i d) (get_or places j d) h (slice_get-get_or places i d (omega (arith, h, inside))) (slice_get-get_or places j d inside) in omega (arith, r))
    (λ (h : j ≤ i). let e : i ≡ j = omega (arith, l, h) in let s = ap (λ (k : ℕ). get_or places k d) e in omega (arith, s))
    (cases_lt i j)

-- the places below one, and the others
pub parted_below : (places : List ℕ) (place n : ℕ) → n ≤ length places → IsPartitionPoint (λ o. ltb o place ≡ true) (λ o. ltb o place ≡ false) places n
    → AreParted (λ o. o < place) (λ o. place ≤ o) places n
parted_below places place n bound point = record {
  bound = bound;
  first = λ i o l at. let is = point.0 i o (omega arith) l in subst (λ (z : ℕ). z < place) (get_or_from_slice_get places i o o at) (ltb-true (get_or places i o) place is);
  rest = λ i o l at. let is = point.1 i o l (slice_get_within places i o at) in subst (λ (z : ℕ). place ≤ z) (get_or_from_slice_get places i o o at) (ltb-false (get_or places i o) place is);
}
