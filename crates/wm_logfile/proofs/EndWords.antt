-- A list that begins with the word of no end: no end is read from it, and the word is its first fault.
use Rattle.std.proofs.Common.{Bor, Decides, ◌≡◌, ℕ, ◌||◌, Bool, true, false, cond, List, [], ◌∷◌, length, get_or, map, Option, Some, None, codes, option_map, refl, sym, subst, arith}
use Rattle.std.specs.Str.{bytes_eq}
use Rattle.std.proofs.lemmas.Slice.Eq.{bytes_eq-Decides}
use Rattle.serde_json.specs.Data.{Data}
use Rattle.serde_json.specs.Find.{as_str}
use Rattle.serde_json.specs.View.{view}
use Rattle.serde_json.specs.declared.value.Value.{Value}
use Rattle.wm_event.specs.declared.log.End.TheVariants.{Cut}
use Rattle.wm_logfile.specs.declared.fault.ReadFault.TheVariants.{Shape}
use Rattle.wm_logfile.specs.Forms.{is_word, case_fault, tagged_fault}
use Rattle.wm_logfile.specs.Grammar.{ending_cases}
use Rattle.wm_logfile.specs.Paths.{child}
use Rattle.wm_logfile.specs.Reading.{◌>>=◌, end_from}
use Rattle.wm_logfile.proofs.FirstFaults.{cond_of_none}

-- the word of no end
abbrev pub IsOther : Option (List ℕ) → Type 0
IsOther word = is_word (codes "done" ∷ codes "trap" ∷ codes "cut" ∷ []) word ≡ false

-- ---- the word that a value holds

refuted : {P : Type 0} (b : Bool) → Decides b P → (P → ⊥) → b ≡ false
refuted true decides never = absurd (never (decides.0 refl))
refuted false decides never = refl

none_of_three : (a b c : Bool) → a ≡ false → b ≡ false → c ≡ false → (a || (b || (c || false))) ≡ false
none_of_three a b c x y z = rw (x, y, z) refl

other_bytes : (s : List ℕ) → (s ≡ codes "done" → ⊥) → (s ≡ codes "trap" → ⊥) → (s ≡ codes "cut" → ⊥) → IsOther (Some s)
other_bytes s done trap cut =
    none_of_three (bytes_eq s (codes "done")) (bytes_eq s (codes "trap")) (bytes_eq s (codes "cut"))
    (refuted (bytes_eq s (codes "done")) (bytes_eq-Decides s (codes "done")) done) (refuted (bytes_eq s (codes "trap")) (bytes_eq-Decides s (codes "trap")) trap)
    (refuted (bytes_eq s (codes "cut")) (bytes_eq-Decides s (codes "cut")) cut)

pub other_text : (found : Option (Bor (List ℕ))) (s : Bor (List ℕ)) (d : Data) → option_map (λ (t : Bor (List ℕ)). t.now) found ≡ as_str d → found ≡ Some s
    → (s.now ≡ codes "done" → ⊥) → (s.now ≡ codes "trap" → ⊥) → (s.now ≡ codes "cut" → ⊥) → IsOther (as_str d)
other_text found s d read is done trap cut = rw (sym read, is) (other_bytes s.now done trap cut)

pub no_text : (found : Option (Bor (List ℕ))) (d : Data) → option_map (λ (t : Bor (List ℕ)). t.now) found ≡ as_str d → found ≡ None → IsOther (as_str d)
no_text found d read is = rw (sym read, is) refl

-- ---- what is read, and the first fault

third : (a b c : Bool) → (a || (b || (c || false))) ≡ false → c ≡ false
third false false false none = refl
third false false true none = absurd cc
third false true c none = absurd cc
third true b c none = absurd cc

first_two : (a b c : Bool) → (a || (b || (c || false))) ≡ false → (a ≡ false) × (b ≡ false)
first_two false false c none = (refl, refl)
first_two false true c none = absurd cc
first_two true b c none = absurd cc

cut_of_other : (word : Option (List ℕ)) → IsOther word → (word >>= λ s. cond (bytes_eq s (codes "cut")) (Some Cut) None) ≡ None
cut_of_other None other = refl
cut_of_other (Some s) other = rw (third (bytes_eq s (codes "done")) (bytes_eq s (codes "trap")) (bytes_eq s (codes "cut")) other) refl

one_of_two : {X : Type 0} (word : Option (List ℕ)) (x y : Option X) → IsOther word
    → (word >>= λ s. cond (bytes_eq s (codes "done")) x (cond (bytes_eq s (codes "trap")) y None)) ≡ None
one_of_two None x y other = refl
one_of_two (Some s) x y other =
    let none = first_two (bytes_eq s (codes "done")) (bytes_eq s (codes "trap")) (bytes_eq s (codes "cut")) other in
    rw (none.0, none.1) refl

case_of_other : (path : List ℕ) (word : Option (List ℕ)) (ds : List Data) → IsOther word → case_fault ending_cases path word ds ≡ Some (Shape (child path 0))
case_of_other path None ds other = refl
case_of_other path (Some s) ds other = cond_of_none (bytes_eq s (codes "done")) (bytes_eq s (codes "trap")) (bytes_eq s (codes "cut")) _ _ _ _ other

-- ---- lists of one item and of two

pub one_is_no_end : (vs : List Value) (word : Value) → length vs ≡ 1 → word ≡ get_or vs 0 word → IsOther (as_str (view word)) → end_from (map view vs) ≡ None
unfolding end_from
one_is_no_end [] word count first other = absurd (omega (arith, count))
one_is_no_end (v ∷ []) word count first other = cut_of_other (as_str (view v)) (subst (λ (x : Value). IsOther (as_str (view x))) first other)
one_is_no_end (v ∷ w ∷ vs) word count first other = absurd (omega (arith, count))

pub fault_of_one : (vs : List Value) (word : Value) (path : List ℕ) → length vs ≡ 1 → word ≡ get_or vs 0 word → IsOther (as_str (view word))
    → tagged_fault ending_cases path (map view vs) ≡ Some (Shape (child path 0))
fault_of_one [] word path count first other = absurd (omega (arith, count))
fault_of_one (v ∷ []) word path count first other = case_of_other path (as_str (view v)) [] (subst (λ (x : Value). IsOther (as_str (view x))) first other)
fault_of_one (v ∷ w ∷ vs) word path count first other = absurd (omega (arith, count))

pub two_are_no_end : (vs : List Value) (word : Value) → length vs ≡ 2 → word ≡ get_or vs 0 word → IsOther (as_str (view word)) → end_from (map view vs) ≡ None
unfolding end_from
two_are_no_end [] word count first other = absurd (omega (arith, count))
two_are_no_end (v ∷ []) word count first other = absurd (omega (arith, count))
two_are_no_end (v ∷ w ∷ []) word count first other = one_of_two (as_str (view v)) _ _ (subst (λ (x : Value). IsOther (as_str (view x))) first other)
two_are_no_end (v ∷ w ∷ x ∷ vs) word count first other = absurd (omega (arith, count))

pub fault_of_two : (vs : List Value) (word : Value) (path : List ℕ) → length vs ≡ 2 → word ≡ get_or vs 0 word → IsOther (as_str (view word))
    → tagged_fault ending_cases path (map view vs) ≡ Some (Shape (child path 0))
fault_of_two [] word path count first other = absurd (omega (arith, count))
fault_of_two (v ∷ []) word path count first other = absurd (omega (arith, count))
fault_of_two (v ∷ w ∷ []) word path count first other = case_of_other path (as_str (view v)) (view w ∷ []) (subst (λ (x : Value). IsOther (as_str (view x))) first other)
fault_of_two (v ∷ w ∷ x ∷ vs) word path count first other = absurd (omega (arith, count))
