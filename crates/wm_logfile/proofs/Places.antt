-- The place of a first fault.
use Rattle.std.proofs.Common.{◌≡◌, ℕ, zero, suc, ◌+◌, ◌<◌, ◌≤◌, max, ◌⊎◌, inl, inr, Bool, true, false, cond, List, [], ◌∷◌, ◌++◌, length, Option, Some, option_and_then, refl, sym, ap, subst, ◌∙◌, append-nil, append_assoc, length-append, arith}
use Rattle.std.proofs.lemmas.Bool.{lt-ltb, and_from}
use Rattle.std.proofs.lemmas.Option.{same_Some}
use Rattle.serde_json.specs.Data.{Data}
use Rattle.serde_json.specs.Find.{at, as_str}
use Rattle.wm_logfile.specs.declared.fault.ReadFault.{ReadFault}
use Rattle.wm_logfile.specs.Forms.{Form, up_to, one_of, word_of, text, items, numbered, fields, maybe, tagged, Fields, no_fields, field, Cases, no_cases, case, is_word, first_fault}
use Rattle.wm_logfile.specs.Paths.{child}
use Rattle.wm_logfile.specs.Places.{value_at, field_at, words_of, case_field, item_form, form_at}
use Rattle.wm_logfile.proofs.FaultSteps.{IsHere, IsInside, IsNumberFor, at-smaller, moved, step}
use Rattle.wm_logfile.proofs.Sizes.{size}

-- ---- how deep a form nests

abbrev mutual
  pub depth : Form → ℕ
  depth (up_to limit) = 0
  depth (one_of numbers) = 0
  depth (word_of words) = 0
  depth text = 0
  depth (items form) = suc (depth form)
  depth (numbered form) = suc (depth form)
  depth (fields forms) = suc (fields_depth forms)
  depth (maybe forms) = suc (fields_depth forms)
  depth (tagged cases) = suc (cases_depth cases)

  fields_depth : Fields → ℕ
  fields_depth no_fields = 0
  fields_depth (field form rest) = max (depth form) (fields_depth rest)

  cases_depth : Cases → ℕ
  cases_depth no_cases = 0
  cases_depth (case w forms cases) = max (fields_depth forms) (cases_depth cases)

field-depth : (i : ℕ) (forms : Fields) (inner : Form) → field_at i forms ≡ Some inner → depth inner ≤ fields_depth forms
field-depth i no_fields inner e = absurd cc
field-depth zero (field form rest) inner e =
    let same : form ≡ inner = same_Some form inner e in
    subst (λ (g : Form). depth g ≤ max (depth form) (fields_depth rest)) same (omega arith)
field-depth (suc i) (field form rest) inner e = omega (arith, field-depth i rest inner e)

from_choice : (b : Bool) (x y : Option Form) (g : Form) → cond b x y ≡ Some g → (x ≡ Some g) ⊎ (y ≡ Some g)
from_choice true x y g h = inl h
from_choice false x y g h = inr h

case-depth : (cases : Cases) (word : Option (List ℕ)) (i : ℕ) (inner : Form) → case_field cases word i ≡ Some inner → depth inner ≤ cases_depth cases
case-depth no_cases word i inner e = absurd cc
case-depth (case w forms cases) word i inner e =
    elim (from_choice (is_word (w ∷ []) word) (field_at i forms) (case_field cases word i) inner e) [
      | inl this ↦ omega (arith, field-depth i forms inner this)
      | inr other ↦ omega (arith, case-depth cases word i inner other)
    ]

same-depth : (form inner : Form) → Some form ≡ Some inner → suc (depth inner) ≤ suc (depth form)
same-depth form inner e = subst (λ (g : Form). suc (depth g) ≤ suc (depth form)) (same_Some form inner e) (omega arith)

item-depth : (form : Form) (i : ℕ) (d : Data) (inner : Form) → item_form form i d ≡ Some inner → suc (depth inner) ≤ depth form
item-depth (up_to limit) i d inner e = absurd cc
item-depth (one_of numbers) i d inner e = absurd cc
item-depth (word_of words) i d inner e = absurd cc
item-depth text i d inner e = absurd cc
item-depth (items form) i d inner e = same-depth form inner e
item-depth (numbered form) i d inner e = same-depth form inner e
item-depth (fields forms) i d inner e = omega (arith, field-depth i forms inner e)
item-depth (maybe forms) i d inner e = omega (arith, field-depth i forms inner e)
item-depth (tagged cases) zero d inner e =
    let same : word_of (words_of cases) ≡ inner = same_Some (word_of (words_of cases)) inner e in
    subst (λ (g : Form). suc (depth g) ≤ suc (cases_depth cases)) same (omega arith)
item-depth (tagged cases) (suc i) d inner e = omega (arith, case-depth cases (option_and_then as_str (at 0 d)) i inner e)

-- ---- the place of the fault

-- a path below the limits grows by the index
child-append : (path : List ℕ) (i : ℕ) → length path < 8 → i < 4294967296 → child path i ≡ path ++ i ∷ []
unfolding child
child-append path i short small = ap (λ (b : Bool). cond b (path ++ i ∷ []) path) (and_from _ _ (lt-ltb (length path) 8 short) (lt-ltb i 4294967296 small))

pub record IsPlaced (form : Form) (path : List ℕ) (d : Data) (f : ReadFault) : Type 0 where
  pub place : List ℕ
  pub value : Data
  pub inner : Form
  pub found : value_at place d ≡ Some value
  pub expected : form_at place form d ≡ Some inner
  pub path_is : f ≡ moved f (path ++ place)
  pub faulty : first_fault inner [] value ≡ Some (moved f [])
  pub numeric : IsNumberFor f value

placed_here : (form : Form) (path : List ℕ) (d : Data) (f : ReadFault) → IsHere form path d f → IsPlaced form path d f
placed_here form path d f h = record {
  place = [];
  value = d;
  inner = form;
  found = refl;
  expected = refl;
  path_is = h.here ∙ ap (moved f) (sym (append-nil path));
  faulty = h.faulty;
  numeric = h.numeric;
}

placed_inside : (form : Form) (path : List ℕ) (d : Data) (f : ReadFault) (h : IsInside form path d f) → child path h.index ≡ path ++ h.index ∷ [] → IsPlaced h.inner (child path h.index) h.value f → IsPlaced form path d f
placed_inside form path d f h grows p = record {
  place = h.index ∷ p.place;
  value = p.value;
  inner = p.inner;
  found = ap (option_and_then (value_at p.place)) h.item ∙ p.found;
  expected = ap (option_and_then (λ g. option_and_then (form_at p.place g) (at h.index d))) h.expected ∙ ap (option_and_then (form_at p.place h.inner)) h.item ∙ p.expected;
  path_is = p.path_is ∙ ap (λ (q : List ℕ). moved f (q ++ p.place)) grows ∙ ap (moved f) (append_assoc path (h.index ∷ []) p.place);
  faulty = p.faulty;
  numeric = p.numeric;
}

pub placed : (n : ℕ) (form : Form) (path : List ℕ) (d : Data) (f : ReadFault) → depth form ≤ n → length path + n ≤ 8 → size d < 4294967296 → first_fault form path d ≡ Some f → IsPlaced form path d f
placed zero form path d f flat short small h =
    elim (step form path d f small h) [
      | inl here ↦ placed_here form path d f here
      | inr inside ↦ absurd (omega (arith, flat, item-depth form inside.index d inside.inner inside.expected))
    ]
placed (suc n) form path d f deep short small h =
    elim (step form path d f small h) [
      | inl here ↦ placed_here form path d f here
      | inr inside ↦ (
          let smaller = at-smaller inside.index d inside.value inside.item in
          let grows : child path inside.index ≡ path ++ inside.index ∷ [] = child-append path inside.index (omega (arith, short)) (omega (arith, small, smaller.index)) in
          let longer : length (child path inside.index) ≡ length path + 1 = ap length grows ∙ length-append path (inside.index ∷ []) in
          placed_inside form path d f inside grows
          (placed n inside.inner (child path inside.index) inside.value f (omega (arith, deep, item-depth form inside.index d inside.inner inside.expected)) (omega (arith, short, longer)) (omega (arith, small, smaller.value)) inside.fault))
    ]
