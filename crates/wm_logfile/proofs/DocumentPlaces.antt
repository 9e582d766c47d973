-- The place of the first fault of a document.
use Rattle.std.proofs.Common.{◌≡◌, ℕ, ◌≤◌, ◌⊎◌, inl, inr, ◌||◌, Bool, true, false, cond, eqb, leb, List, [], ◌∷◌, length, Option, Some, None, option_and_then, refl, sym, ap, ◌∙◌, arith}
use Rattle.std.proofs.lemmas.Bool.{ne_eqb}
use Rattle.std.proofs.lemmas.Option.{same_Some}
use Rattle.std.specs.Option.{option_or, option_map_or, unwrap_or}
use Rattle.serde_json.specs.Data.{Data, Num, unsigned, negative, float}
use Rattle.serde_json.specs.Find.{as_number, as_u64}
use Rattle.wm_logfile.specs.declared.document.Version.{Version}
use Rattle.wm_logfile.specs.declared.document.Version.TheVariants.{First, Second}
use Rattle.wm_logfile.specs.declared.fault.DocFault.{DocFault}
use Rattle.wm_logfile.specs.declared.fault.DocFault.TheVariants.{BadShape, BadVersion, NumberRange, TooLarge}
use Rattle.wm_logfile.specs.declared.fault.ReadFault.{ReadFault}
use Rattle.wm_logfile.specs.declared.fault.ReadFault.TheVariants.{Shape, Range, Memory}
use Rattle.wm_logfile.specs.Causes.{IsTextOf}
use Rattle.wm_logfile.specs.Faults.{as_document}
use Rattle.wm_logfile.specs.FirstFault.{as_first, document_fault, few_fault, pair_fault, parts_fault_with, threads_fault, version_fault}
use Rattle.wm_logfile.specs.Forms.{Form, one_of, numbered, Fields, no_fields, field, exact_fault, fields_fault, first_fault, items_fault, numbered_fault, number_fault, unless}
use Rattle.wm_logfile.specs.Grammar.{format_name, keys, thread, thread_by, witness, event, event_by, width, order, update_order, ending, result, trap, writers, writer, key, thread_writers}
use Rattle.wm_logfile.specs.Limits.{max_document_bytes}
use Rattle.wm_logfile.specs.Paths.{child}
use Rattle.wm_logfile.specs.Places.{HasFaultAt, HasNumberAt, document_form, form_at, named_version, value_at}
use Rattle.wm_logfile.specs.Reading.{◌>>=◌, list_at, version_at, version_from}
use Rattle.wm_logfile.proofs.FaultSteps.{at-nth, nth}
use Rattle.wm_logfile.proofs.Places.{IsPlaced, depth, placed}
use Rattle.wm_logfile.proofs.Sizes.{size-document}

abbrev Found : Type 0
Found = Option DocFault

-- ---- a fault as one of the document

as_document-injective : (e f : ReadFault) → as_document e ≡ as_document f → e ≡ f
as_document-injective (Shape p) (Shape q) h = (let same : p ≡ q = cc in ap (λ (r : List ℕ). Shape r) same)
as_document-injective (Shape p) (Range q) h = absurd cc
as_document-injective (Shape p) Memory h = absurd cc
as_document-injective (Range p) (Shape q) h = absurd cc
as_document-injective (Range p) (Range q) h = (let same : p ≡ q = cc in ap (λ (r : List ℕ). Range r) same)
as_document-injective (Range p) Memory h = absurd cc
as_document-injective Memory (Shape q) h = absurd cc
as_document-injective Memory (Range q) h = absurd cc
as_document-injective Memory Memory h = refl

no_version : (f : ReadFault) → BadVersion ≡ as_document f → ⊥
no_version (Shape p) h = cc
no_version (Range p) h = cc
no_version Memory h = cc

not_large : (f : ReadFault) → TooLarge ≡ as_document f → ⊥
not_large (Shape p) h = cc
not_large (Range p) h = cc
not_large Memory h = cc

-- a fault of a list or of its length
shape_is : (path : List ℕ) (f : ReadFault) → Some (BadShape path) ≡ Some (as_document f) → Some (Shape path) ≡ Some f
shape_is path f h = ap (λ (e : ReadFault). Some e) (as_document-injective (Shape path) f (same_Some (BadShape path) (as_document f) h))

first_is : (x : Option ReadFault) (f : ReadFault) → as_first x ≡ Some (as_document f) → x ≡ Some f
first_is None f h = absurd cc
first_is (Some e) f h = ap (λ (g : ReadFault). Some g) (as_document-injective e f (same_Some (as_document e) (as_document f) h))

pub first_none : (x : Option ReadFault) → as_first x ≡ None → x ≡ None
first_none None h = refl
first_none (Some e) h = absurd cc

pub one_of_two : (x y : Found) (e : DocFault) → option_or x y ≡ Some e → (x ≡ Some e) ⊎ ((x ≡ None) × (y ≡ Some e))
one_of_two None y e h = inr (refl, h)
one_of_two (Some f) y e h = inl h

or_left : (x y : Option ReadFault) (f : ReadFault) → x ≡ Some f → option_or x y ≡ Some f
or_left x y f h = ap (λ (o : Option ReadFault). option_or o y) h

or_right : (x y z : Option ReadFault) → x ≡ None → y ≡ z → option_or x y ≡ z
or_right x y z none h = ap (λ (o : Option ReadFault). option_or o y) none ∙ h

or_none : (x : Option ReadFault) (f : ReadFault) → x ≡ Some f → option_or x None ≡ Some f
or_none x f h = or_left x None f h

-- ---- the threads

few_is : (b : Bool) (x : Option ReadFault) (f : ReadFault) → cond b (as_first x) (Some TooLarge) ≡ Some (as_document f) → x ≡ Some f
few_is true x f h = first_is x f h
few_is false x f h = absurd (not_large f (same_Some TooLarge (as_document f) h))

few_none : (b : Bool) (x : Option ReadFault) → cond b (as_first x) (Some TooLarge) ≡ None → x ≡ None
few_none true x h = first_none x h
few_none false x h = absurd cc

threads_is : (fault : ℕ → List ℕ → Data → Option ReadFault) (path : List ℕ) (o : Option (List Data)) (f : ReadFault) → option_map_or (few_fault fault path) o (Some (BadShape path)) ≡ Some (as_document f)
    → option_map_or (items_fault fault path 0) o (Some (Shape path)) ≡ Some f
threads_is fault path None f h = shape_is path f h
threads_is fault path (Some ds) f h = few_is (leb (length ds) 16) (items_fault fault path 0 ds) f h

threads_none : (fault : ℕ → List ℕ → Data → Option ReadFault) (path : List ℕ) (o : Option (List Data)) → option_map_or (few_fault fault path) o (Some (BadShape path)) ≡ None
    → option_map_or (items_fault fault path 0) o (Some (Shape path)) ≡ None
threads_none fault path None h = absurd cc
threads_none fault path (Some ds) h = few_none (leb (length ds) 16) (items_fault fault path 0 ds) h

-- ---- the items of a document

abbrev thread_form : Version → Form
thread_form First = thread
thread_form Second = thread_by

abbrev last_form : Version → Form
last_form First = witness
last_form Second = keys

abbrev version_form : Form
version_form = one_of (1 ∷ 2 ∷ [])

abbrev last_fields : Version → Fields
last_fields v = field (numbered (thread_form v)) (field (last_form v) no_fields)

abbrev cells_form : Version → Fields
cells_form v = field format_name (field version_form (last_fields v))

form_is : (v : Version) (d : Data) → first_fault (document_form v) [] d ≡ option_map_or (exact_fault (cells_form v) [] 0) (list_at d) (Some (Shape []))
form_is First d = refl
form_is Second d = refl

pair_of : (form last_form : Form) (threads last : Data) (f : ReadFault) → option_or (threads_fault form (child [] 2) threads) (as_first (first_fault last_form (child [] 3) last)) ≡ Some (as_document f)
    → fields_fault (field (numbered form) (field last_form no_fields)) [] 2 (threads ∷ last ∷ []) ≡ Some f
pair_of form last_form threads last f h =
    let fault : ℕ → List ℕ → Data → Option ReadFault = numbered_fault (first_fault form) in
    let last_fault : Option ReadFault = first_fault last_form (child [] 3) last in
    elim (one_of_two (threads_fault form (child [] 2) threads) (as_first last_fault) (as_document f) h) [
      | inl first ↦ or_left (first_fault (numbered form) (child [] 2) threads) (option_or last_fault None) f (threads_is fault (child [] 2) (list_at threads) f first)
      | inr second ↦ or_right (first_fault (numbered form) (child [] 2) threads) (option_or last_fault None) (Some f) (threads_none fault (child [] 2) (list_at threads) second.0)
          (or_none last_fault f (first_is last_fault f second.1))
    ]

pair_is : (v : Version) (threads last : Data) (f : ReadFault) → pair_fault v [] threads last ≡ Some (as_document f) → fields_fault (last_fields v) [] 2 (threads ∷ last ∷ []) ≡ Some f
pair_is First threads last f h = pair_of thread witness threads last f h
pair_is Second threads last f h = pair_of thread_by keys threads last f h

-- ---- the version

allowed_of : (a b : Bool) (v : Version) → cond a (Some First) (cond b (Some Second) None) ≡ Some v → (a || (b || false)) ≡ true
allowed_of true b v h = refl
allowed_of false true v h = refl
allowed_of false false v h = absurd cc

known_allowed : (n : Num) (v : Version) (path : List ℕ) → (as_u64 n >>= version_from) ≡ Some v → number_fault (λ m. eqb m 1 || (eqb m 2 || false)) path (Some n) ≡ None
known_allowed (unsigned m) v path h = ap (λ (b : Bool). unless b (Range path)) (allowed_of (eqb m 1) (eqb m 2) v h)
known_allowed (negative z) v path h = absurd cc
known_allowed (float x) v path h = absurd cc

from_version : (next : Version → Found) (o : Option Version) (f : ReadFault) → option_map_or next o (Some BadVersion) ≡ Some (as_document f) → (v : Version) × (o ≡ Some v) × (next v ≡ Some (as_document f))
from_version next None f h = absurd (no_version f (same_Some BadVersion (as_document f) h))
from_version next (Some v) f h = (v, refl, h)

-- the version is not a number, or what comes after a known one is at fault
version_is : (next : Version → Found) (path : List ℕ) (o : Option Num) (rest : Version → Option ReadFault) (f : ReadFault) → ((v : Version) → next v ≡ Some (as_document f) → rest v ≡ Some f) → version_fault next path o ≡ Some (as_document f)
    → option_or (number_fault (λ m. eqb m 1 || (eqb m 2 || false)) path o) (rest (unwrap_or (o >>= as_u64 >>= version_from) Second)) ≡ Some f
version_is next path None rest f after h = shape_is path f h
version_is next path (Some n) rest f after h =
    let known = from_version next (as_u64 n >>= version_from) f h in
    or_right (number_fault (λ m. eqb m 1 || (eqb m 2 || false)) path (Some n)) (rest (unwrap_or (as_u64 n >>= version_from) Second)) (Some f) (known_allowed n known.0 path known.1)
    (ap (λ (o : Option Version). rest (unwrap_or o Second)) known.1 ∙ after known.0 known.2)

-- ---- the whole

abbrev in_parts : List Data → Found
in_parts = parts_fault_with (λ v threads last. pair_fault v [] threads last) []

in_four : (name version threads last : Data) (f : ReadFault) → in_parts (name ∷ version ∷ threads ∷ last ∷ []) ≡ Some (as_document f)
    → fields_fault (cells_form (unwrap_or (version_at version) Second)) [] 0 (name ∷ version ∷ threads ∷ last ∷ []) ≡ Some f
in_four name version threads last f h =
    let v : Version = unwrap_or (version_at version) Second in
    let name_fault : Option ReadFault = first_fault format_name (child [] 0) name in
    let rest : Option ReadFault = fields_fault (field version_form (last_fields v)) [] 1 (version ∷ threads ∷ last ∷ []) in
    elim (one_of_two (as_first name_fault) (version_fault (λ w. pair_fault w [] threads last) (child [] 1) (as_number version)) (as_document f) h) [
      | inl first ↦ or_left name_fault rest f (first_is name_fault f first)
      | inr second ↦ or_right name_fault rest (Some f) (first_none name_fault second.0)
          (version_is (λ w. pair_fault w [] threads last) (child [] 1) (as_number version) (λ w. fields_fault (last_fields w) [] 2 (threads ∷ last ∷ [])) f (λ w. pair_is w threads last f) second.1)
    ]

wrong_length : (v : Version) (ds : List Data) (f : ReadFault) → (length ds ≡ 4 → ⊥) → Some (BadShape []) ≡ Some (as_document f) → exact_fault (cells_form v) [] 0 ds ≡ Some f
wrong_length v ds f wrong h = ap (λ (b : Bool). cond b (fields_fault (cells_form v) [] 0 ds) (Some (Shape []))) (ne_eqb (length ds) 4 wrong) ∙ shape_is [] f h

-- the version that the second item names
abbrev version_in : Option Data → Version
version_in o = unwrap_or (option_and_then version_at o) Second

in_cells : (ds : List Data) (f : ReadFault) → in_parts ds ≡ Some (as_document f) → exact_fault (cells_form (version_in (nth 1 ds))) [] 0 ds ≡ Some f
in_cells [] f h = wrong_length (version_in None) [] f (λ e. omega (arith, e)) h
in_cells (a ∷ []) f h = wrong_length (version_in None) (a ∷ []) f (λ e. omega (arith, e)) h
in_cells (a ∷ b ∷ []) f h = wrong_length (version_in (Some b)) (a ∷ b ∷ []) f (λ e. omega (arith, e)) h
in_cells (a ∷ b ∷ c ∷ []) f h = wrong_length (version_in (Some b)) (a ∷ b ∷ c ∷ []) f (λ e. omega (arith, e)) h
in_cells (a ∷ b ∷ c ∷ d ∷ []) f h = in_four a b c d f h
in_cells (a ∷ b ∷ c ∷ d ∷ x ∷ ds) f h = wrong_length (version_in (Some b)) (a ∷ b ∷ c ∷ d ∷ x ∷ ds) f (λ e. omega (arith, e)) h

-- the first fault of a document is that of its form
in_form : (d : Data) (f : ReadFault) → document_fault d ≡ Some (as_document f) → first_fault (document_form (named_version d)) [] d ≡ Some f
unfolding document_fault
in_form d f h = form_is (named_version d) d ∙ by_list (list_at d) refl h
  where
    by_list : (o : Option (List Data)) → list_at d ≡ o → option_map_or in_parts o (Some (BadShape [])) ≡ Some (as_document f) → option_map_or (exact_fault (cells_form (named_version d)) [] 0) o (Some (Shape [])) ≡ Some f
    by_list None is fault = shape_is [] f fault
    by_list (Some ds) is fault =
        ap (λ (o : Option Data). exact_fault (cells_form (version_in o)) [] 0 ds) (at-nth 1 d ds is) ∙ in_cells ds f fault

-- no value of the format is nested deeper than a path is long
document-depth : (v : Version) → depth (document_form v) ≤ 8
unfolding thread thread_by event event_by width order update_order ending result trap writers writer keys key witness thread_writers
document-depth First = omega arith
document-depth Second = omega arith

document_placed : (bytes : List ℕ) (d : Data) (f : ReadFault) → IsTextOf bytes d → length bytes ≤ max_document_bytes → document_fault d ≡ Some (as_document f) → IsPlaced (document_form (named_version d)) [] d f
document_placed bytes d f text small h =
    placed 8 (document_form (named_version d)) [] d f (document-depth (named_version d)) (omega arith) (size-document bytes d text.text small) (in_form d f h)

pub shape_placed : (bytes : List ℕ) (d : Data) (path : List ℕ) → IsTextOf bytes d → length bytes ≤ max_document_bytes → document_fault d ≡ Some (BadShape path) → HasFaultAt (λ p. Shape p) path d
shape_placed bytes d path text small h =
    let p = document_placed bytes d (Shape path) text small h in
    let e : Shape path ≡ Shape p.place = p.path_is in
    let same : p.place ≡ path = cc in
    record {
      value = p.value;
      found = ap (λ (q : List ℕ). value_at q d) (sym same) ∙ p.found;
      form = p.inner;
      expected = ap (λ (q : List ℕ). form_at q (document_form (named_version d)) d) (sym same) ∙ p.expected;
      faulty = p.faulty;
    }

pub range_placed : (bytes : List ℕ) (d : Data) (path : List ℕ) → IsTextOf bytes d → length bytes ≤ max_document_bytes → document_fault d ≡ Some (NumberRange path) → HasFaultAt (λ p. Range p) path d
range_placed bytes d path text small h =
    let p = document_placed bytes d (Range path) text small h in
    let e : Range path ≡ Range p.place = p.path_is in
    let same : p.place ≡ path = cc in
    record {
      value = p.value;
      found = ap (λ (q : List ℕ). value_at q d) (sym same) ∙ p.found;
      form = p.inner;
      expected = ap (λ (q : List ℕ). form_at q (document_form (named_version d)) d) (sym same) ∙ p.expected;
      faulty = p.faulty;
    }

pub number_placed : (bytes : List ℕ) (d : Data) (path : List ℕ) → IsTextOf bytes d → length bytes ≤ max_document_bytes → document_fault d ≡ Some (NumberRange path) → HasNumberAt path d
number_placed bytes d path text small h =
    let p = document_placed bytes d (Range path) text small h in
    let e : Range path ≡ Range p.place = p.path_is in
    let same : p.place ≡ path = cc in
    record { given = p.numeric.0; found = ap (λ (q : List ℕ). value_at q d) (sym same) ∙ p.found ∙ ap (λ (x : Data). Some x) p.numeric.1 }
