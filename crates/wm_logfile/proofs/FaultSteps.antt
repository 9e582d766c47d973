-- A first fault is that of the value itself or that of an item.
use Rattle.std.proofs.Common.{◌≡◌, ℕ, zero, suc, ◌+◌, ◌<◌, ◌≤◌, ◌⊎◌, inl, inr, ◌||◌, Bool, true, false, cond, eqb, leb, List, [], ◌∷◌, length, Option, Some, None, option_and_then, refl, sym, ap, subst, ◌∙◌, arith}
use Rattle.std.specs.Prelude.{⊤, is_some}
use Rattle.std.proofs.lemmas.Bool.{le-leb}
use Rattle.std.proofs.lemmas.Option.{same_Some}
use Rattle.std.specs.Option.{option_or, option_map_or}
use Rattle.std.specs.Str.{bytes_eq}
use Rattle.std.specs.List.{list_any}
use Rattle.serde_json.specs.Data.{Data, Num, null, boolean, number, string, array, object, Items, no_items, item}
use Rattle.serde_json.specs.Find.{at, get_item, as_number, as_str, as_u64}
use Rattle.wm_logfile.specs.declared.fault.ReadFault.{ReadFault}
use Rattle.wm_logfile.specs.declared.fault.ReadFault.TheVariants.{Shape, Range, Memory}
use Rattle.wm_logfile.specs.Forms.{Form, up_to, one_of, word_of, text, items, numbered, fields, maybe, tagged, Fields, no_fields, field, Cases, no_cases, case, unless, number_fault, in_list, items_fault, numbered_fault, is_word, count_of, has_length, first_fault, fields_fault, exact_fault, maybe_fault, case_fault, tagged_fault}
use Rattle.wm_logfile.specs.Paths.{child}
use Rattle.wm_logfile.specs.Places.{field_at, words_of, case_field, item_form}
use Rattle.wm_logfile.specs.Reading.{data_list, list_at}
use Rattle.wm_logfile.proofs.Sizes.{size, items_size}

abbrev Found : Type 0
Found = Option ReadFault

-- ---- an item of a list

abbrev pub nth : ℕ → List Data → Option Data
nth i [] = None
nth zero (d ∷ ds) = Some d
nth (suc i) (d ∷ ds) = nth i ds

nth-get_item : (i : ℕ) (js : Items) → get_item i js ≡ nth i (data_list js)
nth-get_item i no_items = refl
nth-get_item zero (item d js) = refl
nth-get_item (suc i) (item d js) = nth-get_item i js

pub at-nth : (i : ℕ) (d : Data) (ds : List Data) → list_at d ≡ Some ds → at i d ≡ nth i ds
at-nth i null ds e = absurd cc
at-nth i (boolean b) ds e = absurd cc
at-nth i (number n) ds e = absurd cc
at-nth i (string s) ds e = absurd cc
at-nth i (array js) ds e = nth-get_item i js ∙ ap (nth i) (same_Some (data_list js) ds e)
at-nth i (object ms) ds e = absurd cc

size-positive : (d : Data) → 0 < size d
size-positive null = omega arith
size-positive (boolean b) = omega arith
size-positive (number n) = omega arith
size-positive (string s) = omega arith
size-positive (array js) = omega arith
size-positive (object ms) = omega arith

-- an index is smaller than the size of the value, and so is the item
pub record IsSmaller (i : ℕ) (x : Data) (n : ℕ) : Type 0 where
  pub index : i < n
  pub value : size x ≤ n

get_item-smaller : (i : ℕ) (js : Items) (x : Data) → get_item i js ≡ Some x → IsSmaller i x (items_size js)
get_item-smaller i no_items x e = absurd cc
get_item-smaller zero (item d js) x e =
    let same : d ≡ x = same_Some d x e in
    subst (λ (y : Data). IsSmaller 0 y (size d + items_size js)) same (record { index = omega (arith, size-positive d); value = omega arith })
get_item-smaller (suc i) (item d js) x e =
    let rest = get_item-smaller i js x e in
    record { index = omega (arith, size-positive d, rest.index); value = omega (arith, rest.value) }

pub at-smaller : (i : ℕ) (d x : Data) → at i d ≡ Some x → IsSmaller i x (size d)
at-smaller i null x e = absurd cc
at-smaller i (boolean b) x e = absurd cc
at-smaller i (number n) x e = absurd cc
at-smaller i (string s) x e = absurd cc
at-smaller i (array js) x e = (let inside = get_item-smaller i js x e in record { index = omega (arith, inside.index); value = omega (arith, inside.value) })
at-smaller i (object ms) x e = absurd cc

-- ---- the fault at another path

abbrev pub moved : ReadFault → List ℕ → ReadFault
moved (Shape p) path = Shape path
moved (Range p) path = Range path
moved Memory path = Memory

-- a value out of range is a number
abbrev pub IsNumberFor : ReadFault → Data → Type 0
IsNumberFor (Shape p) d = ⊤
IsNumberFor (Range p) d = (n : Num) × (d ≡ number n)
IsNumberFor Memory d = ⊤

-- the fault is that of the value itself
pub record IsHere (form : Form) (path : List ℕ) (d : Data) (f : ReadFault) : Type 0 where
  pub here : f ≡ moved f path
  pub faulty : first_fault form [] d ≡ Some (moved f [])
  pub numeric : IsNumberFor f d

-- the fault is that of an item
pub record IsInside (form : Form) (path : List ℕ) (d : Data) (f : ReadFault) : Type 0 where
  pub index : ℕ
  pub value : Data
  pub inner : Form
  pub item : at index d ≡ Some value
  pub expected : item_form form index d ≡ Some inner
  pub fault : first_fault inner (child path index) value ≡ Some f

shape_here : (form : Form) (path : List ℕ) (d : Data) (f : ReadFault) → Shape path ≡ f → first_fault form [] d ≡ Some (Shape []) → IsHere form path d f
shape_here form path d (Shape p) e h = record { here = sym e; faulty = h; numeric = tt }
shape_here form path d (Range p) e h = absurd cc
shape_here form path d Memory e h = absurd cc

range_here : (form : Form) (path : List ℕ) (d : Data) (f : ReadFault) → Range path ≡ f → first_fault form [] d ≡ Some (Range []) → (n : Num) → d ≡ number n → IsHere form path d f
range_here form path d (Shape p) e h n is = absurd cc
range_here form path d (Range p) e h n is = record { here = sym e; faulty = h; numeric = (n, is) }
range_here form path d Memory e h n is = absurd cc

-- ---- what a fault came from

one_of_two : (x y : Found) (f : ReadFault) → option_or x y ≡ Some f → (x ≡ Some f) ⊎ (y ≡ Some f)
one_of_two None y f h = inr h
one_of_two (Some e) y f h = inl h

-- the test failed, or what comes after it is at fault
from_test : (b : Bool) (x y : Found) (f : ReadFault) → cond b x y ≡ Some f → ((b ≡ true) × (x ≡ Some f)) ⊎ ((b ≡ false) × (y ≡ Some f))
from_test true x y f h = inl (refl, h)
from_test false x y f h = inr (refl, h)

pub from_unless : (b : Bool) (e f : ReadFault) → unless b e ≡ Some f → (b ≡ false) × (e ≡ f)
from_unless true e f h = absurd cc
from_unless false e f h = (refl, same_Some e f h)

from_list : (fault : List Data → Found) (path : List ℕ) (o : Option (List Data)) (f : ReadFault) → option_map_or fault o (Some (Shape path)) ≡ Some f
    → ((o ≡ None) × (Shape path ≡ f)) ⊎ ((ds : List Data) × (o ≡ Some ds) × (fault ds ≡ Some f))
from_list fault path None f h = inl (refl, same_Some (Shape path) f h)
from_list fault path (Some ds) f h = inr (ds, refl, h)

-- ---- values that are not lists

number_here : (form : Form) (allowed : ℕ → Bool) (same : (p : List ℕ) (x : Data) → first_fault form p x ≡ number_fault allowed p (as_number x)) (path : List ℕ) (d : Data) (f : ReadFault)
    → number_fault allowed path (as_number d) ≡ Some f → IsHere form path d f
number_here form allowed same path null f h = shape_here form path null f (same_Some (Shape path) f h) (same [] null)
number_here form allowed same path (boolean b) f h = shape_here form path (boolean b) f (same_Some (Shape path) f h) (same [] (boolean b))
number_here form allowed same path (number n) f h =
    let out = from_unless (option_map_or allowed (as_u64 n) false) (Range path) f h in
    range_here form path (number n) f out.1 (same [] (number n) ∙ ap (λ (b : Bool). unless b (Range [])) out.0) n refl
number_here form allowed same path (string s) f h = shape_here form path (string s) f (same_Some (Shape path) f h) (same [] (string s))
number_here form allowed same path (array js) f h = shape_here form path (array js) f (same_Some (Shape path) f h) (same [] (array js))
number_here form allowed same path (object ms) f h = shape_here form path (object ms) f (same_Some (Shape path) f h) (same [] (object ms))

word_here : (form : Form) (test : Data → Bool) (same : (p : List ℕ) (x : Data) → first_fault form p x ≡ unless (test x) (Shape p)) (path : List ℕ) (d : Data) (f : ReadFault) → unless (test d) (Shape path) ≡ Some f → IsHere form path d f
word_here form test same path d f h =
    let out = from_unless (test d) (Shape path) f h in
    shape_here form path d f out.1 (same [] d ∙ ap (λ (b : Bool). unless b (Shape [])) out.0)

-- ---- items

-- the fault is that of an item among these, the first of which has index i
record IsItem (fault : ℕ → List ℕ → Data → Found) (path : List ℕ) (i : ℕ) (ds : List Data) (f : ReadFault) : Type 0 where
  offset : ℕ
  index : ℕ
  value : Data
  is : index ≡ i + offset
  item : nth offset ds ≡ Some value
  fault_is : fault index (child path index) value ≡ Some f

item_of : (fault : ℕ → List ℕ → Data → Found) (path : List ℕ) (i : ℕ) (ds : List Data) (f : ReadFault) → items_fault fault path i ds ≡ Some f → IsItem fault path i ds f
item_of fault path i [] f h = absurd cc
item_of fault path i (d ∷ ds) f h =
    elim (one_of_two (fault i (child path i) d) (items_fault fault path (suc i) ds) f h) [
      | inl first ↦ record { offset = 0; index = i; value = d; is = omega arith; item = refl; fault_is = first }
      | inr later ↦ (let rest = item_of fault path (suc i) ds f later in record { offset = suc rest.offset; index = rest.index; value = rest.value; is = omega (arith, rest.is); item = rest.item; fault_is = rest.fault_is })
    ]

record IsField (forms : Fields) (path : List ℕ) (i : ℕ) (ds : List Data) (f : ReadFault) : Type 0 where
  offset : ℕ
  index : ℕ
  value : Data
  inner : Form
  is : index ≡ i + offset
  item : nth offset ds ≡ Some value
  form_is : field_at offset forms ≡ Some inner
  fault_is : first_fault inner (child path index) value ≡ Some f

field_of : (forms : Fields) (path : List ℕ) (i : ℕ) (ds : List Data) (f : ReadFault) → fields_fault forms path i ds ≡ Some f → IsField forms path i ds f
field_of no_fields path i ds f h = absurd cc
field_of (field form rest) path i [] f h = absurd cc
field_of (field form rest) path i (d ∷ ds) f h =
    elim (one_of_two (first_fault form (child path i) d) (fields_fault rest path (suc i) ds) f h) [
      | inl first ↦ record { offset = 0; index = i; value = d; inner = form; is = omega arith; item = refl; form_is = refl; fault_is = first }
      | inr later ↦ (let more = field_of rest path (suc i) ds f later in
          record { offset = suc more.offset; index = more.index; value = more.value; inner = more.inner; is = omega (arith, more.is); item = more.item; form_is = more.form_is; fault_is = more.fault_is })
    ]

-- ---- lists

abbrev pub Step : Form → List ℕ → Data → ReadFault → Type 0
Step form path d f = IsHere form path d f ⊎ IsInside form path d f

list_here : (form : Form) (fault : List ℕ → List Data → Found) (same : (p : List ℕ) (x : Data) → first_fault form p x ≡ in_list (fault p) p x) (path : List ℕ) (d : Data) (f : ReadFault) → list_at d ≡ None → Shape path ≡ f → IsHere form path d f
list_here form fault same path d f none e = shape_here form path d f e (same [] d ∙ ap (λ (o : Option (List Data)). option_map_or (fault []) o (Some (Shape []))) none)

-- the fault of the list itself
cells_here : (form : Form) (fault : List ℕ → List Data → Found) (same : (p : List ℕ) (x : Data) → first_fault form p x ≡ in_list (fault p) p x) (path : List ℕ) (d : Data) (ds : List Data) (f : ReadFault)
    → list_at d ≡ Some ds → Shape path ≡ f → fault [] ds ≡ Some (Shape []) → IsHere form path d f
cells_here form fault same path d ds f is e h = shape_here form path d f e (same [] d ∙ ap (λ (o : Option (List Data)). option_map_or (fault []) o (Some (Shape []))) is ∙ h)

inside_items : (form inner : Form) (fault : ℕ → List ℕ → Data → Found) (path : List ℕ) (d : Data) (ds : List Data) (f : ReadFault)
    → ((i : ℕ) → item_form form i d ≡ Some inner) → ((i : ℕ) (x : Data) → at i d ≡ Some x → fault i (child path i) x ≡ first_fault inner (child path i) x)
    → list_at d ≡ Some ds → items_fault fault path 0 ds ≡ Some f → IsInside form path d f
inside_items form inner fault path d ds f expected plain is h =
    let one = item_of fault path 0 ds f h in
    let same : one.offset ≡ one.index = omega (arith, one.is) in
    let found : at one.index d ≡ Some one.value = at-nth one.index d ds is ∙ ap (λ (i : ℕ). nth i ds) (sym same) ∙ one.item in
    record { index = one.index; value = one.value; inner = inner; item = found; expected = expected one.index; fault = sym (plain one.index one.value found) ∙ one.fault_is }

inside_fields : (form : Form) (forms : Fields) (path : List ℕ) (d : Data) (ds : List Data) (f : ReadFault) → ((i : ℕ) → item_form form i d ≡ field_at i forms) → list_at d ≡ Some ds → fields_fault forms path 0 ds ≡ Some f → IsInside form path d f
inside_fields form forms path d ds f expected is h =
    let one = field_of forms path 0 ds f h in
    let same : one.offset ≡ one.index = omega (arith, one.is) in
    let found : at one.index d ≡ Some one.value = at-nth one.index d ds is ∙ ap (λ (i : ℕ). nth i ds) (sym same) ∙ one.item in
    record { index = one.index; value = one.value; inner = one.inner; item = found; expected = expected one.index ∙ ap (λ (i : ℕ). field_at i forms) (sym same) ∙ one.form_is; fault = one.fault_is }

-- ---- the items after a word

-- none of the words; a wrong length; or an item
data CaseFault (cases : Cases) (path : List ℕ) (word : Option (List ℕ)) (ds : List Data) (f : ReadFault) : Type 0 where
  no_word : is_word (words_of cases) word ≡ false → Shape (child path 0) ≡ f → CaseFault cases path word ds f
  wrong_length : Shape path ≡ f → case_fault cases [] word ds ≡ Some (Shape []) → CaseFault cases path word ds f
  in_field : (offset : ℕ) (x : Data) (inner : Form) → nth offset ds ≡ Some x → case_field cases word offset ≡ Some inner → first_fault inner (child path (suc offset)) x ≡ Some f → CaseFault cases path word ds f

later_word : (w : List ℕ) (words : List (List ℕ)) (word : Option (List ℕ)) → is_word (w ∷ []) word ≡ false → is_word words word ≡ false → is_word (w ∷ words) word ≡ false
later_word w words None first later = refl
later_word w words (Some s) first later = both (bytes_eq s w) (list_any (bytes_eq s) words) first later
  where
    both : (a b : Bool) → (a || false) ≡ false → b ≡ false → (a || b) ≡ false
    both true b h k = absurd cc
    both false b h k = k

later_case : (w : List ℕ) (forms : Fields) (cases : Cases) (path : List ℕ) (word : Option (List ℕ)) (ds : List Data) (f : ReadFault) → is_word (w ∷ []) word ≡ false → CaseFault cases path word ds f → CaseFault (case w forms cases) path word ds f
later_case w forms cases path word ds f other (no_word none e) = no_word (later_word w (words_of cases) word other none) e
later_case w forms cases path word ds f other (wrong_length e h) = wrong_length e (ap (λ (b : Bool). cond b (exact_fault forms [] 1 ds) (case_fault cases [] word ds)) other ∙ h)
later_case w forms cases path word ds f other (in_field offset x inner found form fault) = in_field offset x inner found (ap (λ (b : Bool). cond b (field_at offset forms) (case_field cases word offset)) other ∙ form) fault

this_case : (w : List ℕ) (forms : Fields) (cases : Cases) (path : List ℕ) (word : Option (List ℕ)) (ds : List Data) (f : ReadFault) → is_word (w ∷ []) word ≡ true → exact_fault forms path 1 ds ≡ Some f → CaseFault (case w forms cases) path word ds f
this_case w forms cases path word ds f this h =
    elim (from_test (eqb (length ds) (count_of forms)) (fields_fault forms path 1 ds) (Some (Shape path)) f h) [
      | inl long ↦ (
          let one = field_of forms path 1 ds f long.1 in
          let same : one.index ≡ suc one.offset = omega (arith, one.is) in
          in_field one.offset one.value one.inner one.item (ap (λ (b : Bool). cond b (field_at one.offset forms) (case_field cases word one.offset)) this ∙ one.form_is)
          (ap (λ (i : ℕ). first_fault one.inner (child path i) one.value) (sym same) ∙ one.fault_is))
      | inr wrong ↦ wrong_length (same_Some (Shape path) f wrong.1)
          (ap (λ (b : Bool). cond b (exact_fault forms [] 1 ds) (case_fault cases [] word ds)) this ∙ ap (λ (b : Bool). cond b (fields_fault forms [] 1 ds) (Some (Shape []))) wrong.0)
    ]

case_of : (cases : Cases) (path : List ℕ) (word : Option (List ℕ)) (ds : List Data) (f : ReadFault) → case_fault cases path word ds ≡ Some f → CaseFault cases path word ds f
case_of no_cases path None ds f h = no_word refl (same_Some (Shape (child path 0)) f h)
case_of no_cases path (Some s) ds f h = no_word refl (same_Some (Shape (child path 0)) f h)
case_of (case w forms cases) path word ds f h =
    elim (from_test (is_word (w ∷ []) word) (exact_fault forms path 1 ds) (case_fault cases path word ds) f h) [
      | inl this ↦ this_case w forms cases path word ds f this.0 this.1
      | inr other ↦ later_case w forms cases path word ds f other.0 (case_of cases path word ds f other.1)
    ]

inside_case : (cases : Cases) (path : List ℕ) (d tag : Data) (ds : List Data) (f : ReadFault) → list_at d ≡ Some (tag ∷ ds) → has_length cases (suc (length ds)) ≡ true → CaseFault cases path (as_str tag) ds f → Step (tagged cases) path d f
inside_case cases path d tag ds f is long (no_word none e) =
    inr (record {
      index = 0;
      value = tag;
      inner = word_of (words_of cases);
      item = at-nth 0 d (tag ∷ ds) is;
      expected = refl;
      fault = ap (λ (b : Bool). unless b (Shape (child path 0))) none ∙ ap (λ (g : ReadFault). Some g) e;
    })
inside_case cases path d tag ds f is long (wrong_length e h) =
    inl (cells_here (tagged cases) (λ p xs. tagged_fault cases p xs) (λ p x. refl) path d (tag ∷ ds) f is e (ap (λ (b : Bool). cond b (case_fault cases [] (as_str tag) ds) (Some (Shape []))) long ∙ h))
inside_case cases path d tag ds f is long (in_field offset x inner found form fault) =
    inr (record {
      index = suc offset;
      value = x;
      inner = inner;
      item = at-nth (suc offset) d (tag ∷ ds) is ∙ found;
      expected = ap (λ (o : Option Data). case_field cases (option_and_then as_str o) offset) (at-nth 0 d (tag ∷ ds) is) ∙ form;
      fault = fault;
    })

tagged_step : (cases : Cases) (path : List ℕ) (d : Data) (ds : List Data) (f : ReadFault) → list_at d ≡ Some ds → tagged_fault cases path ds ≡ Some f → Step (tagged cases) path d f
tagged_step cases path d [] f is h = inl (cells_here (tagged cases) (λ p xs. tagged_fault cases p xs) (λ p x. refl) path d [] f is (same_Some (Shape path) f h) refl)
tagged_step cases path d (tag ∷ ds) f is h =
    elim (from_test (has_length cases (suc (length ds))) (case_fault cases path (as_str tag) ds) (Some (Shape path)) f h) [
      | inl long ↦ inside_case cases path d tag ds f is long.0 (case_of cases path (as_str tag) ds f long.1)
      | inr wrong ↦ inl (cells_here (tagged cases) (λ p xs. tagged_fault cases p xs) (λ p x. refl) path d (tag ∷ ds) f is (same_Some (Shape path) f wrong.1)
          (ap (λ (b : Bool). cond b (case_fault cases [] (as_str tag) ds) (Some (Shape []))) wrong.0))
    ]

fields_step : (forms : Fields) (path : List ℕ) (d : Data) (ds : List Data) (f : ReadFault) → list_at d ≡ Some ds → exact_fault forms path 0 ds ≡ Some f → Step (fields forms) path d f
fields_step forms path d ds f is h =
    elim (from_test (eqb (length ds) (count_of forms)) (fields_fault forms path 0 ds) (Some (Shape path)) f h) [
      | inl long ↦ inr (inside_fields (fields forms) forms path d ds f (λ i. refl) is long.1)
      | inr wrong ↦ inl (cells_here (fields forms) (λ p xs. exact_fault forms p 0 xs) (λ p x. refl) path d ds f is (same_Some (Shape path) f wrong.1)
          (ap (λ (b : Bool). cond b (fields_fault forms [] 0 ds) (Some (Shape []))) wrong.0))
    ]

maybe_step : (forms : Fields) (path : List ℕ) (d : Data) (ds : List Data) (f : ReadFault) → list_at d ≡ Some ds → maybe_fault forms path ds ≡ Some f → Step (maybe forms) path d f
maybe_step forms path d [] f is h = absurd cc
maybe_step forms path d (x ∷ ds) f is h =
    elim (from_test (eqb (length (x ∷ ds)) (count_of forms)) (fields_fault forms path 0 (x ∷ ds)) (Some (Shape path)) f h) [
      | inl long ↦ inr (inside_fields (maybe forms) forms path d (x ∷ ds) f (λ i. refl) is long.1)
      | inr wrong ↦ inl (cells_here (maybe forms) (λ p xs. maybe_fault forms p xs) (λ p y. refl) path d (x ∷ ds) f is (same_Some (Shape path) f wrong.1)
          (ap (λ (b : Bool). cond b (fields_fault forms [] 0 (x ∷ ds)) (Some (Shape []))) wrong.0))
    ]

small_index : (fault : List ℕ → Data → Found) (i : ℕ) (path : List ℕ) (x : Data) → i < 4294967296 → numbered_fault fault i path x ≡ fault path x
small_index fault i path x small =
    let within : leb i 4294967295 ≡ true = le-leb i 4294967295 (omega (arith, small)) in
    ap (λ (b : Bool). cond b (fault path x) (Some (Range path))) within

-- ---- one step

pub step : (form : Form) (path : List ℕ) (d : Data) (f : ReadFault) → size d < 4294967296 → first_fault form path d ≡ Some f → Step form path d f
step (up_to limit) path d f small h = inl (number_here (up_to limit) (λ n. leb n limit) (λ p x. refl) path d f h)
step (one_of numbers) path d f small h = inl (number_here (one_of numbers) (λ n. list_any (λ m. eqb n m) numbers) (λ p x. refl) path d f h)
step (word_of words) path d f small h = inl (word_here (word_of words) (λ x. is_word words (as_str x)) (λ p x. refl) path d f h)
step text path d f small h = inl (word_here text (λ x. is_some (as_str x)) (λ p x. refl) path d f h)
step (items form) path d f small h =
    elim (from_list (items_fault (λ i p x. first_fault form p x) path 0) path (list_at d) f h) [
      | inl none ↦ inl (list_here (items form) (λ p ds. items_fault (λ i q x. first_fault form q x) p 0 ds) (λ p x. refl) path d f none.0 none.1)
      | inr some ↦ inr (inside_items (items form) form (λ i p x. first_fault form p x) path d some.0 f (λ i. refl) (λ i x e. refl) some.1 some.2)
    ]
step (numbered form) path d f small h =
    elim (from_list (items_fault (numbered_fault (λ p x. first_fault form p x)) path 0) path (list_at d) f h) [
      | inl none ↦ inl (list_here (numbered form) (λ p ds. items_fault (numbered_fault (λ q x. first_fault form q x)) p 0 ds) (λ p x. refl) path d f none.0 none.1)
      | inr some ↦ inr (inside_items (numbered form) form (numbered_fault (λ p x. first_fault form p x)) path d some.0 f (λ i. refl)
          (λ i x e. (let smaller = at-smaller i d x e in small_index (λ p y. first_fault form p y) i (child path i) x (omega (arith, small, smaller.index)))) some.1 some.2)
    ]
step (fields forms) path d f small h =
    elim (from_list (λ ds. exact_fault forms path 0 ds) path (list_at d) f h) [
      | inl none ↦ inl (list_here (fields forms) (λ p ds. exact_fault forms p 0 ds) (λ p x. refl) path d f none.0 none.1)
      | inr some ↦ fields_step forms path d some.0 f some.1 some.2
    ]
step (maybe forms) path d f small h =
    elim (from_list (λ ds. maybe_fault forms path ds) path (list_at d) f h) [
      | inl none ↦ inl (list_here (maybe forms) (λ p ds. maybe_fault forms p ds) (λ p x. refl) path d f none.0 none.1)
      | inr some ↦ maybe_step forms path d some.0 f some.1 some.2
    ]
step (tagged cases) path d f small h =
    elim (from_list (λ ds. tagged_fault cases path ds) path (list_at d) f h) [
      | inl none ↦ inl (list_here (tagged cases) (λ p ds. tagged_fault cases p ds) (λ p x. refl) path d f none.0 none.1)
      | inr some ↦ tagged_step cases path d some.0 f some.1 some.2
    ]
