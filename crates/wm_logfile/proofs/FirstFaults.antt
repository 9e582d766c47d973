-- The first fault of an event and of a thread, by those of their parts.
use Rattle.std.proofs.Common.{◌≡◌, ℕ, ◌-◌, ◌<◌, ◌≤◌, ◌||◌, Bool, true, false, cond, List, [], ◌∷◌, length, get_or, map, take, drop, Option, Some, None, refl, sym, ap, subst, ◌∙◌, arith}
use Rattle.std.proofs.lemmas.List.{take_all}
use Rattle.std.specs.Option.{option_or, option_map_or}
use Rattle.serde_json.specs.Data.{Data, string}
use Rattle.serde_json.specs.Find.{as_str}
use Rattle.serde_json.specs.View.{view}
use Rattle.serde_json.specs.declared.value.Value.{Value}
use Rattle.wm_event.specs.declared.event.EventKind.{EventKind}
use Rattle.wm_event.specs.declared.event.EventKind.TheVariants.{Read, Write, Update}
use Rattle.wm_logfile.specs.declared.fault.ReadFault.{ReadFault}
use Rattle.wm_logfile.specs.declared.fault.ReadFault.TheVariants.{Shape, Range, Memory}
use Rattle.wm_logfile.specs.declared.thread.ThreadHead.{ThreadHead}
use Rattle.std.specs.Str.{bytes_eq}
use Rattle.std.specs.Prelude.{codes}
use Rattle.wm_logfile.specs.Document.{count, list}
use Rattle.wm_logfile.specs.Document.{end as ended}
use Rattle.wm_logfile.specs.Faults.{IsFirst}
use Rattle.wm_logfile.specs.Forms.{Form, Fields, is_word, in_list, first_fault, exact_fault, case_fault, tagged_fault, numbered}
use Rattle.wm_logfile.specs.Grammar.{cases_with, event_cases, event_by_cases, kind, thread_fields}
use Rattle.wm_logfile.specs.FirstFault.{by_fault, head_fault}
use Rattle.wm_logfile.specs.FirstFault as first_faults
use Rattle.wm_logfile.specs.Forms as forms
use Rattle.wm_logfile.specs.Grammar as grammar
use Rattle.wm_logfile.specs.Paths.{child}
use Rattle.wm_logfile.specs.Words.{kind_word}
use Rattle.wm_logfile.specs.Reading.{list_at, head_at, head_from, kind_at, values_len, values_by_len}
use Rattle.wm_logfile.proofs.FaultSteps.{from_unless}
use Rattle.wm_logfile.proofs.Format.{bind_some}
use Rattle.wm_logfile.proofs.Leaves.{kinds}
use Rattle.wm_logfile.proofs.Threads.{head_takes, head_cells}

abbrev Found : Type 0
Found = Option ReadFault

-- ---- first faults

-- a fault other than of memory
pub first_by : (e : ReadFault) (x y : Found) → (x ≡ Some e → y ≡ Some e) → IsFirst e x → IsFirst e y
first_by (Shape p) x y by first = by first
first_by (Range p) x y by first = by first
first_by Memory x y by first = tt

or_first : (e : ReadFault) (x y : Found) → x ≡ Some e → option_or x y ≡ Some e
or_first e (Some f) y is = is
or_first e None y is = absurd cc

or_second : (e : ReadFault) (x y : Found) → x ≡ None → y ≡ Some e → option_or x y ≡ Some e
or_second e None y none is = is
or_second e (Some f) y none is = absurd cc

pub first_of_two : (e : ReadFault) (x y z : Found) → z ≡ option_or x y → IsFirst e x → IsFirst e z
first_of_two e x y z is first = first_by e x z (λ (h : x ≡ Some e). is ∙ or_first e x y h) first

pub second_of_two : (e : ReadFault) (x y z : Found) → z ≡ option_or x y → x ≡ None → IsFirst e y → IsFirst e z
second_of_two e x y z is none first = first_by e y z (λ (h : y ≡ Some e). is ∙ or_second e x y none h) first

pub neither : (x y z : Found) → z ≡ option_or x y → x ≡ None → y ≡ None → z ≡ None
neither None y z is none last = is ∙ last
neither (Some f) y z is none last = absurd cc

-- ---- the kind of an event

pub cond_of_none : (a b c : Bool) (x y z n : Found) → (a || (b || (c || false))) ≡ false → cond (a || false) x (cond (b || false) y (cond (c || false) z n)) ≡ n
cond_of_none false false false x y z n h = refl
cond_of_none false false true x y z n h = absurd cc
cond_of_none false true c x y z n h = absurd cc
cond_of_none true b c x y z n h = absurd cc

no_word : (by : Fields) (path : List ℕ) (word : Option (List ℕ)) (ds : List Data) → is_word (codes "r" ∷ codes "w" ∷ codes "x" ∷ []) word ≡ false → case_fault (cases_with by) path word ds ≡ Some (Shape (child path 0))
no_word by path None ds h = refl
no_word by path (Some s) ds h = cond_of_none (bytes_eq s (codes "r")) (bytes_eq s (codes "w")) (bytes_eq s (codes "x")) _ _ _ _ h

kind_fault : (by : Fields) (path at : List ℕ) (tag : Data) (ds : List Data) (e : ReadFault) → at ≡ child path 0 → IsFirst e (first_fault kind at tag) → IsFirst e (case_fault (cases_with by) path (as_str tag) ds)
unfolding kind
kind_fault by path at tag ds e place first =
    first_by e (first_fault kind at tag) (case_fault (cases_with by) path (as_str tag) ds)
    (λ (h : first_fault kind at tag ≡ Some e). (
    let one = from_unless (is_word (codes "r" ∷ codes "w" ∷ codes "x" ∷ []) (as_str tag)) (Shape at) e h in
    no_word by path (as_str tag) ds one.0 ∙ ap (λ (p : List ℕ). Some (Shape p)) (sym place) ∙ ap (λ (f : ReadFault). Some f) one.1))
    first

-- an event of no kind
pub no_kind : (vs : List Value) (tag : Value) (path at : List ℕ) (e : ReadFault) → 4 < length vs → length vs < 7 → tag ≡ get_or vs 0 tag → at ≡ child path 0 → IsFirst e (first_fault kind at (view tag))
    → IsFirst e (tagged_fault event_cases path (map view vs))
no_kind [] tag path at e more less is place first = absurd (omega (arith, more))
no_kind (a ∷ []) tag path at e more less is place first = absurd (omega (arith, more))
no_kind (a ∷ b ∷ []) tag path at e more less is place first = absurd (omega (arith, more))
no_kind (a ∷ b ∷ c ∷ []) tag path at e more less is place first = absurd (omega (arith, more))
no_kind (a ∷ b ∷ c ∷ d ∷ []) tag path at e more less is place first = absurd (omega (arith, more))
no_kind (a ∷ b ∷ c ∷ d ∷ v ∷ []) tag path at e more less is place first = kind_fault forms.no_fields path at (view a) (view b ∷ view c ∷ view d ∷ view v ∷ []) e place (subst (λ (x : Value). IsFirst e (first_fault kind at (view x))) is first)
no_kind (a ∷ b ∷ c ∷ d ∷ v ∷ w ∷ []) tag path at e more less is place first = kind_fault forms.no_fields path at (view a) (view b ∷ view c ∷ view d ∷ view v ∷ view w ∷ []) e place (subst (λ (x : Value). IsFirst e (first_fault kind at (view x))) is first)
no_kind (a ∷ b ∷ c ∷ d ∷ v ∷ w ∷ x ∷ vs) tag path at e more less is place first = absurd (omega (arith, less))

pub no_kind_by : (vs : List Value) (tag : Value) (path at : List ℕ) (e : ReadFault) → 4 < length vs → length vs < 8 → tag ≡ get_or vs 0 tag → at ≡ child path 0 → IsFirst e (first_fault kind at (view tag))
    → IsFirst e (tagged_fault event_by_cases path (map view vs))
no_kind_by [] tag path at e more less is place first = absurd (omega (arith, more))
no_kind_by (a ∷ []) tag path at e more less is place first = absurd (omega (arith, more))
no_kind_by (a ∷ b ∷ []) tag path at e more less is place first = absurd (omega (arith, more))
no_kind_by (a ∷ b ∷ c ∷ []) tag path at e more less is place first = absurd (omega (arith, more))
no_kind_by (a ∷ b ∷ c ∷ d ∷ []) tag path at e more less is place first = absurd (omega (arith, more))
no_kind_by (a ∷ b ∷ c ∷ d ∷ v ∷ []) tag path at e more less is place first = kind_fault (forms.field grammar.writers forms.no_fields) path at (view a) (view b ∷ view c ∷ view d ∷ view v ∷ []) e place (subst (λ (x : Value). IsFirst e (first_fault kind at (view x))) is first)
no_kind_by (a ∷ b ∷ c ∷ d ∷ v ∷ w ∷ []) tag path at e more less is place first = kind_fault (forms.field grammar.writers forms.no_fields) path at (view a) (view b ∷ view c ∷ view d ∷ view v ∷ view w ∷ []) e place (subst (λ (x : Value). IsFirst e (first_fault kind at (view x))) is first)
no_kind_by (a ∷ b ∷ c ∷ d ∷ v ∷ w ∷ x ∷ []) tag path at e more less is place first = kind_fault (forms.field grammar.writers forms.no_fields) path at (view a) (view b ∷ view c ∷ view d ∷ view v ∷ view w ∷ view x ∷ []) e place (subst (λ (x : Value). IsFirst e (first_fault kind at (view x))) is first)
no_kind_by (a ∷ b ∷ c ∷ d ∷ v ∷ w ∷ x ∷ y ∷ vs) tag path at e more less is place first = absurd (omega (arith, less))

-- ---- the parts of an event of version 2

case_of_kind : (by : Fields) (k : EventKind) (path : List ℕ) (tag : Data) (ds : List Data) → kind_at tag ≡ Some k → case_fault (cases_with by) path (as_str tag) ds ≡ exact_fault (grammar.event_fields k by) path 1 ds
case_of_kind by k path tag ds read = ap (λ (d : Data). case_fault (cases_with by) path (as_str d) ds) (kinds.takes tag k read).0 ∙ (elim k as (λ k. case_fault (cases_with by) path (Some (kind_word k)) ds ≡ exact_fault (grammar.event_fields k by) path 1 ds) [ Read ↦ refl | Write ↦ refl | Update ↦ refl ])

grouped : (o a w v b : Found) → option_or o (option_or a (option_or w (option_or v (option_or b None)))) ≡ option_or (option_or o (option_or a (option_or w (option_or v None)))) (option_or b None)
grouped (Some x) a w v b = refl
grouped None (Some x) w v b = refl
grouped None None (Some x) v b = refl
grouped None None None (Some x) b = refl
grouped None None None None b = refl

grouped_two : (o a w u v b : Found) → option_or o (option_or a (option_or w (option_or u (option_or v (option_or b None))))) ≡ option_or (option_or o (option_or a (option_or w (option_or u (option_or v None))))) (option_or b None)
grouped_two (Some x) a w u v b = refl
grouped_two None (Some x) w u v b = refl
grouped_two None None (Some x) u v b = refl
grouped_two None None None (Some x) v b = refl
grouped_two None None None None (Some x) b = refl
grouped_two None None None None None b = refl

grouped_none : (o a w v : Found) → option_or o (option_or a (option_or w (option_or v None))) ≡ option_or (option_or o (option_or a (option_or w (option_or v None)))) None
grouped_none (Some x) a w v = refl
grouped_none None (Some x) w v = refl
grouped_none None None (Some x) v = refl
grouped_none None None None (Some x) = refl
grouped_none None None None None = refl

-- the items that an event has at least
pub record AreParts (vs : List Value) (tag order address width : Value) : Type 0 where
  pub at_least : 4 ≤ length vs
  pub tag_is : tag ≡ get_or vs 0 tag
  pub order_is : order ≡ get_or vs 1 order
  pub address_is : address ≡ get_or vs 2 address
  pub width_is : width ≡ get_or vs 3 width

-- what comes after them
abbrev pub rest_of : List Value → List Value
rest_of vs = take (length vs - 4) (drop 4 vs)

rest_is : (a b c d : Value) (vs : List Value) → rest_of (a ∷ b ∷ c ∷ d ∷ vs) ≡ vs
rest_is a b c d vs =
    let n : length (a ∷ b ∷ c ∷ d ∷ vs) - 4 ≡ length vs = omega arith in
    rw n (take_all (length vs) vs (omega arith))

cells_are : (vs : List Value) (tag order address width : Value) → AreParts vs tag order address width → map view vs ≡ view tag ∷ view order ∷ view address ∷ view width ∷ map view (rest_of vs)
cells_are [] tag order address width are = absurd (omega (arith, are.at_least))
cells_are (a ∷ []) tag order address width are = absurd (omega (arith, are.at_least))
cells_are (a ∷ b ∷ []) tag order address width are = absurd (omega (arith, are.at_least))
cells_are (a ∷ b ∷ c ∷ []) tag order address width are = absurd (omega (arith, are.at_least))
cells_are (a ∷ b ∷ c ∷ d ∷ vs) tag order address width are =
    rw (are.tag_is, are.order_is, are.address_is, are.width_is) (ap (λ (rs : List Value). view a ∷ view b ∷ view c ∷ view d ∷ map view rs) (sym (rest_is a b c d vs)))

-- of the items up to the values, and of these values
abbrev front_fault : EventKind → List ℕ → Value → Value → Value → List Value → Found
front_fault k path order address width values =
    option_or (first_fault (grammar.order_form k) (child path 1) (view order)) (option_or (first_fault grammar.small (child path 2) (view address))
    (option_or (first_fault grammar.width (child path 3) (view width)) (first_faults.values_fault k path (map view values))))

module _ (path : List ℕ) (tag order address width : Value) where
  abbrev event_cells : List Value → List Data
  event_cells rs = view tag ∷ view order ∷ view address ∷ view width ∷ map view rs

  split_read : (rs : List Value) → length rs ≡ 2 → exact_fault (grammar.event_fields Read (forms.field grammar.writers forms.no_fields)) path 1 (view order ∷ view address ∷ view width ∷ map view rs)
      ≡ option_or (front_fault Read path order address width (take 1 rs)) (by_fault Read path (map view (drop 1 rs)))
  split_read [] count = absurd (omega (arith, count))
  split_read (v ∷ []) count = absurd (omega (arith, count))
  split_read (v ∷ b ∷ []) count =
      grouped (first_fault grammar.order (child path 1) (view order)) (first_fault grammar.small (child path 2) (view address)) (first_fault grammar.width (child path 3) (view width))
      (first_fault grammar.value (child path 4) (view v)) (first_fault grammar.writers (child path 5) (view b))
  split_read (v ∷ b ∷ c ∷ rs) count = absurd (omega (arith, count))

  split_write : (rs : List Value) → length rs ≡ 1 → exact_fault (grammar.event_fields Write (forms.field grammar.writers forms.no_fields)) path 1 (view order ∷ view address ∷ view width ∷ map view rs)
      ≡ option_or (front_fault Write path order address width (take 1 rs)) (by_fault Write path (map view (drop 1 rs)))
  split_write [] count = absurd (omega (arith, count))
  split_write (v ∷ []) count =
      grouped_none (first_fault grammar.order (child path 1) (view order)) (first_fault grammar.small (child path 2) (view address)) (first_fault grammar.width (child path 3) (view width))
      (first_fault grammar.value (child path 4) (view v))
  split_write (v ∷ b ∷ rs) count = absurd (omega (arith, count))

  split_update : (rs : List Value) → length rs ≡ 3 → exact_fault (grammar.event_fields Update (forms.field grammar.writers forms.no_fields)) path 1 (view order ∷ view address ∷ view width ∷ map view rs)
      ≡ option_or (front_fault Update path order address width (take 2 rs)) (by_fault Update path (map view (drop 2 rs)))
  split_update [] count = absurd (omega (arith, count))
  split_update (v ∷ []) count = absurd (omega (arith, count))
  split_update (u ∷ v ∷ []) count = absurd (omega (arith, count))
  split_update (u ∷ v ∷ b ∷ []) count =
      grouped_two (first_fault grammar.update_order (child path 1) (view order)) (first_fault grammar.small (child path 2) (view address)) (first_fault grammar.width (child path 3) (view width))
      (first_fault grammar.value (child path 4) (view u)) (first_fault grammar.value (child path 5) (view v)) (first_fault grammar.writers (child path 6) (view b))
  split_update (u ∷ v ∷ b ∷ c ∷ rs) count = absurd (omega (arith, count))

  split_of : (k : EventKind) (rs : List Value) → length rs ≡ values_by_len k → exact_fault (grammar.event_fields k (forms.field grammar.writers forms.no_fields)) path 1 (view order ∷ view address ∷ view width ∷ map view rs)
      ≡ option_or (front_fault k path order address width (take (values_len k) rs)) (by_fault k path (map view (drop (values_len k) rs)))
  split_of Read rs count = split_read rs count
  split_of Write rs count = split_write rs count
  split_of Update rs count = split_update rs count

  some_case : (rs : List Value) → 0 < length rs → length rs < 4 → tagged_fault event_by_cases path (event_cells rs) ≡ case_fault event_by_cases path (as_str (view tag)) (view order ∷ view address ∷ view width ∷ map view rs)
  some_case [] more less = absurd (omega (arith, more))
  some_case (u ∷ []) more less = refl
  some_case (u ∷ v ∷ []) more less = refl
  some_case (u ∷ v ∷ b ∷ []) more less = refl
  some_case (u ∷ v ∷ b ∷ c ∷ rs) more less = absurd (omega (arith, less))

  wrong_length : (k : EventKind) (rs : List Value) → 0 < length rs → length rs < 4 → (length rs ≡ values_by_len k → ⊥)
      → exact_fault (grammar.event_fields k (forms.field grammar.writers forms.no_fields)) path 1 (view order ∷ view address ∷ view width ∷ map view rs) ≡ Some (Shape path)
  wrong_length k [] more less other = absurd (omega (arith, more))
  wrong_length Read (u ∷ []) more less other = refl
  wrong_length Write (u ∷ []) more less other = absurd (other refl)
  wrong_length Update (u ∷ []) more less other = refl
  wrong_length Read (u ∷ v ∷ []) more less other = absurd (other refl)
  wrong_length Write (u ∷ v ∷ []) more less other = refl
  wrong_length Update (u ∷ v ∷ []) more less other = refl
  wrong_length Read (u ∷ v ∷ b ∷ []) more less other = refl
  wrong_length Write (u ∷ v ∷ b ∷ []) more less other = refl
  wrong_length Update (u ∷ v ∷ b ∷ []) more less other = absurd (other refl)
  wrong_length k (u ∷ v ∷ b ∷ c ∷ rs) more less other = absurd (omega (arith, less))

  behind_kind : (vs : List Value) (k : EventKind) → AreParts vs tag order address width → kind_at (view tag) ≡ Some k → 0 < length (rest_of vs) → length (rest_of vs) < 4
      → tagged_fault event_by_cases path (map view vs) ≡ exact_fault (grammar.event_fields k (forms.field grammar.writers forms.no_fields)) path 1 (view order ∷ view address ∷ view width ∷ map view (rest_of vs))
  behind_kind vs k are read more less =
      ap (λ (ds : List Data). tagged_fault event_by_cases path ds) (cells_are vs tag order address width are) ∙ some_case (rest_of vs) more less
      ∙ case_of_kind (forms.field grammar.writers forms.no_fields) k path (view tag) (view order ∷ view address ∷ view width ∷ map view (rest_of vs)) read

  -- an event of the kind with another length
  pub other_length : (vs : List Value) (k : EventKind) → AreParts vs tag order address width → kind_at (view tag) ≡ Some k → 0 < length (rest_of vs) → length (rest_of vs) < 4
      → (length (rest_of vs) ≡ values_by_len k → ⊥) → tagged_fault event_by_cases path (map view vs) ≡ Some (Shape path)
  other_length vs k are read more less other = behind_kind vs k are read more less ∙ wrong_length k (rest_of vs) more less other

  -- an event of the kind: its items up to the values, and what comes after these
  pub in_two : (vs : List Value) (k : EventKind) (n : ℕ) (front back : List Value) → AreParts vs tag order address width → kind_at (view tag) ≡ Some k → 0 < length (rest_of vs) → length (rest_of vs) < 4
      → length (rest_of vs) ≡ values_by_len k → n ≡ values_len k → front ≡ take n (rest_of vs) → back ≡ drop n (rest_of vs)
      → tagged_fault event_by_cases path (map view vs) ≡ option_or (front_fault k path order address width front) (by_fault k path (map view back))
  in_two vs k n front back are read more less count is front_is back_is =
      let f : take (values_len k) (rest_of vs) ≡ front = ap (λ (m : ℕ). take m (rest_of vs)) (sym is) ∙ sym front_is in
      let b : drop (values_len k) (rest_of vs) ≡ back = ap (λ (m : ℕ). drop m (rest_of vs)) (sym is) ∙ sym back_is in
      behind_kind vs k are read more less ∙ split_of k (rest_of vs) count
      ∙ ap (λ (xs : List Value). option_or (front_fault k path order address width xs) (by_fault k path (map view (drop (values_len k) (rest_of vs))))) f
      ∙ ap (λ (xs : List Value). option_or (front_fault k path order address width front) (by_fault k path (map view xs))) b

-- ---- a thread

rest_of_thread : (n a e s v : Found) → option_or (option_or n a) (option_or e s) ≡ None → option_or n (option_or a (option_or e (option_or s (option_or v None)))) ≡ v
rest_of_thread (Some x) a e s v h = absurd cc
rest_of_thread None (Some x) e s v h = absurd cc
rest_of_thread None None (Some x) s v h = absurd cc
rest_of_thread None None None (Some x) v h = absurd cc
rest_of_thread None None None None (Some x) h = refl
rest_of_thread None None None None None h = refl

module _ (event : Form) (path : List ℕ) where
  behind_head : (a b c d events : Data) → head_fault path (a ∷ b ∷ c ∷ d ∷ events ∷ []) ≡ None → exact_fault (thread_fields event) path 0 (a ∷ b ∷ c ∷ d ∷ events ∷ []) ≡ first_fault (numbered event) (child path 4) events
  behind_head a b c d events none = rest_of_thread (first_fault forms.text (child path 0) a) (first_fault (forms.items grammar.value) (child path 1) b) (first_fault grammar.ending (child path 2) c) (first_fault (forms.up_to 1000000) (child path 3) d) (first_fault (numbered event) (child path 4) events) none

  -- after a head without a fault the first fault is the events'
  pub fault_of_events : (d : Data) (h : ThreadHead) (events : Data) → head_at d ≡ Some (h, events) → in_list (head_fault path) path d ≡ None
      → first_fault (forms.fields (thread_fields event)) path d ≡ first_fault (numbered event) (child path 4) events
  fault_of_events d h events read none =
      let one = bind_some (list_at d) head_from (h, events) read in
      let cells : one.0 ≡ head_cells h events = (head_takes one.0 (h, events) one.2).0 in
      let listed : list_at d ≡ Some (head_cells h events) = one.1 ∙ ap (λ (ds : List Data). Some ds) cells in
      let head : head_fault path (head_cells h events) ≡ None = subst (λ (o : Option (List Data)). option_map_or (head_fault path) o (Some (Shape path)) ≡ None) listed none in
      ap (λ (o : Option (List Data)). option_map_or (exact_fault (thread_fields event) path 0) o (Some (Shape path))) listed
      ∙ behind_head (string h.start.name) (list (map count h.start.args)) (ended h.end) (count h.steps) events head

  pub events_fault : (d : Data) (h : ThreadHead) (events : Data) (at : List ℕ) (e : ReadFault) → head_at d ≡ Some (h, events) → in_list (head_fault path) path d ≡ None → at ≡ child path 4
      → IsFirst e (first_fault (numbered event) at events) → IsFirst e (first_fault (forms.fields (thread_fields event)) path d)
  events_fault d h events at e read none place first =
      subst (λ (x : Found). IsFirst e x) (sym (fault_of_events d h events read none)) (subst (λ (p : List ℕ). IsFirst e (first_fault (numbered event) p events)) place first)

  pub events_none : (d : Data) (h : ThreadHead) (events : Data) (at : List ℕ) → head_at d ≡ Some (h, events) → in_list (head_fault path) path d ≡ None → at ≡ child path 4
      → first_fault (numbered event) at events ≡ None → first_fault (forms.fields (thread_fields event)) path d ≡ None
  events_none d h events at read none place last =
      fault_of_events d h events read none ∙ ap (λ (p : List ℕ). first_fault (numbered event) p events) (sym place) ∙ last
