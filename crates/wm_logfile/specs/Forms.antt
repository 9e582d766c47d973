-- The forms of the format's values, and the first fault of a value that doesn't have its form.
use Rattle.std.specs.Prelude.{◌==◌, ℕ, suc, List, [], ◌∷◌, length, Bool, true, false, nat_le, is_some, if◌then◌else◌, Option, Some, None}
use Rattle.std.specs.List.{list_any}
use Rattle.std.specs.Option.{option_or, option_map_or}
use Rattle.std.specs.Str.{bytes_eq}
use Rattle.serde_json.specs.Data.{Data, Num}
use Rattle.serde_json.specs.Find.{as_number, as_str, as_u64}
use Rattle.wm_logfile.specs.declared.fault.ReadFault.{ReadFault}
use Rattle.wm_logfile.specs.declared.fault.ReadFault.TheVariants.{Shape, Range}
use Rattle.wm_logfile.specs.Paths.{child}
use Rattle.wm_logfile.specs.Reading.{list_at, u32_max}

-- ---- the form of a value

mutual
  pub data Form : Type 0 where
    -- an integer up to this one
    up_to : ℕ → Form
    -- one of these numbers
    one_of : List ℕ → Form
    -- one of these words
    word_of : List (List ℕ) → Form
    -- any string
    text : Form
    -- a list, each item of this form
    items : Form → Form
    -- the same, but an item's index also has 32 bits
    numbered : Form → Form
    -- a list of items of these forms
    fields : Fields → Form
    -- the same, or the empty list
    maybe : Fields → Form
    -- a list that begins with the word of one of these cases, and goes on with its fields
    tagged : Cases → Form

  pub data Fields : Type 0 where
    no_fields : Fields
    field : Form → Fields → Fields

  pub data Cases : Type 0 where
    no_cases : Cases
    case : List ℕ → Fields → Cases → Cases

-- ---- the first fault

abbrev pub unless : Bool → ReadFault → Option ReadFault
unless true fault = None
unless false fault = Some fault

-- a number that isn't allowed is out of range; another value is not a number
abbrev pub number_fault : (ℕ → Bool) → List ℕ → Option Num → Option ReadFault
number_fault allowed path None = Some (Shape path)
number_fault allowed path (Some n) = unless (option_map_or allowed (as_u64 n) false) (Range path)

-- a value other than a list; otherwise the fault among its items
abbrev pub in_list : (List Data → Option ReadFault) → List ℕ → Data → Option ReadFault
in_list fault path d = option_map_or fault (list_at d) (Some (Shape path))

-- the first fault among items, from this index on
abbrev pub items_fault : (ℕ → List ℕ → Data → Option ReadFault) → List ℕ → ℕ → List Data → Option ReadFault
items_fault fault path i [] = None
items_fault fault path i (d ∷ ds) = option_or (fault i (child path i) d) (items_fault fault path (suc i) ds)

-- the fault of the item at that index
abbrev pub numbered_fault : (List ℕ → Data → Option ReadFault) → ℕ → List ℕ → Data → Option ReadFault
numbered_fault fault i path d = if nat_le i u32_max then fault path d else Some (Range path)

abbrev pub is_word : List (List ℕ) → Option (List ℕ) → Bool
is_word words None = false
is_word words (Some s) = list_any (bytes_eq s) words

abbrev pub count_of : Fields → ℕ
count_of no_fields = 0
count_of (field form rest) = suc (count_of rest)

-- some case has this number of items, including its word
abbrev pub has_length : Cases → ℕ → Bool
has_length no_cases n = false
has_length (case w forms cases) n = if n == suc (count_of forms) then true else has_length cases n

-- as many items as forms
abbrev pub exactly : Fields → (List Data → Option ReadFault) → List ℕ → List Data → Option ReadFault
exactly forms fault path ds = if length ds == count_of forms then fault ds else Some (Shape path)

abbrev pub or_nothing : (List Data → Option ReadFault) → List Data → Option ReadFault
or_nothing fault [] = None
or_nothing fault (d ∷ ds) = fault (d ∷ ds)

-- a length that no case has is reported before the word
abbrev pub begun : Cases → (Option (List ℕ) → List Data → Option ReadFault) → List ℕ → List Data → Option ReadFault
begun cases fault path [] = Some (Shape path)
begun cases fault path (d ∷ ds) = if has_length cases (suc (length ds)) then fault (as_str d) ds else Some (Shape path)

abbrev mutual
  -- the first fault of the value at the path
  pub first_fault : Form → List ℕ → Data → Option ReadFault
  first_fault (up_to limit) path d = number_fault (λ n. nat_le n limit) path (as_number d)
  first_fault (one_of numbers) path d = number_fault (λ n. list_any (λ m. n == m) numbers) path (as_number d)
  first_fault (word_of words) path d = unless (is_word words (as_str d)) (Shape path)
  first_fault text path d = unless (is_some (as_str d)) (Shape path)
  first_fault (items form) path d = in_list (items_fault (λ i p x. first_fault form p x) path 0) path d
  first_fault (numbered form) path d = in_list (items_fault (numbered_fault (λ p x. first_fault form p x)) path 0) path d
  first_fault (fields forms) path d = in_list (exactly forms (λ ds. fields_fault forms path 0 ds) path) path d
  first_fault (maybe forms) path d = in_list (or_nothing (exactly forms (λ ds. fields_fault forms path 0 ds) path)) path d
  first_fault (tagged cases) path d = in_list (begun cases (λ word ds. case_fault cases path word ds) path) path d

  -- the first fault of items of these forms, from this index on
  pub fields_fault : Fields → List ℕ → ℕ → List Data → Option ReadFault
  fields_fault no_fields path i ds = None
  fields_fault (field form rest) path i [] = None
  fields_fault (field form rest) path i (d ∷ ds) = option_or (first_fault form (child path i) d) (fields_fault rest path (suc i) ds)

  -- the first fault of what comes after this word
  pub case_fault : Cases → List ℕ → Option (List ℕ) → List Data → Option ReadFault
  case_fault no_cases path word ds = Some (Shape (child path 0))
  case_fault (case w forms cases) path word ds =
      if is_word (w ∷ []) word then exactly forms (λ xs. fields_fault forms path 1 xs) path ds else case_fault cases path word ds

-- the first faults of the items of lists

abbrev pub exact_fault : Fields → List ℕ → ℕ → List Data → Option ReadFault
exact_fault forms path i ds = exactly forms (λ xs. fields_fault forms path i xs) path ds

abbrev pub maybe_fault : Fields → List ℕ → List Data → Option ReadFault
maybe_fault forms path ds = or_nothing (exact_fault forms path 0) ds

abbrev pub tagged_fault : Cases → List ℕ → List Data → Option ReadFault
tagged_fault cases path ds = begun cases (λ word xs. case_fault cases path word xs) path ds
