-- The values at the places of a document, and the forms that they should have.
use Rattle.std.specs.Prelude.{◌≡◌, ◌≤◌, ℕ, zero, suc, List, [], ◌∷◌, length, if◌then◌else◌, Option, Some, None, option_and_then}
use Rattle.std.specs.Option.{unwrap_or}
use Rattle.serde_json.specs.Data.{Data, Num, number}
use Rattle.serde_json.specs.Find.{at, as_str}
use Rattle.wm_logfile.specs.declared.document.Version.{Version}
use Rattle.wm_logfile.specs.declared.document.Version.TheVariants.{First, Second}
use Rattle.wm_logfile.specs.declared.fault.DocFault.{DocFault}
use Rattle.wm_logfile.specs.declared.fault.ReadFault.{ReadFault}
use Rattle.wm_logfile.specs.Causes.{IsTextOf}
use Rattle.wm_logfile.specs.FirstFault.{document_fault}
use Rattle.wm_logfile.specs.Forms.{Form, up_to, one_of, word_of, text, items, numbered, fields, maybe, tagged, Fields, no_fields, field, Cases, no_cases, case, is_word, first_fault}
use Rattle.wm_logfile.specs.Grammar.{format_name, thread, thread_by, witness, keys}
use Rattle.wm_logfile.specs.Limits.{max_document_bytes}
use Rattle.wm_logfile.specs.Reading.{version_at}

-- ---- the value at a place

-- the value that the path leads to: the item of the list at each index
abbrev pub value_at : List ℕ → Data → Option Data
value_at [] d = Some d
value_at (i ∷ path) d = option_and_then (value_at path) (at i d)

-- ---- the form of that value

abbrev pub field_at : ℕ → Fields → Option Form
field_at i no_fields = None
field_at zero (field form rest) = Some form
field_at (suc i) (field form rest) = field_at i rest

abbrev pub words_of : Cases → List (List ℕ)
words_of no_cases = []
words_of (case w forms cases) = w ∷ words_of cases

-- the form of the item that comes after the word and this many others
abbrev pub case_field : Cases → Option (List ℕ) → ℕ → Option Form
case_field no_cases word i = None
case_field (case w forms cases) word i = if is_word (w ∷ []) word then field_at i forms else case_field cases word i

-- the form of an item of the value, by its index
abbrev pub item_form : Form → ℕ → Data → Option Form
item_form (up_to limit) i d = None
item_form (one_of numbers) i d = None
item_form (word_of words) i d = None
item_form text i d = None
item_form (items form) i d = Some form
item_form (numbered form) i d = Some form
item_form (fields forms) i d = field_at i forms
item_form (maybe forms) i d = field_at i forms
item_form (tagged cases) zero d = Some (word_of (words_of cases))
item_form (tagged cases) (suc i) d = case_field cases (option_and_then as_str (at 0 d)) i

-- the form of the value that the path leads to
abbrev pub form_at : List ℕ → Form → Data → Option Form
form_at [] form d = Some form
form_at (i ∷ path) form d = option_and_then (λ inner. option_and_then (form_at path inner) (at i d)) (item_form form i d)

-- ---- a document

-- the form of a document of that version, which may list any number of threads
abbrev pub document_form : Version → Form
document_form First = fields (field format_name (field (one_of (1 ∷ 2 ∷ [])) (field (numbered thread) (field witness no_fields))))
document_form Second = fields (field format_name (field (one_of (1 ∷ 2 ∷ [])) (field (numbered thread_by) (field keys no_fields))))

-- the version that a document names; the second, if it names none
abbrev pub named_version : Data → Version
named_version d = unwrap_or (option_and_then version_at (at 1 d)) Second

-- the path leads to a value, which has this fault in the form that the grammar gives it there
pub record HasFaultAt (fault : List ℕ → ReadFault) (path : List ℕ) (d : Data) : Type 0 where
  pub value : Data
  pub found : value_at path d ≡ Some value
  pub form : Form
  pub expected : form_at path (document_form (named_version d)) d ≡ Some form
  pub faulty : first_fault form [] value ≡ Some (fault [])

-- the path leads to a number
pub record HasNumberAt (path : List ℕ) (d : Data) : Type 0 where
  pub given : Num
  pub found : value_at path d ≡ Some (number given)

-- the first fault of this kind of a document within the limit has this property, by its path and the value of the text
abbrev pub EachFault : (List ℕ → DocFault) → (List ℕ → Data → Type 0) → Type 0
EachFault fault P = (bytes : List ℕ) (d : Data) (path : List ℕ) → IsTextOf bytes d → length bytes ≤ max_document_bytes
    → document_fault d ≡ Some (fault path) → P path d
