-- The first fault of a document, and of parts of it.
use Rattle.std.specs.Prelude.{ℕ, List, [], ◌∷◌, length, nat_le, if◌then◌else◌, Option, Some, None, option_map}
use Rattle.std.specs.Option.{option_or, option_map_or}
use Rattle.serde_json.specs.Data.{Data, Num}
use Rattle.serde_json.specs.Find.{as_number, as_u64}
use Rattle.serde_json.specs.View.{view}
use Rattle.wm_event.specs.Limits.{max_steps, max_threads}
use Rattle.wm_event.specs.declared.event.EventKind.{EventKind}
use Rattle.wm_event.specs.declared.event.EventKind.TheVariants.{Read, Write, Update}
use Rattle.wm_logfile.specs.declared.document.Version.{Version}
use Rattle.wm_logfile.specs.declared.document.Version.TheVariants.{First, Second}
use Rattle.wm_logfile.specs.declared.event.EventParts.{EventParts}
use Rattle.wm_logfile.specs.declared.fault.DocFault.{DocFault}
use Rattle.wm_logfile.specs.declared.fault.DocFault.TheVariants.{BadShape, BadVersion, TooLarge}
use Rattle.wm_logfile.specs.declared.fault.ReadFault.{ReadFault}
use Rattle.wm_logfile.specs.declared.fault.ReadFault.TheVariants.{Shape}
use Rattle.wm_logfile.specs.Faults.{as_document}
use Rattle.wm_logfile.specs.Forms.{Form, up_to, text, items, no_fields, field, items_fault, numbered_fault, first_fault, exact_fault}
use Rattle.wm_logfile.specs.Grammar.{value, small, width, order_form, values_fields, writers, ending, thread, thread_by, keys, witness, format_name}
use Rattle.wm_logfile.specs.Paths.{child}
use Rattle.wm_logfile.specs.Reading.{◌>>=◌, list_at, version_from}

-- ---- of parts that are read one after the other

-- the values of an event
abbrev pub values_fault : EventKind → List ℕ → List Data → Option ReadFault
values_fault kind path values = exact_fault (values_fields kind no_fields) path 4 values

-- what comes after the word of an event, up to its values
abbrev pub parts_fault : EventKind → List ℕ → EventParts → List Data → Option ReadFault
parts_fault kind path parts values =
    option_or (first_fault (order_form kind) (child path 1) (view parts.order.now))
    (option_or (first_fault small (child path 2) (view parts.address.now))
    (option_or (first_fault width (child path 3) (view parts.width.now)) (values_fault kind path values)))

-- what comes after the values of an event
abbrev pub by_fault : EventKind → List ℕ → List Data → Option ReadFault
by_fault Read path lists = exact_fault (field writers no_fields) path 5 lists
by_fault Write path lists = exact_fault no_fields path 5 lists
by_fault Update path lists = exact_fault (field writers no_fields) path 6 lists

-- the name and the arguments of a thread
abbrev pub start_fault : List ℕ → Data → Data → Option ReadFault
start_fault path name args = option_or (first_fault text (child path 0) name) (first_fault (items value) (child path 1) args)

-- what comes before the events of a thread
abbrev pub head_fault : List ℕ → List Data → Option ReadFault
head_fault path (name ∷ args ∷ ended ∷ steps ∷ events ∷ []) =
    option_or (start_fault path name args) (option_or (first_fault ending (child path 2) ended) (first_fault (up_to max_steps) (child path 3) steps))
head_fault path _ = Some (Shape path)

-- ---- a document

-- the fault of a value inside, as one of the document
abbrev pub as_first : Option ReadFault → Option DocFault
as_first fault = option_map as_document fault

-- a value other than a list; otherwise the fault among its items
abbrev pub in_document : (List Data → Option DocFault) → List ℕ → Data → Option DocFault
in_document fault path d = option_map_or fault (list_at d) (Some (BadShape path))

-- too many threads are reported before a fault of the first of them
abbrev pub few_fault : (ℕ → List ℕ → Data → Option ReadFault) → List ℕ → List Data → Option DocFault
few_fault fault path ds = if nat_le (length ds) max_threads then as_first (items_fault fault path 0 ds) else Some TooLarge

abbrev pub threads_fault : Form → List ℕ → Data → Option DocFault
threads_fault form path d = in_document (few_fault (numbered_fault (first_fault form)) path) path d

-- what comes after the version
abbrev pub pair_fault : Version → List ℕ → Data → Data → Option DocFault
pair_fault First path threads last = option_or (threads_fault thread (child path 2) threads) (as_first (first_fault witness (child path 3) last))
pair_fault Second path threads last = option_or (threads_fault thread_by (child path 2) threads) (as_first (first_fault keys (child path 3) last))

-- a number that is not a version; or a known version, and then the fault of what comes after it
abbrev pub version_fault : (Version → Option DocFault) → List ℕ → Option Num → Option DocFault
version_fault behind path None = Some (BadShape path)
version_fault behind path (Some n) = option_map_or behind (as_u64 n >>= version_from) (Some BadVersion)

-- the name, the version and what comes after it
abbrev pub parts_fault_with : (Version → Data → Data → Option DocFault) → List ℕ → List Data → Option DocFault
parts_fault_with behind path (name ∷ version ∷ threads ∷ last ∷ []) =
    option_or (as_first (first_fault format_name (child path 0) name)) (version_fault (λ v. behind v threads last) (child path 1) (as_number version))
parts_fault_with behind path _ = Some (BadShape path)

-- the first fault of a document
unfoldable pub document_fault : Data → Option DocFault
document_fault d = in_document (parts_fault_with (λ v threads last. pair_fault v [] threads last) []) [] d
