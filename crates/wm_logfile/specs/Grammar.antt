-- The grammar of a document: the form of each of its parts.
use Rattle.std.specs.Prelude.{[], ◌∷◌, map, codes}
use Rattle.wm_event.specs.Limits.{max_steps}
use Rattle.wm_event.specs.declared.event.EventKind.{EventKind}
use Rattle.wm_event.specs.declared.event.EventKind.TheVariants.{Read, Write, Update}
use Rattle.wm_event.specs.declared.log.TrapKind.TheVariants.{Unreachable, DivideByZero, Overflow, OutOfBounds, Unaligned, Exhausted}
use Rattle.wm_event.specs.TrapText.{trap_text}
use Rattle.wm_logfile.specs.Forms.{Form, up_to, one_of, word_of, text, items, numbered, fields, maybe, tagged, Fields, no_fields, field, Cases, no_cases, case}
use Rattle.wm_logfile.specs.Reading.{u32_max, u64_max}

abbrev pub format_name : Form
format_name = word_of (codes "wasm-litmus-log" ∷ [])

-- an argument, a result, or what was read or written
abbrev pub value : Form
value = up_to u64_max

-- an address, a thread or the number of an event
abbrev pub small : Form
small = up_to u32_max

unfoldable pub width : Form
width = one_of (1 ∷ 2 ∷ 4 ∷ 8 ∷ [])

unfoldable pub order : Form
order = word_of (codes "un" ∷ codes "sc" ∷ [])

unfoldable pub kind : Form
kind = word_of (codes "r" ∷ codes "w" ∷ codes "x" ∷ [])

-- an update is SeqCst
unfoldable pub update_order : Form
update_order = word_of (codes "sc" ∷ [])

-- a thread and a number
abbrev pub key_fields : Fields
key_fields = field small (field small no_fields)

unfoldable pub key : Form
key = fields key_fields

-- a key, or nothing for Init
unfoldable pub writer : Form
writer = maybe key_fields

unfoldable pub writers : Form
writers = items writer

-- ---- events

abbrev pub order_form : EventKind → Form
order_form Read = order
order_form Write = order
order_form Update = update_order

-- the values of an event of the kind, and what comes after them in an event that reads
abbrev pub values_fields : EventKind → Fields → Fields
values_fields Read by = field value by
values_fields Write by = field value no_fields
values_fields Update by = field value (field value by)

-- what an event of the kind has after its word
abbrev pub event_fields : EventKind → Fields → Fields
event_fields kind by = field (order_form kind) (field small (field width (values_fields kind by)))

-- each kind after its word
abbrev pub cases_with : Fields → Cases
cases_with by = case (codes "r") (event_fields Read by) (case (codes "w") (event_fields Write by) (case (codes "x") (event_fields Update by) no_cases))

-- version 1
abbrev pub event_cases : Cases
event_cases = cases_with no_fields

-- version 2: the writers of the bytes read come after the values
abbrev pub event_by_cases : Cases
event_by_cases = cases_with (field writers no_fields)

unfoldable pub event : Form
event = tagged event_cases

unfoldable pub event_by : Form
event_by = tagged event_by_cases

-- ---- threads

unfoldable pub trap : Form
trap = word_of (map trap_text (Unreachable ∷ DivideByZero ∷ Overflow ∷ OutOfBounds ∷ Unaligned ∷ Exhausted ∷ []))

abbrev pub result_fields : Fields
result_fields = field value no_fields

unfoldable pub result : Form
result = maybe result_fields

abbrev pub ending_cases : Cases
ending_cases = case (codes "done") (field result no_fields) (case (codes "trap") (field trap no_fields) (case (codes "cut") no_fields no_cases))

unfoldable pub ending : Form
ending = tagged ending_cases

-- a thread whose events have this form
abbrev pub thread_fields : Form → Fields
thread_fields event = field text (field (items value) (field ending (field (up_to max_steps) (field (numbered event) no_fields))))

-- version 1
unfoldable pub thread : Form
thread = fields (thread_fields event)

-- version 2
unfoldable pub thread_by : Form
thread_by = fields (thread_fields event_by)

-- ---- what comes after the threads

-- an order, as in version 2
unfoldable pub keys : Form
keys = items key

unfoldable pub thread_writers : Form
thread_writers = items writers

-- version 1: the writers of the events of each thread, and an order
abbrev pub witness_fields : Fields
witness_fields = field (items thread_writers) (field keys no_fields)

unfoldable pub witness : Form
witness = fields witness_fields
