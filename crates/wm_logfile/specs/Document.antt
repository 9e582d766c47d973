-- The values that spell a log with a witness, the limits, and the text.
use Rattle.std.specs.Prelude.{◌≡◌, ◌<◌, ◌≤◌, ◌^◌, ℕ, List, [], ◌∷◌, ◌++◌, map, length, codes, Some, None, Option, ⊤, IsUtf8, IfSome, All}
use Rattle.serde_json.specs.Data.{Data, number, string, array, unsigned}
use Rattle.serde_json.specs.Read.{read}
use Rattle.serde_json.specs.View.{items_of}
use Rattle.wm_access.specs.AccessWidth.{bytes_of}
use Rattle.wm_event.specs.Limits.{max_steps, max_threads}
use Rattle.wm_event.specs.declared.event.EventKind.{EventKind}
use Rattle.wm_event.specs.declared.event.EventKind.TheVariants.{Read, Write, Update}
use Rattle.wm_event.specs.declared.event.Event.{Event}
use Rattle.wm_event.specs.declared.event.EventId.{EventId}
use Rattle.wm_event.specs.declared.event.EventId.TheVariants.{Init, At}
use Rattle.wm_event.specs.declared.event.EventKey.{EventKey}
use Rattle.wm_event.specs.declared.log.End.{End}
use Rattle.wm_event.specs.declared.log.End.TheVariants.{Done, Trap, Cut}
use Rattle.wm_event.specs.declared.log.ThreadLog.{ThreadLog}
use Rattle.wm_event.specs.declared.witness.Witness.{Witness}
use Rattle.wm_event.specs.Event.{key_of}
use Rattle.wm_event.specs.Fitting.{FitsLog}
use Rattle.wm_event.specs.TrapText.{trap_text}
use Rattle.wm_event.specs.Witness.{writers_in}
use Rattle.wm_logfile.specs.Words.{kind_word, order_word}

-- ---- the parts of both versions

-- the array of these values
abbrev pub list : List Data → Data
list ds = array (items_of ds)

-- an integer that is not negative
abbrev pub count : ℕ → Data
count n = number (unsigned n)

-- the values at the end of an event of the kind
abbrev pub values : EventKind → ℕ → ℕ → List Data
values Read read written = count read ∷ []
values Write read written = count written ∷ []
values Update read written = count read ∷ count written ∷ []

abbrev pub event_cells : Event → List Data
event_cells e = string (kind_word e.kind) ∷ string (order_word e.order) ∷ count e.address ∷ count (bytes_of e.width) ∷ values e.kind e.read e.written

abbrev pub event : Event → Data
event e = list (event_cells e)

abbrev pub result_cells : Option ℕ → List Data
result_cells None = []
result_cells (Some v) = count v ∷ []

abbrev pub end_cells : End → List Data
end_cells (Done result) = string (codes "done") ∷ list (result_cells result) ∷ []
end_cells (Trap kind) = string (codes "trap") ∷ string (trap_text kind) ∷ []
end_cells Cut = string (codes "cut") ∷ []

abbrev pub end : End → Data
end e = list (end_cells e)

-- a thread's log, with these as its events
abbrev pub thread_cells : ThreadLog → List Data → List Data
thread_cells l events = string l.start.name ∷ list (map count l.start.args) ∷ end l.end ∷ count l.steps ∷ list events ∷ []

abbrev pub key_cells : EventKey → List Data
key_cells key = count key.thread ∷ count key.number ∷ []

abbrev pub event_key : EventKey → Data
event_key key = list (key_cells key)

abbrev pub writer_cells : EventId → List Data
writer_cells Init = []
writer_cells (At key) = key_cells key

abbrev pub writer : EventId → Data
writer w = list (writer_cells w)

abbrev pub event_writers : List EventId → Data
event_writers ws = list (map writer ws)

abbrev pub keys : List EventKey → Data
keys order = list (map event_key order)

-- a document of that version, whose last item is this
abbrev pub document_cells : ℕ → List Data → Data → List Data
document_cells version threads last = string (codes "wasm-litmus-log") ∷ count version ∷ list threads ∷ last ∷ []

-- ---- version 1: the witness comes after the threads

abbrev pub thread : ThreadLog → Data
thread l = list (thread_cells l (map event l.events))

abbrev pub thread_writers : List (List EventId) → Data
thread_writers ws = list (map event_writers ws)

abbrev pub writers : List (List (List EventId)) → Data
writers ws = list (map thread_writers ws)

abbrev pub witness_cells : Witness → List Data
witness_cells w = writers w.writers ∷ keys w.order ∷ []

abbrev pub witness : Witness → Data
witness w = list (witness_cells w)

abbrev pub document_1 : List ThreadLog → Witness → Data
document_1 log w = list (document_cells 1 (map thread log) (witness w))

-- ---- version 2: each event that reads has its writers

abbrev pub by_cells : EventKind → List EventId → List Data
by_cells Read ws = event_writers ws ∷ []
by_cells Write ws = []
by_cells Update ws = event_writers ws ∷ []

-- an event, with the writers of the bytes that it read
abbrev pub event_by : Event → List EventId → Data
event_by e ws = list (event_cells e ++ by_cells e.kind ws)

abbrev pub thread_by : Witness → ThreadLog → Data
thread_by w l = list (thread_cells l (map (λ e. event_by e (writers_in w (key_of e))) l.events))

abbrev pub document_2 : List ThreadLog → Witness → Data
document_2 log w = list (document_cells 2 (map (thread_by w) log) (keys w.order))

-- ---- the relation

-- the value spells the log with the witness, in version 1 or, if the witness fits the log, in version 2
pub data IsDocument (d : Data) (log : List ThreadLog) (w : Witness) : Type 0 where
  first : d ≡ document_1 log w → IsDocument d log w
  second : FitsLog log w → d ≡ document_2 log w → IsDocument d log w

-- ---- the limits

-- the numbers of an event, including its place in its thread, are in their ranges
pub record EventFits (e : Event) : Type 0 where
  pub number : e.number < 2 ^ 32
  pub address : e.address < 2 ^ 32
  pub read : e.read < 2 ^ 64
  pub written : e.written < 2 ^ 64

abbrev pub EndFits : End → Type 0
EndFits (Done result) = IfSome result (λ v. v < 2 ^ 64)
EndFits (Trap kind) = ⊤
EndFits Cut = ⊤

pub record ThreadFits (l : ThreadLog) : Type 0 where
  pub args : All (λ a. a < 2 ^ 64) l.start.args
  pub end : EndFits l.end
  pub steps : l.steps ≤ max_steps
  pub events : All EventFits l.events

pub record KeyFits (key : EventKey) : Type 0 where
  pub thread : key.thread < 2 ^ 32
  pub number : key.number < 2 ^ 32

-- Init has no number
abbrev pub WriterFits : EventId → Type 0
WriterFits Init = ⊤
WriterFits (At key) = KeyFits key

-- the ranges of the numbers in a document, and the most threads
pub record IsWithinLimits (log : List ThreadLog) (w : Witness) : Type 0 where
  pub threads : length log ≤ max_threads
  pub each : All ThreadFits log
  pub writers : All (All (All WriterFits)) w.writers
  pub order : All KeyFits w.order

-- ---- the text

-- the bytes are JSON text of a value that spells the log with the witness
pub record Spells (bytes : List ℕ) (log : List ThreadLog) (w : Witness) : Type 0 where
  pub utf8 : IsUtf8 bytes
  pub value : Data
  pub text : read bytes ≡ Some value
  pub spelled : IsDocument value log w
