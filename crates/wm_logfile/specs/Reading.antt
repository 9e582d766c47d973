-- Reading as functions on values, for the clauses of the readers: `x_at` reads an x from a value, and `x_from` from the
-- items of a list or from a text. None means that no x is spelled this way.
use Rattle.std.specs.Prelude.{◌==◌, ◌||◌, ℕ, suc, List, [], ◌∷◌, length, map, take, drop, codes, Bool, nat_le, if◌then◌else◌, Option, Some, None, option_map, option_and_then, unwrap_or, ⊤}
use Rattle.std.specs.Str.{bytes_eq}
use Rattle.serde_json.specs.Data.{Data, Items, no_items, item}
use Rattle.serde_json.specs.Find.{as_number, as_str, as_u64, as_array}
use Rattle.serde_json.specs.View.{view}
use Rattle.wm_access.specs.declared.AccessWidth.{AccessWidth}
use Rattle.wm_access.specs.declared.AccessWidth.TheVariants.{One, Two, Four, Eight}
use Rattle.wm_access.specs.MemoryOrder.{is_sequential}
use Rattle.wm_event.specs.Limits.{max_steps, max_threads}
use Rattle.wm_event.specs.declared.event.EventKind.{EventKind}
use Rattle.wm_event.specs.declared.event.EventKind.TheVariants.{Read, Write, Update}
use Rattle.wm_access.specs.declared.MemoryOrder.{MemoryOrder}
use Rattle.wm_access.specs.declared.MemoryOrder.TheVariants.{Unordered, SeqCst}
use Rattle.wm_event.specs.declared.event.Event.{Event}
use Rattle.wm_event.specs.declared.event.EventId.{EventId}
use Rattle.wm_event.specs.declared.event.EventId.TheVariants.{Init, At}
use Rattle.wm_event.specs.declared.event.EventKey.{EventKey}
use Rattle.wm_event.specs.declared.log.End.{End}
use Rattle.wm_event.specs.declared.log.End.TheVariants.{Done, Trap, Cut}
use Rattle.wm_event.specs.declared.log.TrapKind.{TrapKind}
use Rattle.wm_event.specs.declared.log.TrapKind.TheVariants.{Unreachable, DivideByZero, Overflow, OutOfBounds, Unaligned, Exhausted}
use Rattle.wm_event.specs.declared.log.Start.{Start}
use Rattle.wm_event.specs.declared.log.ThreadLog.{ThreadLog}
use Rattle.wm_event.specs.declared.witness.Witness.{Witness}
use Rattle.wm_event.specs.TrapText.{trap_text}
use Rattle.wm_logfile.specs.declared.event.EventParts.{EventParts}
use Rattle.wm_logfile.specs.declared.document.Version.{Version}
use Rattle.wm_logfile.specs.declared.document.Version.TheVariants.{First, Second}
use Rattle.wm_logfile.specs.declared.thread.ThreadHead.{ThreadHead}
use Rattle.wm_logfile.specs.Words.{kind_word, order_word}

-- the second reads from what the first read
infixl 10 ◌>>=◌
abbrev pub ◌>>=◌ : {A B : Type 0} → Option A → (A → Option B) → Option B
(Some x) >>= f = f x
None >>= f = None

abbrev pub data_list : Items → List Data
data_list no_items = []
data_list (item d ds) = d ∷ data_list ds

abbrev pub list_at : Data → Option (List Data)
list_at d = option_map data_list (as_array d)

-- the items of a list; none for another value
abbrev pub items_in : Data → List Data
items_in d = unwrap_or (list_at d) []

-- a number that is at most the limit
abbrev pub number_at : ℕ → Data → Option ℕ
number_at limit d = option_and_then as_u64 (as_number d) >>= λ n. if nat_le n limit then Some n else None

-- the width of that many bytes
abbrev pub width_from : ℕ → Option AccessWidth
width_from n = if n == 1 then Some One else (if n == 2 then Some Two else (if n == 4 then Some Four else (if n == 8 then Some Eight else None)))

abbrev pub width_at : Data → Option AccessWidth
width_at d = number_at 8 d >>= width_from

-- the first of these that is written this way
abbrev pub word_from : {A : Type 0} → (A → List ℕ) → List A → List ℕ → Option A
word_from word [] s = None
word_from word (a ∷ others) s = if bytes_eq s (word a) then Some a else word_from word others s

abbrev pub kind_from : List ℕ → Option EventKind
kind_from s = word_from kind_word (Read ∷ Write ∷ Update ∷ []) s

abbrev pub order_from : List ℕ → Option MemoryOrder
order_from s = word_from order_word (Unordered ∷ SeqCst ∷ []) s

abbrev pub kind_at : Data → Option EventKind
kind_at d = as_str d >>= kind_from

abbrev pub order_at : Data → Option MemoryOrder
order_at d = as_str d >>= order_from

-- the number of values at the end of an event of the kind
abbrev pub values_len : EventKind → ℕ
values_len Read = 1
values_len Write = 1
values_len Update = 2

-- an update is SeqCst
abbrev pub order_for : EventKind → Data → Option MemoryOrder
order_for Read d = order_at d
order_for Write d = order_at d
order_for Update d = order_at d >>= λ o. if is_sequential o then Some o else None

abbrev pub u32_max : ℕ
u32_max = 4294967295

abbrev pub u64_max : ℕ
u64_max = 18446744073709551615

-- what was read, and what was written
abbrev pub values_at : EventKind → List Data → Option (ℕ × ℕ)
values_at Read (v ∷ []) = number_at u64_max v >>= λ n. Some (n, 0)
values_at Write (v ∷ []) = number_at u64_max v >>= λ n. Some (0, n)
values_at Update (r ∷ v ∷ []) = number_at u64_max r >>= λ m. number_at u64_max v >>= λ n. Some (m, n)
values_at _ _ = None

-- some kind has this number of values
abbrev pub is_count : ℕ → Bool
is_count n = (n == 1) || (n == 2)

-- the event of the kind, by the items after its word
abbrev pub event_from : ℕ → ℕ → EventKind → Data → Data → Data → List Data → Option Event
event_from t n k order address width values =
    order_for k order >>= λ o. number_at u32_max address >>= λ a. width_at width >>= λ w. values_at k values >>= λ v.
    Some (record { thread = t; number = n; kind = k; order = o; address = a; width = w; read = v.0; written = v.1 })

-- the same for the parts that a reader holds
abbrev pub event_of : ℕ → ℕ → EventKind → EventParts → List Data → Option Event
event_of t n k parts values = event_from t n k (view parts.order.now) (view parts.address.now) (view parts.width.now) values

unfoldable pub fields_at : ℕ → ℕ → List Data → Option Event
fields_at t n (tag ∷ order ∷ address ∷ width ∷ values) =
    if is_count (length values) then (kind_at tag >>= λ k. if length values == values_len k then event_from t n k order address width values else None) else None
fields_at t n _ = None

abbrev pub event_at : ℕ → ℕ → Data → Option Event
event_at t n d = list_at d >>= fields_at t n

-- each item, given its index
abbrev pub traverse : {A : Type 0} → (ℕ → Data → Option A) → ℕ → List Data → Option (List A)
traverse f n [] = Some []
traverse f n (d ∷ ds) = f n d >>= λ a. traverse f (suc n) ds >>= λ rest. Some (a ∷ rest)

abbrev pub items_at : {A : Type 0} → (ℕ → Data → Option A) → Data → Option (List A)
items_at f d = list_at d >>= traverse f 0

abbrev pub number_event_at : ℕ → ℕ → Data → Option Event
number_event_at t n d = if nat_le n u32_max then event_at t n d else None

-- ---- an event with the writers of the bytes that it read

unfoldable pub key_from : List Data → Option EventKey
key_from (t ∷ i ∷ []) = number_at u32_max t >>= λ x. number_at u32_max i >>= λ y. Some (record { thread = x; number = y })
key_from _ = None

abbrev pub key_at : Data → Option EventKey
key_at d = list_at d >>= key_from

abbrev pub writer_from : List Data → Option EventId
writer_from [] = Some Init
writer_from (d ∷ ds) = key_from (d ∷ ds) >>= λ key. Some (At key)

abbrev pub writer_at : Data → Option EventId
writer_at d = list_at d >>= writer_from

abbrev pub event_writers_at : Data → Option (List EventId)
event_writers_at d = items_at (λ _ x. writer_at x) d

-- the list of writers after the values, which a write doesn't have
abbrev pub by_from : EventKind → List Data → Option (List EventId)
by_from Read (by ∷ []) = event_writers_at by
by_from Write [] = Some []
by_from Update (by ∷ []) = event_writers_at by
by_from _ _ = None

-- the number of values and lists of writers at the end of an event of the kind
abbrev pub values_by_len : EventKind → ℕ
values_by_len Read = 2
values_by_len Write = 1
values_by_len Update = 3

abbrev pub is_count_by : ℕ → Bool
is_count_by n = (n == 1) || ((n == 2) || (n == 3))

unfoldable pub fields_by_at : ℕ → ℕ → List Data → Option (Event × List EventId)
fields_by_at t n (tag ∷ order ∷ address ∷ width ∷ rest) =
    if is_count_by (length rest) then (kind_at tag >>= λ k. if length rest == values_by_len k then
    (event_from t n k order address width (take (values_len k) rest) >>= λ e. by_from k (drop (values_len k) rest) >>= λ ws. Some (e, ws))
    else None) else None
fields_by_at t n _ = None

abbrev pub event_by_at : ℕ → ℕ → Data → Option (Event × List EventId)
event_by_at t n d = list_at d >>= fields_by_at t n

abbrev pub number_event_by_at : ℕ → ℕ → Data → Option (Event × List EventId)
number_event_by_at t n d = if nat_le n u32_max then event_by_at t n d else None

-- ---- a thread's log

abbrev pub trap_from : List ℕ → Option TrapKind
trap_from s = word_from trap_text (Unreachable ∷ DivideByZero ∷ Overflow ∷ OutOfBounds ∷ Unaligned ∷ Exhausted ∷ []) s

abbrev pub trap_at : Data → Option TrapKind
trap_at d = as_str d >>= trap_from

abbrev pub result_from : List Data → Option (Option ℕ)
result_from [] = Some None
result_from (v ∷ []) = number_at u64_max v >>= λ n. Some (Some n)
result_from _ = None

unfoldable pub end_from : List Data → Option End
end_from (word ∷ []) = as_str word >>= λ s. if bytes_eq s (codes "cut") then Some Cut else None
end_from (word ∷ x ∷ []) = as_str word >>= λ s.
    if bytes_eq s (codes "done") then (list_at x >>= result_from >>= λ v. Some (Done v)) else
    (if bytes_eq s (codes "trap") then (trap_at x >>= λ k. Some (Trap k)) else None)
end_from _ = None

abbrev pub end_at : Data → Option End
end_at d = list_at d >>= end_from

abbrev pub start_at : Data → Data → Option Start
start_at name args = as_str name >>= λ s. items_at (λ _ d. number_at u64_max d) args >>= λ xs. Some (record { name = s; args = xs })

-- what comes before the events, and the events
unfoldable pub head_from : List Data → Option (ThreadHead × Data)
head_from (name ∷ args ∷ end ∷ steps ∷ events ∷ []) =
    start_at name args >>= λ s. end_at end >>= λ e. number_at max_steps steps >>= λ n. Some (record { start = s; end = e; steps = n }, events)
head_from _ = None

abbrev pub head_at : Data → Option (ThreadHead × Data)
head_at d = list_at d >>= head_from

abbrev pub with_events : ThreadHead → List Event → ThreadLog
with_events h es = record { start = h.start; end = h.end; steps = h.steps; events = es }

abbrev pub thread_at : ℕ → Data → Option ThreadLog
thread_at t d = head_at d >>= λ h. items_at (number_event_at t) h.1 >>= λ es. Some (with_events h.0 es)

abbrev pub limited_thread_at : ℕ → Data → Option ThreadLog
limited_thread_at t d = if nat_le t u32_max then thread_at t d else None

abbrev pub firsts : {A B : Type 0} → List (A × B) → List A
firsts ps = map (λ p. p.0) ps

abbrev pub seconds : {A B : Type 0} → List (A × B) → List B
seconds ps = map (λ p. p.1) ps

-- a thread's log with the writers of its events
abbrev pub thread_by_at : ℕ → Data → Option (ThreadLog × List (List EventId))
thread_by_at t d = head_at d >>= λ h. items_at (number_event_by_at t) h.1 >>= λ es. Some (with_events h.0 (firsts es), seconds es)

abbrev pub limited_thread_by_at : ℕ → Data → Option (ThreadLog × List (List EventId))
limited_thread_by_at t d = if nat_le t u32_max then thread_by_at t d else None

-- ---- the witness

abbrev pub thread_writers_at : Data → Option (List (List EventId))
thread_writers_at d = items_at (λ _ x. event_writers_at x) d

abbrev pub writers_at : Data → Option (List (List (List EventId)))
writers_at d = items_at (λ _ x. thread_writers_at x) d

abbrev pub keys_at : Data → Option (List EventKey)
keys_at d = items_at (λ _ x. key_at x) d

unfoldable pub witness_from : List Data → Option Witness
witness_from (writers ∷ order ∷ []) = writers_at writers >>= λ w. keys_at order >>= λ o. Some (record { writers = w; order = o })
witness_from _ = None

abbrev pub witness_at : Data → Option Witness
witness_at d = list_at d >>= witness_from

-- ---- the whole

abbrev pub few_from : {A : Type 0} → (ℕ → Data → Option A) → List Data → Option (List A)
few_from f ts = if nat_le (length ts) max_threads then traverse f 0 ts else None

-- each thread, if there are not too many
abbrev pub few_at : {A : Type 0} → (ℕ → Data → Option A) → Data → Option (List A)
few_at f d = list_at d >>= few_from f

-- the version of that number
abbrev pub version_from : ℕ → Option Version
version_from n = if n == 1 then Some First else (if n == 2 then Some Second else None)

abbrev pub version_at : Data → Option Version
version_at d = as_number d >>= as_u64 >>= version_from

-- nothing, if this is the name of the format
abbrev pub name_at : Data → Option ⊤
name_at d = as_str d >>= λ s. if bytes_eq s (codes "wasm-litmus-log") then Some tt else None

-- the version of a document, its threads, and what comes after them
unfoldable pub parts_from : List Data → Option (Version × Data × Data)
parts_from (name ∷ version ∷ threads ∷ last ∷ []) = name_at name >>= λ _. version_at version >>= λ v. Some (v, threads, last)
parts_from _ = None

abbrev pub parts_at : Data → Option (Version × Data × Data)
parts_at d = list_at d >>= parts_from

abbrev pub pair_1_at : Data → Data → Option (List ThreadLog × Witness)
pair_1_at threads last = few_at limited_thread_at threads >>= λ ts. witness_at last >>= λ w. Some (ts, w)

abbrev pub pair_2_at : Data → Data → Option (List ThreadLog × Witness)
pair_2_at threads last = few_at limited_thread_by_at threads >>= λ ps. keys_at last >>= λ o. Some (firsts ps, record { writers = seconds ps; order = o })

abbrev pub pair_at : Version → Data → Data → Option (List ThreadLog × Witness)
pair_at First threads last = pair_1_at threads last
pair_at Second threads last = pair_2_at threads last

abbrev pub document_at : Data → Option (List ThreadLog × Witness)
document_at d = parts_at d >>= λ p. pair_at p.0 p.1 p.2
