-- The visible state of a memory, and when it fits the steps made so far.
use Rattle.std.specs.Prelude.{◌≡◌, ℕ, ◌+◌, ◌^◌, ◌<◌, ◌≤◌, Bool, true, false, List, [], ◌∷◌, ◌++◌, length, reverse, take, drop, slice_get, slice_set, Some, MatchBool, MatchResult, ◌&&◌, ◌==◌, if◌then◌else◌, Result, Ok, Err}
use Rattle.wm_access.specs.declared.MemoryOrder.{MemoryOrder}
use Rattle.wm_access.specs.declared.MemoryOrder.TheVariants.{Unordered, SeqCst}
use Rattle.wm_event.specs.declared.op.OpKind.{OpKind}
use Rattle.wm_event.specs.declared.op.OpKind.TheVariants.{Read, Write, Rmw, CmpXchg}
use Rattle.wm_event.specs.declared.op.Reply.{Reply}
use Rattle.wm_event.specs.Event.{reads}
use Rattle.wm_memory.specs.declared.memory.Made.{Made as MadeAccess}
use Rattle.wm_memory.specs.declared.memory.MemFault.{MemFault}
use Rattle.wm_memory.specs.declared.memory.MemFault.TheVariants.{NoThread, OutOfBounds, OutOfMemory}
use Rattle.wm_access.specs.AccessWidth.{bytes_of}
use Rattle.wm_event.specs.declared.event.Event.{Event}
use Rattle.wm_event.specs.declared.event.EventId.{EventId}
use Rattle.wm_event.specs.declared.op.OpFields.{OpFields as Op}
use Rattle.wm_event.specs.Op.{event_made}
use Rattle.wm_memory.specs.Cells.{covers}
use Rattle.wm_memory.specs.Limits.{max_pending}
use Rattle.wm_memory.specs.Table.{CellTable, cell_at, HasCell, Puts, PutsAll, shown}
use Rattle.wm_memory.specs.Visibility.{Step, Made, Drained, Passes, In, published, waiting, accesses, seen, value_at, writers_at, made_after, writers_after, step_of}
use Rattle.wm_memory.specs.declared.history_step.HistoryStep.TheVariants.{Access}
use Rattle.wm_memory.specs.Reply.{padded, reply_after}

-- both write a common byte
abbrev pub Overlaps : Event → Event → Type 0
Overlaps x y = (a : ℕ) × (covers x a ≡ true) × (covers y a ≡ true)

-- among these stores, the oldest first, there is one with k older ones, and it overlaps none of them
abbrev pub MayPass : ℕ → List Event → Type 0
MayPass k stores = (k < length stores) × Passes k (reverse stores)

-- the waiting stores of a thread, the oldest first, and how many accesses the thread made
pub record Buffered : Type 0 where
  pub stores : List Event
  pub accesses : ℕ

-- the buffer without the store that has this number of older ones
abbrev pub without_store : ℕ → Buffered → Buffered
without_store index b = record b { stores = take index b.stores ++ drop (index + 1) b.stores }

-- published bytes with their writers, and the buffer of each thread
pub record State : Type 0 where
  pub cells : CellTable
  pub buffers : List Buffered

pub record FitsThread (s : List Step) (t : ℕ) (b : Buffered) : Type 0 where
  pub stores : reverse b.stores ≡ waiting s t
  pub accesses : b.accesses ≡ accesses s t

-- a memory shows what these steps of this number of threads over Init left, and has cells for the waiting stores
pub record Fits (threads : ℕ) (init : List ℕ) (s : List Step) (m : State) : Type 0 where
  pub initial : m.cells.initial ≡ init
  pub size : length m.buffers ≡ threads
  pub cells : (a : ℕ) → cell_at m.cells a ≡ seen init (published s) a
  pub buffers : (t : ℕ) (b : Buffered) → slice_get m.buffers t ≡ Some b → FitsThread s t b
  pub room : (t : ℕ) (e : Event) (a : ℕ) → In e (waiting s t) → covers e a ≡ true → HasCell m.cells a

-- n stores of t wait; 0 if there is no such thread
abbrev pub IsPending : ℕ → State → ℕ → Type 0
IsPending t m n = ((b : Buffered) → slice_get m.buffers t ≡ Some b → n ≡ length b.stores) × (length m.buffers ≤ t → n ≡ 0)

-- the waiting store e of t that has k older ones was published
pub record PublishesStore (t k : ℕ) (b : Buffered) (e : Event) (m n : State) : Type 0 where
  pub was : slice_get m.buffers t ≡ Some b
  pub there : k < length b.stores
  pub store : b.stores ≡ take k b.stores ++ e ∷ drop (k + 1) b.stores
  pub cells : Puts e m.cells n.cells
  pub buffers : n.buffers ≡ slice_set m.buffers t (record { stores = take k b.stores ++ drop (k + 1) b.stores; accesses = b.accesses })

abbrev pub PublishesAt : ℕ → ℕ → State → State → Type 0
PublishesAt t k m n = (b : Buffered) × ((e : Event) × PublishesStore t k b e m n)

-- t has a waiting store with k older ones
abbrev pub Waits : ℕ → ℕ → State → Type 0
Waits t k m = (b : Buffered) × (slice_get m.buffers t ≡ Some b) × (k < length b.stores)

-- t has no waiting store with k older ones that it may pass
abbrev pub CannotLeave : ℕ → ℕ → State → Type 0
CannotLeave t k m = (b : Buffered) → slice_get m.buffers t ≡ Some b → k < length b.stores → Passes k (reverse b.stores) → ⊥

abbrev pub MayLeave : ℕ → ℕ → State → Type 0
MayLeave t k m = (b : Buffered) × (slice_get m.buffers t ≡ Some b) × (k < length b.stores) × Passes k (reverse b.stores)

-- the store left if it may, otherwise nothing changed
abbrev pub Drains : ℕ → ℕ → Bool → State → State → Type 0
Drains t k result m n = MatchBool result (MayLeave t k m × PublishesAt t k m n) ((n ≡ m) × CannotLeave t k m)

-- whatever steps the memory fitted, the new one fits them with the drain after them; otherwise nothing changed
abbrev pub DrainFits : ℕ → ℕ → Bool → State → State → Type 0
DrainFits t k result m n = MatchBool result ((threads : ℕ) (initial : List ℕ) (s : List Step) → Fits threads initial s m → Fits threads initial (Drained t k ∷ s) n) (n ≡ m)

-- an atomic access of t: its stores go to the cells, giving mid; then it reads these, and its own write follows
pub record DoesAtomicBy (t : ℕ) (op : Op) (b : Buffered) (mid : CellTable) (m : State) (e : Event) (ws : List EventId) (n : State) : Type 0 where
  pub was : slice_get m.buffers t ≡ Some b
  pub flushed : PutsAll (reverse b.stores) m.cells mid
  pub event : e ≡ event_made (record { thread = t; number = b.accesses }) op (value_at (shown mid []) op.address (bytes_of op.width))
  pub writers : ws ≡ (if reads e then padded (writers_at (shown mid []) op.address (bytes_of op.width)) else padded [])
  pub cells : Puts e mid n.cells
  pub buffers : n.buffers ≡ slice_set m.buffers t (record { stores = []; accesses = b.accesses + 1 })

abbrev pub DoesAtomic : ℕ → Op → State → Event → List EventId → State → Type 0
DoesAtomic t op m e ws n = (b : Buffered) × ((mid : CellTable) × DoesAtomicBy t op b mid m e ws n)

-- a plain read of t, which the cells show under its stores
pub record DoesLoadBy (t : ℕ) (op : Op) (b : Buffered) (m : State) (e : Event) (ws : List EventId) (n : State) : Type 0 where
  pub was : slice_get m.buffers t ≡ Some b
  pub event : e ≡ event_made (record { thread = t; number = b.accesses }) op (value_at (shown m.cells (reverse b.stores)) op.address (bytes_of op.width))
  pub writers : ws ≡ (if reads e then padded (writers_at (shown m.cells (reverse b.stores)) op.address (bytes_of op.width)) else padded [])
  pub cells : n.cells ≡ m.cells
  pub buffers : n.buffers ≡ slice_set m.buffers t (record { stores = b.stores; accesses = b.accesses + 1 })

abbrev pub DoesLoad : ℕ → Op → State → Event → List EventId → State → Type 0
DoesLoad t op m e ws n = (b : Buffered) × DoesLoadBy t op b m e ws n

-- a plain store of t, which waits
pub record DoesStoreBy (t : ℕ) (op : Op) (b : Buffered) (m : State) (e : Event) (ws : List EventId) (n : State) : Type 0 where
  pub was : slice_get m.buffers t ≡ Some b
  pub event : e ≡ event_made (record { thread = t; number = b.accesses }) op 0
  pub writers : ws ≡ padded []
  pub cells : n.cells ≡ m.cells
  pub buffers : n.buffers ≡ slice_set m.buffers t (record { stores = b.stores ++ e ∷ []; accesses = b.accesses + 1 })

abbrev pub DoesStore : ℕ → Op → State → Event → List EventId → State → Type 0
DoesStore t op m e ws n = (b : Buffered) × DoesStoreBy t op b m e ws n

-- a plain store, which waits in its buffer
abbrev pub plain_store : MemoryOrder → OpKind → Bool
plain_store SeqCst kind = false
plain_store Unordered Read = false
plain_store Unordered (Write v) = true
plain_store Unordered (Rmw operator v) = false
plain_store Unordered (CmpXchg expected new) = false

-- the oldest store leaves directly before the access: the access is a plain store, and the buffer is full
abbrev pub drains_first : List Step → ℕ → Op → Bool
drains_first s t op = plain_store op.order op.kind && (length (waiting s t) == max_pending)

-- the steps that an access of t follows
abbrev pub ready : List Step → ℕ → Op → List Step
ready s t op = if drains_first s t op then Drained t 0 ∷ s else s

-- the event is that of the access after s, the writers are those of the bytes that it read, and the memory fits the steps with it
pub record AccessFits (threads : ℕ) (initial : List ℕ) (s : List Step) (t : ℕ) (op : Op) (e : Event) (ws : List EventId) (n : State) : Type 0 where
  pub event : e ≡ made_after initial s t op
  pub writers : ws ≡ padded (writers_after initial s e)
  pub fits : Fits threads initial (Made e (writers_after initial s e) ∷ s) n

-- the reply is the answer to the access after s, and the memory fits the steps with it
pub record Answered (threads : ℕ) (initial : List ℕ) (s : List Step) (t : ℕ) (op : Op) (given : Reply) (n : State) : Type 0 where
  pub reply : given ≡ reply_after initial s t op
  pub fits : Fits threads initial (step_of initial s (Access t op) ∷ s) n

-- whatever steps the memory fitted, the access follows them
abbrev pub Answers : ℕ → Op → State → Reply → State → Type 0
Answers t op m reply n = (threads : ℕ) (initial : List ℕ) (s : List Step) → Fits threads initial s m → Answered threads initial (ready s t op) t op reply n

-- whatever steps the memory fitted, a drain comes first exactly if these require it
abbrev pub DrainsFirst : ℕ → Op → State → Bool → Type 0
DrainsFirst t op m first = (threads : ℕ) (initial : List ℕ) (s : List Step) → Fits threads initial s m → first ≡ drains_first s t op

-- there is a number for another access of t
abbrev pub HasNumber : ℕ → State → Type 0
HasNumber t m = (b : Buffered) → slice_get m.buffers t ≡ Some b → b.accesses + 1 < 2 ^ 32

-- whatever steps the memory fitted
abbrev pub Fitting : ℕ → Op → State → Event → List EventId → State → Type 0
Fitting t op m e ws n = (threads : ℕ) (initial : List ℕ) (s : List Step) → Fits threads initial s m → AccessFits threads initial (ready s t op) t op e ws n

-- the access was made, with this event and these writers, or nothing has changed
abbrev pub MakesAccess : {E : Type 0} → ℕ → Op → State → State → Result MadeAccess E → Type 0
MakesAccess t op old new result = MatchResult result (λ made. Fitting t op old made.event made.writers new) (λ fault. new ≡ old)

-- NoThread exactly if there is no such thread, then OutOfBounds exactly if there is no such range
abbrev pub FaultIs : {D : Type 0} → Result D MemFault → Type 0 → Type 0 → Type 0
FaultIs (Ok d) none out = (none → ⊥) × (out → ⊥)
FaultIs (Err NoThread) none out = none
FaultIs (Err OutOfBounds) none out = (none → ⊥) × out
FaultIs (Err OutOfMemory) none out = (none → ⊥) × (out → ⊥)
