-- Which stores are published, in which order, and what a thread sees. Lists of events and of steps have the newest first.
use Rattle.std.specs.Prelude.{ℕ, zero, suc, ◌+◌, ◌*◌, ◌^◌, true, ◌==◌, List, [], ◌∷◌, ◌++◌, length, if◌then◌else◌}
use Rattle.wm_event.specs.declared.event.Event.{Event}
use Rattle.wm_event.specs.declared.event.EventId.{EventId}
use Rattle.wm_memory.specs.declared.cells.Cell.{Cell}
use Rattle.wm_event.specs.declared.op.OpFields.{OpFields as Op}
use Rattle.wm_memory.specs.declared.history_step.HistoryStep.{HistoryStep}
use Rattle.wm_memory.specs.declared.history_step.HistoryStep.TheVariants.{Access, Drain, DrainAt}
use Rattle.std.specs.Prelude.{◌≡◌, ◌⊎◌}
use Rattle.wm_memory.specs.Cells.{covers, cell_over, initial_cell}
use Rattle.wm_event.specs.Event.{reads, writes, is_atomic}
use Rattle.wm_access.specs.AccessWidth.{bytes_of}
use Rattle.wm_event.specs.Op.{event_made}

-- an item of a history with what it did: the event that an access made and the writers of the bytes that it read
pub data Step : Type 0 where
  Made : Event → List EventId → Step
  Drained : ℕ → ℕ → Step

abbrev pub In : Event → List Event → Type 0
In v [] = ⊥
In v (x ∷ xs) = (x ≡ v) ⊎ In v xs

-- the item that has k older ones after it, the other items, and those older ones
abbrev pub pick : ℕ → List Event → List Event
pick k [] = []
pick k (x ∷ xs) = if length xs == k then x ∷ [] else pick k xs

abbrev pub rest : ℕ → List Event → List Event
rest k [] = []
rest k (x ∷ xs) = if length xs == k then xs else x ∷ rest k xs

abbrev pub behind : ℕ → List Event → List Event
behind k [] = []
behind k (x ∷ xs) = if length xs == k then xs else behind k xs

-- the store that has k older ones after it overlaps none of them
abbrev pub Passes : ℕ → List Event → Type 0
Passes k w = (x y : Event) (a : ℕ) → In x (pick k w) → In y (behind k w) → covers x a ≡ true → covers y a ≡ true → ⊥

-- the write of an event, if it has one
abbrev pub own_write : Event → List Event
own_write e = if writes e then e ∷ [] else []

-- the stores of t that are unpublished after these steps: a plain store is, until a drain takes it or an atomic access
-- of t publishes them all
abbrev pub waiting : List Step → ℕ → List Event
waiting [] t = []
waiting (Drained u k ∷ s) t = if u == t then rest k (waiting s t) else waiting s t
waiting (Made e writers ∷ s) t =
    if e.thread == t then (if is_atomic e then [] else own_write e ++ waiting s t) else waiting s t

-- the writes that all threads see, in the order in which they were published
abbrev pub published : List Step → List Event
published [] = []
published (Drained t k ∷ s) = pick k (waiting s t) ++ published s
published (Made e writers ∷ s) = if is_atomic e then own_write e ++ (waiting s e.thread ++ published s) else published s

-- the writes that t sees: its own unpublished ones hide the published ones
abbrev pub visible : List Step → ℕ → List Event
visible s t = waiting s t ++ published s

-- the byte at an address after these writes, the newest first, and its writer
abbrev pub seen : List ℕ → List Event → ℕ → Cell
seen initial es a = cell_over (initial_cell initial a) es a

-- the bytes from an address on, as one value, the lowest first, and their writers
abbrev pub value_at : (ℕ → Cell) → ℕ → ℕ → ℕ
value_at at a zero = 0
value_at at a (suc n) = value_at at a n + (at (a + n)).byte * 2 ^ (8 * n)

abbrev pub writers_at : (ℕ → Cell) → ℕ → ℕ → List EventId
writers_at at a zero = []
writers_at at a (suc n) = writers_at at a n ++ (at (a + n)).writer ∷ []

abbrev pub events : List Step → List Event
events [] = []
events (Made e writers ∷ s) = e ∷ events s
events (Drained t k ∷ s) = events s

-- how many accesses t has made
abbrev pub accesses : List Step → ℕ → ℕ
accesses [] t = 0
accesses (Drained u k ∷ s) t = accesses s t
accesses (Made e writers ∷ s) t = if e.thread == t then accesses s t + 1 else accesses s t

-- what an access does after these steps
abbrev pub made_after : List ℕ → List Step → ℕ → Op → Event
made_after initial s t op = event_made (record { thread = t; number = accesses s t }) op (value_at (seen initial (visible s t)) op.address (bytes_of op.width))

abbrev pub writers_after : List ℕ → List Step → Event → List EventId
writers_after initial s e = if reads e then writers_at (seen initial (visible s e.thread)) e.address (bytes_of e.width) else []

abbrev pub step_of : List ℕ → List Step → HistoryStep → Step
step_of initial s (Access t op) = let e = made_after initial s t op in Made e (writers_after initial s e)
step_of initial s (Drain t) = Drained t 0
step_of initial s (DrainAt t k) = Drained t k

-- what the items of a history did, the newest first
abbrev pub steps : List ℕ → List HistoryStep → List Step
steps initial [] = []
steps initial (item ∷ older) = let s = steps initial older in step_of initial s item ∷ s
