-- ECMA-262, 29.1 "Memory Model Fundamentals": Shared Data Block events and their ranges. The numbers of sections are those
-- of the edition of 2025; docs/MODEL.md lists what differs in other editions.
use Rattle.std.specs.Prelude.{◌≡◌, ℕ, ◌+◌, ◌<◌, ◌≤◌, ◌⊎◌, ◌↔◌, List, Bool}

-- 29.1 [[Order]]; only writes are Init
pub data Order : Type 0 where
  Init : Order
  Unordered : Order
  SeqCst : Order

-- 29.1 the three kinds of Shared Data Block events
pub data EventType : Type 0 where
  ReadSharedMemory : EventType
  WriteSharedMemory : EventType
  ReadModifyWriteSharedMemory : EventType

-- 29.1 the fields of a Shared Data Block event. A read uses no [[Payload]], and only a read-modify-write uses a [[ModifyOp]]
pub record SharedEvent : Type 0 where
  pub event_type : EventType
  pub order : Order
  pub no_tear : Bool
  pub block : ℕ
  pub byte_index : ℕ
  pub element_size : ℕ
  pub payload : List ℕ
  pub modify_op : List ℕ → List ℕ → List ℕ

-- a ReadSharedMemory or ReadModifyWriteSharedMemory event
abbrev pub Reads : SharedEvent → Type 0
Reads e = (e.event_type ≡ ReadSharedMemory) ⊎ (e.event_type ≡ ReadModifyWriteSharedMemory)

-- a WriteSharedMemory or ReadModifyWriteSharedMemory event
abbrev pub Writes : SharedEvent → Type 0
Writes e = (e.event_type ≡ WriteSharedMemory) ⊎ (e.event_type ≡ ReadModifyWriteSharedMemory)

-- 29.1 the range: [[ElementSize]] bytes from [[ByteIndex]] on
abbrev pub InRange : SharedEvent → ℕ → Type 0
InRange e a = (e.byte_index ≤ a) × (a < e.byte_index + e.element_size)

-- 29.1 equal ranges: the same bytes of the same block
abbrev pub HaveEqualRanges : SharedEvent → SharedEvent → Type 0
HaveEqualRanges e d = (e.block ≡ d.block) × ((a : ℕ) → InRange e a ↔ InRange d a)

-- bytes of the same block in common
abbrev pub HaveCommonBytes : SharedEvent → SharedEvent → Type 0
HaveCommonBytes e d = (e.block ≡ d.block) × ((a : ℕ) × InRange e a × InRange d a)

-- 29.1 overlapping ranges, read by the letter: bytes in common, but not equal
abbrev pub HaveOverlappingRanges : SharedEvent → SharedEvent → Type 0
HaveOverlappingRanges e d = HaveCommonBytes e d × (HaveEqualRanges e d → ⊥)

-- How "overlapping" is read: HaveOverlappingRanges, by the letter, or HaveCommonBytes, which includes equal ranges. It makes
-- a difference only for the Init events before events of one byte (29.6.6).
abbrev pub Reading : Type 1
Reading = SharedEvent → SharedEvent → Type 0
