-- The candidate execution of a log with an Init event for each byte, as ECMA-262's CreateSharedByteDataBlock makes it.
use Rattle.std.specs.Prelude.{◌↔◌, ℕ, suc, ◌<◌, List, [], ◌∷◌, Option, true, length, map, slice_get}
use Rattle.std.specs.Option.{option_map, option_map_or}
use Rattle.wm_event.specs.declared.event.EventKey.{EventKey}
use Rattle.wm_event.specs.declared.event.EventId.{EventId}
use Rattle.wm_event.specs.declared.event.EventId.TheVariants as id
use Rattle.wm_event.specs.declared.log.ThreadLog.{ThreadLog}
use Rattle.wm_event.specs.Event.{key_of}
use Rattle.wm_event.specs.Log.{event_in}
use Rattle.wm_event.specs.LoggedRun.{LoggedRun, execution}
use Rattle.wm_event.specs.Rules.{IsValid}
use Rattle.wm_event.specs.Shape.{IsWellShaped}
use Rattle.wm_event.specs.Witness.{writers_in}
use Rattle.wm_standard.specs.SharedEvents.{HaveCommonBytes, HaveOverlappingRanges, SharedEvent}
use Rattle.wm_standard.specs.SharedEvents.Order.{Init}
use Rattle.wm_standard.specs.SharedEvents.EventType.{WriteSharedMemory}
use Rattle.wm_standard.specs.CandidateExecution.{AgentEvents, CandidateExecution}
use Rattle.wm_standard.specs.ValidExecution.{IsValidExecution}
use Rattle.wm_standard.specs.Transcribed.{AreOperations, Operation, shared_of, value_read}
use Rattle.wm_standard.specs.Agreement.{IsValidInSomeOrder, ValuesEnd}

-- the Init event of the byte at an address, or an event of the log
pub data ByteEvent : Type 0 where
  InitAt : ℕ → ByteEvent
  At : EventKey → ByteEvent

abbrev pub initial_byte : ℕ → ℕ → SharedEvent
initial_byte address byte = record {
  event_type = WriteSharedMemory;
  order = Init;
  no_tear = true;
  block = 0;
  byte_index = address;
  element_size = 1;
  payload = byte ∷ [];
  modify_op = λ bytes payload. payload;
}

-- the Init events of bytes from an address on, in their agent's order
abbrev pub inits_from : ℕ → List ℕ → List ByteEvent
inits_from address [] = []
inits_from address (byte ∷ bytes) = InitAt address ∷ inits_from (suc address) bytes

-- an agent that only makes the memory
abbrev pub byte_maker : List ℕ → AgentEvents ByteEvent
byte_maker initial = record { event_list = inits_from 0 initial; agent_synchronizes_with = [] }

abbrev pub byte_agent_of : ThreadLog → AgentEvents ByteEvent
byte_agent_of thread = record { event_list = map (λ e. At (key_of e)) thread.events; agent_synchronizes_with = [] }

abbrev pub byte_shared : LoggedRun → (EventKey → Operation) → ByteEvent → Option SharedEvent
byte_shared run ops (InitAt address) = option_map (initial_byte address) (slice_get run.initial address)
byte_shared run ops (At key) = option_map (shared_of (ops key)) (event_in run.log key)

-- the writer of the byte at an address
abbrev pub named_at : ℕ → EventId → ByteEvent
named_at address id.Init = InitAt address
named_at address (id.At key) = At key

-- the writers of the bytes from an address on
abbrev pub named_from : ℕ → List EventId → List ByteEvent
named_from address [] = []
named_from address (w ∷ ws) = named_at address w ∷ named_from (suc address) ws

abbrev pub byte_writers : LoggedRun → ByteEvent → List ByteEvent
byte_writers run (InitAt address) = []
byte_writers run (At key) = option_map_or (λ e. named_from e.address (writers_in run.witness key)) (event_in run.log key) []

abbrev pub byte_value : LoggedRun → ByteEvent → List ℕ
byte_value run (InitAt address) = []
byte_value run (At key) = value_read run (id.At key)

abbrev pub byte_candidate_of : LoggedRun → (EventKey → Operation) → CandidateExecution ByteEvent
byte_candidate_of run ops = record {
  events_records = byte_maker run.initial ∷ map byte_agent_of run.log;
  shared = byte_shared run ops;
  chosen_value = byte_value run;
  reads_bytes_from = byte_writers run;
  host_synchronizes_with = λ e d. ⊥;
}

-- the Init events by their addresses, then the order of the witness
abbrev pub byte_order_of : LoggedRun → ByteEvent → ByteEvent → Type 0
byte_order_of run (InitAt a) (InitAt b) = a < b
byte_order_of run (InitAt a) (At b) = Unit {0}
byte_order_of run (At a) (InitAt b) = ⊥
byte_order_of run (At a) (At b) = (execution run).place_of a < (execution run).place_of b

-- the agreement with an Init event for each byte, if "overlapping" includes equal ranges
abbrev pub AgreesByBytes : Type 0
AgreesByBytes = (run : LoggedRun) (ops : EventKey → Operation) → IsWellShaped run → AreOperations run ops → 8 < length run.initial
    → (IsValid (execution run) × ValuesEnd (execution run)) ↔ IsValidExecution HaveCommonBytes (byte_candidate_of run ops) (byte_order_of run)

-- by the letter, "overlapping" excludes equal ranges: what V1 to V5 allow is allowed
abbrev pub IsAllowedByBytes : Type 0
IsAllowedByBytes = (run : LoggedRun) (ops : EventKey → Operation) → IsWellShaped run → AreOperations run ops → 8 < length run.initial
    → IsValid (execution run) → ValuesEnd (execution run) → IsValidExecution HaveOverlappingRanges (byte_candidate_of run ops) (byte_order_of run)

-- no law: by the letter more is allowed than V1 to V5 allow
abbrev pub AgreesByTheLetter : Type 0
AgreesByTheLetter = (run : LoggedRun) (ops : EventKey → Operation) → IsWellShaped run → AreOperations run ops → 8 < length run.initial
    → (IsValid (execution run) × ValuesEnd (execution run)) ↔ IsValidExecution HaveOverlappingRanges (byte_candidate_of run ops) (byte_order_of run)

-- two updates of one byte that both read Init: by the letter a valid execution, and by V1 to V5 in no order
pub record LetterAllowsMore : Type 0 where
  pub run : LoggedRun
  pub ops : EventKey → Operation
  pub shaped : IsWellShaped run
  pub fitting : AreOperations run ops
  pub large : 8 < length run.initial
  pub standard : IsValidExecution HaveOverlappingRanges (byte_candidate_of run ops) (byte_order_of run)
  pub not_valid : IsValidInSomeOrder run → ⊥
