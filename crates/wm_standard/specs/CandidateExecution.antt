-- ECMA-262, 29.2 to 29.4: agent events records, chosen value records and candidate executions. Events have names of a type
-- E, since two events may have equal fields.
use Rattle.std.specs.Prelude.{◌≡◌, ℕ, List, Option, Some, slice_get}
use Rattle.wm_standard.specs.SharedEvents.{SharedEvent}

-- 29.2 an Agent Events Record: [[EventList]] and [[AgentSynchronizesWith]]
pub record AgentEvents (E : Type 0) : Type 0 where
  pub event_list : List E
  pub agent_synchronizes_with : List (E × E)

-- 29.4 [[EventsRecords]], [[ChosenValues]] (29.3), [[ReadsBytesFrom]] and [[HostSynchronizesWith]]; the other relations follow
-- from these. `shared` has the fields of the Shared Data Block events, and None for Synchronize and host-specific events.
pub record CandidateExecution (E : Type 0) : Type 1 where
  pub events_records : List (AgentEvents E)
  pub shared : E → Option SharedEvent
  pub chosen_value : E → List ℕ
  pub reads_bytes_from : E → List E
  pub host_synchronizes_with : E → E → Type 0

-- 29.5.1 EventSet(execution) contains e
abbrev pub IsEvent : {E : Type 0} → CandidateExecution E → E → Type 0
IsEvent {E} x e = (n : ℕ) × (r : AgentEvents E) × (i : ℕ) × (slice_get x.events_records n ≡ Some r) × (slice_get r.event_list i ≡ Some e)

-- 29.5.2 SharedDataBlockEventSet(execution) contains e, whose fields are f
pub record IsShared {E : Type 0} (x : CandidateExecution E) (e : E) (f : SharedEvent) : Type 0 where
  pub event : IsEvent x e
  pub fields : x.shared e ≡ Some f
