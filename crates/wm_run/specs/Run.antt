-- What a run recorded.
use Rattle.std.specs.Prelude.{◌≡◌, ℕ, ◌≤◌, List, length, map}
use Rattle.wm_event.specs.declared.log.ThreadLog.{ThreadLog}
use Rattle.wm_event.specs.declared.witness.Witness.{Witness}
use Rattle.wm_event.specs.LoggedRun.{LoggedRun}
use Rattle.wm_logfile.specs.Document.{IsWithinLimits}
use Rattle.wm_logfile.specs.DocumentBytes.{IsDocumentOf}
use Rattle.wm_logfile.specs.Limits.{max_document_bytes}
use Rattle.wm_recorder.specs.Recorder.{Recording}

-- a log with its witness
pub record Record : Type 0 where
  pub log : List ThreadLog
  pub witness : Witness

-- the same over these bytes of Init
abbrev pub over : List ℕ → Record → LoggedRun
over initial run = record { log = run.log; witness = run.witness; initial = initial }

-- the events of the logs are the recorded ones
abbrev pub AreLogsOver : Recording → List ThreadLog → Type 0
AreLogsOver r logs = map (λ (log : ThreadLog). log.events) logs ≡ r.events

-- these logs, with the witness that was recorded
pub record IsRunOver (r : Recording) (logs : List ThreadLog) (run : Record) : Type 0 where
  pub log : run.log ≡ logs
  pub writers : run.witness.writers ≡ r.writers
  pub order : run.witness.order ≡ r.order

-- within the limits, these bytes are a document of the run
abbrev pub IsReadAs : List ℕ → Record → Type 0
IsReadAs bytes run = length bytes ≤ max_document_bytes → IsWithinLimits run.log run.witness → IsDocumentOf bytes run.log run.witness
