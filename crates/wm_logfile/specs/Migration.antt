-- What it means for a document to be migrated: what its bytes spell is written in version 2.
use Rattle.std.specs.Prelude.{◌≡◌, ◌≢◌, ℕ, List}
use Rattle.serde_json.specs.Written.{compact_text}
use Rattle.wm_event.specs.declared.log.ThreadLog.{ThreadLog}
use Rattle.wm_event.specs.declared.witness.Witness.{Witness}
use Rattle.wm_event.specs.Fitting.{FitsLog}
use Rattle.wm_logfile.specs.declared.fault.DocFault.{DocFault}
use Rattle.wm_logfile.specs.declared.fault.DocFault.TheVariants.{OutOfMemory, Misplaced}
use Rattle.wm_logfile.specs.Document.{document_2}
use Rattle.wm_logfile.specs.DocumentBytes.{IsDocumentOf}

-- the text is in version 2, for the pair; it exists if the witness fits the log
pub record IsRewritten (log : List ThreadLog) (witness : Witness) (text : List ℕ) : Type 0 where
  pub fits : FitsLog log witness
  pub written : text ≡ compact_text (document_2 log witness)

-- except for an allocation failure, the fault is that the witness doesn't fit the log
pub record IsRewriteFault (log : List ThreadLog) (witness : Witness) (fault : DocFault) : Type 0 where
  pub misplaced : fault ≢ OutOfMemory → fault ≡ Misplaced
  pub misfits : fault ≡ Misplaced → ¬ FitsLog log witness

-- the text is in version 2, for what the bytes spell
pub record IsMigrated (bytes text : List ℕ) : Type 0 where
  pub log : List ThreadLog
  pub witness : Witness
  pub document : IsDocumentOf bytes log witness
  pub fits : FitsLog log witness
  pub written : text ≡ compact_text (document_2 log witness)

-- the bytes spell a log with a witness that doesn't fit it
pub record IsMisplaced (bytes : List ℕ) : Type 0 where
  pub log : List ThreadLog
  pub witness : Witness
  pub document : IsDocumentOf bytes log witness
  pub misfits : ¬ FitsLog log witness
