-- What the bytes of a document spell, within the limits.
use Rattle.std.specs.Prelude.{◌≡◌, ◌≢◌, ◌<◌, ◌≤◌, ℕ, List, length}
use Rattle.serde_json.specs.Data.{Data}
use Rattle.serde_json.specs.Written.{compact_text}
use Rattle.wm_event.specs.declared.log.ThreadLog.{ThreadLog}
use Rattle.wm_event.specs.declared.witness.Witness.{Witness}
use Rattle.wm_event.specs.Log.{IsLog}
use Rattle.wm_logfile.specs.Limits.{max_document_bytes}
use Rattle.wm_logfile.specs.declared.fault.DocFault.{DocFault}
use Rattle.wm_logfile.specs.declared.fault.DocFault.TheVariants.{NotJson, BadVersion, TooLarge, OutOfMemory}
use Rattle.wm_logfile.specs.Causes.{HasOtherVersion, IsCauseIn, IsNoJson, IsTextWith, IsTooLarge}
use Rattle.wm_logfile.specs.Document.{IsDocument, IsWithinLimits, Spells, document_2}

-- the bytes spell the log with the witness, all within the limits
pub record IsDocumentOf (bytes : List ℕ) (log : List ThreadLog) (witness : Witness) : Type 0 where
  pub small : length bytes ≤ max_document_bytes
  pub spelled : Spells bytes log witness
  pub is_log : IsLog log
  pub limits : IsWithinLimits log witness

-- within the limits the bytes spell no other log and no other witness
abbrev pub IsOnlyPair : List ℕ → List ThreadLog → Witness → Type 0
IsOnlyPair bytes log witness = (l : List ThreadLog) → (w : Witness) → IsLog l → IsWithinLimits l w → Spells bytes l w → (l ≡ log) × (w ≡ witness)

-- a value spells at most one log with a witness
abbrev pub SpellsOnePair : Type 0
SpellsOnePair = (d : Data) → (log : List ThreadLog) → (other : List ThreadLog) → (v : Witness) → (w : Witness) → IsLog log → IsLog other
    → IsDocument d log v → IsDocument d other w → (log ≡ other) × (v ≡ w)

-- within the limits a text reads back as this log with this witness
abbrev pub IsReadAgain : List ThreadLog → Witness → List ℕ → Type 0
IsReadAgain log witness text = length text ≤ max_document_bytes → IsWithinLimits log witness → IsDocumentOf text log witness

-- the text of the log with the witness is over the limit, unless an allocation fails
abbrev pub IsWrittenTooLarge : List ThreadLog → Witness → DocFault → Type 0
IsWrittenTooLarge log witness fault = fault ≢ OutOfMemory → max_document_bytes < length (compact_text (document_2 log witness))

-- why a document is refused with the fault
pub record IsNoDocument (bytes : List ℕ) (fault : DocFault) : Type 0 where
  pub no_document : (log : List ThreadLog) (witness : Witness) → ¬ IsDocumentOf bytes log witness
  pub cause : IsCauseIn fault bytes
  pub no_json : IsNoJson bytes → fault ≡ NotJson
  pub other_version : IsTextWith HasOtherVersion bytes → fault ≡ BadVersion
  pub too_large : IsTooLarge bytes → fault ≡ TooLarge
  pub no_want : fault ≢ OutOfMemory
