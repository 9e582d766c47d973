-- Why a document is refused.
use Rattle.std.specs.Prelude.{◌≡◌, ◌≢◌, ◌<◌, ◌≤◌, ◌⊎◌, ℕ, List, [], ◌∷◌, length, codes, Some, IsUtf8}
use Rattle.serde_json.specs.Data.{Data, Num, number, string, unsigned}
use Rattle.serde_json.specs.Read.{read}
use Rattle.wm_event.specs.Limits.{max_threads}
use Rattle.wm_logfile.specs.declared.fault.DocFault.{DocFault}
use Rattle.wm_logfile.specs.declared.fault.DocFault.TheVariants.{NotJson, BadShape, BadVersion, NumberRange, TooLarge, OutOfMemory, Misplaced}
use Rattle.wm_logfile.specs.Document.{document_cells, list}
use Rattle.wm_logfile.specs.FirstFault.{document_fault}
use Rattle.wm_logfile.specs.Limits.{max_document_bytes}

-- ---- for a value

-- a number other than the integers 1 and 2
pub record IsOtherVersion (n : Num) : Type 0 where
  pub not_first : n ≢ unsigned 1
  pub not_second : n ≢ unsigned 2

-- a list of four, which begins with the name of the format and such a number
pub record HasOtherVersion (d : Data) : Type 0 where
  pub version : Num
  pub threads : Data
  pub last : Data
  pub is : d ≡ list (string (codes "wasm-litmus-log") ∷ number version ∷ threads ∷ last ∷ [])
  pub other : IsOtherVersion version

-- a document of version 1 or 2 that lists more threads than a document may have
pub record HasTooManyThreads (d : Data) : Type 0 where
  pub version : ℕ
  pub known : (version ≡ 1) ⊎ (version ≡ 2)
  pub threads : List Data
  pub last : Data
  pub is : d ≡ list (document_cells version threads last)
  pub many : max_threads < length threads

-- the meaning of a fault of reading for the value; a fault with a path is the first fault
abbrev pub IsCause : DocFault → Data → Type 0
IsCause BadVersion d = HasOtherVersion d
IsCause TooLarge d = HasTooManyThreads d
IsCause (BadShape path) d = document_fault d ≡ Some (BadShape path)
IsCause (NumberRange path) d = document_fault d ≡ Some (NumberRange path)
IsCause OutOfMemory d = Unit {0}
IsCause NotJson d = ⊥
IsCause Misplaced d = ⊥

-- the fault has its cause in the value, and each of these causes has its fault
pub record IsFaultOf (d : Data) (fault : DocFault) : Type 0 where
  pub cause : IsCause fault d
  pub other_version : HasOtherVersion d → fault ≡ BadVersion
  pub many_threads : HasTooManyThreads d → fault ≡ TooLarge

-- ---- for bytes

-- the bytes are JSON text of the value
pub record IsTextOf (bytes : List ℕ) (d : Data) : Type 0 where
  pub utf8 : IsUtf8 bytes
  pub text : read bytes ≡ Some d

-- the bytes, within the limit, are not JSON text
pub record IsNoJson (bytes : List ℕ) : Type 0 where
  pub small : length bytes ≤ max_document_bytes
  pub none : (d : Data) → ¬ IsTextOf bytes d

-- the bytes, within the limit, are JSON text of a value with this property
pub record IsTextWith (P : Data → Type 0) (bytes : List ℕ) : Type 0 where
  pub small : length bytes ≤ max_document_bytes
  pub value : Data
  pub text : IsTextOf bytes value
  pub holds : P value

-- over the limit of bytes, or within it and over the limit of threads
abbrev pub IsTooLarge : List ℕ → Type 0
IsTooLarge bytes = (max_document_bytes < length bytes) ⊎ IsTextWith HasTooManyThreads bytes

-- the meaning of a fault of reading for the bytes
abbrev pub IsCauseIn : DocFault → List ℕ → Type 0
IsCauseIn NotJson bytes = IsNoJson bytes
IsCauseIn BadVersion bytes = IsTextWith HasOtherVersion bytes
IsCauseIn TooLarge bytes = IsTooLarge bytes
IsCauseIn (BadShape path) bytes = IsTextWith (IsCause (BadShape path)) bytes
IsCauseIn (NumberRange path) bytes = IsTextWith (IsCause (NumberRange path)) bytes
IsCauseIn OutOfMemory bytes = Unit {0}
IsCauseIn Misplaced bytes = ⊥
