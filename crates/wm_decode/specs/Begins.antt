-- What a fault says of all bytes that begin as these do.
use Rattle.std.specs.Prelude.{◌≡◌, ◌≤◌, ◌<◌, ℕ, List, ◌++◌, length}
use Rattle.std.specs.Str.{IsUtf8}
use Rattle.wm_ast.specs.declared.module.Module.{Module}
use Rattle.wm_decode.specs.declared.fault.FaultKind.{FaultKind}
use Rattle.wm_decode.specs.declared.fault.FaultKind.TheVariants as kind
use Rattle.wm_decode.specs.declared.fault.DecodeFault.{DecodeFault}
use Rattle.wm_decode.specs.declared.fault.DecodeFault.TheVariants as decode
use Rattle.wm_decode.specs.Vectors.{ByteVector, Name}
use Rattle.wm_decode.specs.Module.{spells}

-- No module begins with these bytes.
abbrev pub NoModuleBegins : List ℕ → Type 0
NoModuleBegins front = (rest : List ℕ) (m : Module) → spells (front ++ rest) m → ⊥

-- The bytes of an item with a fault of this kind: a name with its size, or a few bytes. A number has at most ten; a
-- count, a size or an index five; an opcode one, or six after the prefix FE.
abbrev pub IsItem : FaultKind → List ℕ → Type 0
IsItem kind.Magic item = length item ≤ 4
IsItem kind.Version item = length item ≤ 4
IsItem kind.SectionOrder item = length item ≤ 1
IsItem kind.CountMismatch item = length item ≤ 5
IsItem (kind.UnknownOpcode byte) item = length item ≤ 6
IsItem (kind.Unsupported feature) item = length item ≤ 6
IsItem kind.BadName item = (name : List ℕ) × ByteVector item name × (IsUtf8 name → ⊥)
IsItem kind.DuplicateExport item = (name : List ℕ) × Name item name
IsItem k item = length item ≤ 10

-- No module begins with the bytes up to the end of the item of this kind at the offset.
pub record RulesOut (k : FaultKind) (offset : ℕ) (bytes : List ℕ) : Type 0 where
  pub before : List ℕ
  pub item : List ℕ
  pub after : List ℕ
  pub parts : bytes ≡ before ++ (item ++ after)
  pub placed : length before ≡ offset
  pub is_item : IsItem k item
  pub none : NoModuleBegins (before ++ item)

-- Neither greater limits nor more bytes after these would mend a fault at this offset in this number of bytes. Counts
-- that differ at the end of the bytes may agree if more sections follow.
abbrev pub IsFinal : FaultKind → ℕ → ℕ → Type 0
IsFinal (kind.Limit limit) offset bytes = ⊥
IsFinal kind.Truncated offset bytes = ⊥
IsFinal kind.CountMismatch offset bytes = offset < bytes
IsFinal k offset bytes = Unit {0}

-- A final fault rules out all modules that begin as these bytes do, up to the end of the faulty item.
abbrev pub IsRefuted : List ℕ → DecodeFault → Type 0
IsRefuted bytes decode.OutOfMemory = Unit {0}
IsRefuted bytes (decode.At k offset) = IsFinal k offset (length bytes) → RulesOut k offset bytes
