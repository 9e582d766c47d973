-- Opcodes and their immediates (Core 1.0, section 5.4; threads proposal, "Atomic Memory Instructions").
use Rattle.std.specs.Prelude.{◌≡◌, ℕ, ◌<◌, ◌≤◌, List, [], ◌∷◌, ◌++◌, length, nat_lt, if◌then◌else◌, Option, Some, None}
use Rattle.wm_module_bytes.specs.declared.byte_reader.ByteReader.{ByteReader}
use Rattle.wm_module_bytes.specs.declared.instruction.Immediates.{Immediates}
use Rattle.wm_module_bytes.specs.declared.instruction.Immediates.TheVariants.{Fixed, Access, Vector, BlockType}
use Rattle.wm_module_bytes.specs.declared.instruction.Opcode.{Opcode}
use Rattle.wm_module_bytes.specs.Reading.{AreNumbers, IsNumber, Next, Reads, value_of}

-- the bytes are an opcode: one byte, or a prefix and a code
pub data IsOpcode : List ℕ → Opcode → Type 0 where
  plain : {b : ℕ} → b < 0xFC → IsOpcode (b ∷ []) (record { byte = b; code = 0 })
  prefixed : {b : ℕ} {text : List ℕ} → 0xFC ≤ b → b ≤ 0xFE → IsNumber text → length text ≤ 5
      → IsOpcode (b ∷ text) (record { byte = b; code = value_of text })

-- an opcode that comes next is the answer
abbrev pub ReadsOpcode : ByteReader → ByteReader → Option Opcode → Type 0
ReadsOpcode old new answer = (text : List ℕ) (opcode : Opcode) → Next old text → IsOpcode text opcode → Reads old new text answer opcode

-- the bytes are this number of integers, and then this number of bytes
pub record HasFixed (n k : ℕ) (text : List ℕ) : Type 0 where
  pub numbers : List ℕ
  pub bytes : List ℕ
  pub parts : text ≡ numbers ++ bytes
  pub are_numbers : AreNumbers n numbers
  pub count : length bytes ≡ k

-- the bytes are an alignment; the index of a memory follows one of 64 or more
pub data IsAlignment : List ℕ → Type 0 where
  alone : {text : List ℕ} → IsNumber text → length text ≤ 5 → value_of text < 64 → IsAlignment text
  with_memory : {text memory : List ℕ} → IsNumber text → length text ≤ 5 → 64 ≤ value_of text → IsNumber memory → length memory ≤ 10
      → IsAlignment (text ++ memory)

-- the bytes are an alignment, an offset, and then this number of bytes
pub record HasAccess (k : ℕ) (text : List ℕ) : Type 0 where
  pub alignment : List ℕ
  pub rest : List ℕ
  pub parts : text ≡ alignment ++ rest
  pub is_alignment : IsAlignment alignment
  pub offset : HasFixed 1 k rest

-- the bytes are a vector of integers, and then this number of integers
pub record HasVector (n : ℕ) (text : List ℕ) : Type 0 where
  pub count : List ℕ
  pub items : List ℕ
  pub others : List ℕ
  pub parts : text ≡ count ++ (items ++ others)
  pub is_count : IsNumber count
  pub short : length count ≤ 5
  pub are_items : AreNumbers (value_of count) items
  pub are_others : AreNumbers n others

-- the bytes are immediates of this form
abbrev pub HasImmediates : Immediates → List ℕ → Type 0
HasImmediates (Fixed n k) text = HasFixed n k text
HasImmediates (Access k) text = HasAccess k text
HasImmediates (Vector n) text = HasVector n text
HasImmediates BlockType text = IsNumber text × (length text ≤ 10)

-- opcodes from one byte to another, with the same form of immediates
pub record Range : Type 0 where
  pub from : ℕ
  pub to : ℕ
  pub immediates : Immediates

abbrev pub range : ℕ → ℕ → Immediates → Range
range from to immediates = record { from = from; to = to; immediates = immediates }

-- the form of the immediates in the first range that has the byte
abbrev pub in_ranges : ℕ → List Range → Option Immediates
in_ranges b [] = None
in_ranges b (r ∷ rs) = if nat_lt b r.from then in_ranges b rs else (if nat_lt r.to b then in_ranges b rs else Some r.immediates)

abbrev pub indices : ℕ → Immediates
indices n = Fixed n 0

-- the opcodes of one byte
abbrev pub plain_ranges : List Range
plain_ranges =
    range 0x02 0x04 BlockType ∷ range 0x06 0x06 BlockType ∷
    range 0x07 0x09 (indices 1) ∷ range 0x0C 0x0D (indices 1) ∷ range 0x10 0x10 (indices 1) ∷ range 0x12 0x12 (indices 1) ∷ range 0x18 0x18 (indices 1) ∷
    range 0x11 0x11 (indices 2) ∷ range 0x13 0x13 (indices 2) ∷
    range 0x0E 0x0E (Vector 1) ∷ range 0x1C 0x1C (Vector 0) ∷
    range 0x20 0x26 (indices 1) ∷ range 0x3F 0x42 (indices 1) ∷ range 0xD0 0xD0 (indices 1) ∷ range 0xD2 0xD2 (indices 1) ∷
    range 0x28 0x3E (Access 0) ∷ range 0x43 0x43 (Fixed 0 4) ∷ range 0x44 0x44 (Fixed 0 8) ∷
    range 0x00 0x01 (indices 0) ∷ range 0x05 0x05 (indices 0) ∷ range 0x0A 0x0B (indices 0) ∷ range 0x0F 0x0F (indices 0) ∷ range 0x19 0x1B (indices 0) ∷
    range 0x45 0xC4 (indices 0) ∷ range 0xD1 0xD1 (indices 0) ∷ []
