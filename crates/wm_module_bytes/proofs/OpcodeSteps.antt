-- An opcode is read: its byte, and the code after a prefix.
use Rattle.std.proofs.Common.{◌≡◌, ℕ, ◌<◌, ◌≤◌, List, [], ◌∷◌, length, Option, Some, None, sym, ap, ◌∙◌, slice_get, inl, inr, arith}
use Rattle.std.specs.Prelude.{◌⊎◌}
use Rattle.std.proofs.lemmas.Option.{none-some, same_Some}
use Rattle.wm_module_bytes.specs.declared.byte_reader.ByteReader.{ByteReader}
use Rattle.wm_module_bytes.specs.declared.instruction.Opcode.{Opcode}
use Rattle.wm_module_bytes.specs.Instructions.{IsOpcode, plain, prefixed}
use Rattle.wm_module_bytes.specs.Reading.{Moves, Next, Reads, ReadsNumber, value_of}
use Rattle.wm_module_bytes.proofs.NumberSteps.{next_after, next_byte}
use Rattle.wm_module_bytes.proofs.Steps.{moves_twice}

pub opcode_there : {start : ByteReader} {text : List ℕ} {opcode : Opcode} → IsOpcode text opcode → Next start text → slice_get start.bytes.now start.at ≡ None → ⊥
opcode_there {start} (plain {b = b} below) next none = none-some b (sym none ∙ next_byte start b [] next)
opcode_there {start} (prefixed {b = b} {text = text} above within number short) next none = none-some b (sym none ∙ next_byte start b text next)

-- a byte that is no prefix
pub plain_read : {start second : ByteReader} {text : List ℕ} {opcode : Opcode} (b : ℕ) → IsOpcode text opcode → Next start text → slice_get start.bytes.now start.at ≡ Some b → Moves start second 1
    → (b < 0xFC) ⊎ (0xFE < b) → Reads start second text (Some (record { byte = b; code = 0 })) opcode
plain_read {start} b (plain {b = x} below) next is moves outside =
    let same : b ≡ x = same_Some b x (sym is ∙ next_byte start x [] next) in
    record { gives = ap (λ (y : ℕ). Some (record { byte = y; code = 0 })) same; moves = moves }
plain_read {start} b (prefixed {b = x} {text = text} above within number short) next is moves (inl below) =
    let same : b ≡ x = same_Some b x (sym is ∙ next_byte start x text next) in absurd (omega (arith, same))
plain_read {start} b (prefixed {b = x} {text = text} above within number short) next is moves (inr past) =
    let same : b ≡ x = same_Some b x (sym is ∙ next_byte start x text next) in absurd (omega (arith, same))

-- a prefix and a code
pub code_there : {start second third : ByteReader} {text : List ℕ} {opcode : Opcode} (b : ℕ) (answer : Option ℕ) → IsOpcode text opcode → Next start text → slice_get start.bytes.now start.at ≡ Some b
    → Moves start second 1 → 0xFC ≤ b → ReadsNumber second third answer → answer ≡ None → ⊥
code_there {start} b answer (plain {b = x} below) next is moves high reads none =
    let same : b ≡ x = same_Some b x (sym is ∙ next_byte start x [] next) in omega (arith, same)
code_there {start} {second} b answer (prefixed {b = x} {text = text} above within number short) next is moves high reads none =
    none-some (value_of text) (sym none ∙ (reads text (next_after start second x text next moves) number short).gives)

pub prefixed_read : {start second third : ByteReader} {text : List ℕ} {opcode : Opcode} (b code : ℕ) (answer : Option ℕ) → IsOpcode text opcode → Next start text
    → slice_get start.bytes.now start.at ≡ Some b → Moves start second 1 → 0xFC ≤ b → ReadsNumber second third answer → answer ≡ Some code
    → Reads start third text (Some (record { byte = b; code = code })) opcode
prefixed_read {start} b code answer (plain {b = x} below) next is moves high reads given =
    let same : b ≡ x = same_Some b x (sym is ∙ next_byte start x [] next) in absurd (omega (arith, same))
prefixed_read {start} {second} {third} b code answer (prefixed {b = x} {text = text} above within number short) next is moves high reads given =
    let same : b ≡ x = same_Some b x (sym is ∙ next_byte start x text next) in
    let read = reads text (next_after start second x text next moves) number short in
    let same_code : code ≡ value_of text = same_Some code (value_of text) (sym given ∙ read.gives) in
    record {
      gives = ap (λ (y : ℕ). Some (record { byte = y; code = code })) same ∙ ap (λ (y : ℕ). Some (record { byte = x; code = y })) same_code;
      moves = moves_twice start second third 1 (length text) (length (x ∷ text)) moves read.moves (omega arith);
    }
