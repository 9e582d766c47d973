-- Where the bodies of functions begin among the bytes of a module, and opcodes in a body (Core 1.0, sections 5.4.9 and 5.5.13).
use Rattle.std.specs.Prelude.{◌≡◌, ◌+◌, ◌<◌, ℕ, List, ◌++◌, drop, length, slice_get, Option, Some}
use Rattle.wm_ast.specs.declared.types.ValType.{ValType}
use Rattle.wm_decode.specs.Numbers.{U32}
use Rattle.wm_decode.specs.Parts.{Locals}
use Rattle.wm_module_bytes.specs.declared.byte_reader.ByteReader.{ByteReader}
use Rattle.wm_module_bytes.specs.declared.instruction.Immediates.{Immediates}
use Rattle.wm_module_bytes.specs.declared.instruction.Immediates.TheVariants.{Fixed, Access, Vector, BlockType}
use Rattle.wm_module_bytes.specs.Reading.{Next, Reads}
use Rattle.wm_sites.specs.Offsets.{HasCode, OpcodeText, OpcodeTexts, SizedItems}

-- where the contents of the code section begin
abbrev pub code_start : {bytes before items : List ℕ} → HasCode bytes before items → ℕ
code_start code = 8 + (length code.sections + (1 + length code.size))

-- the contents of the code section begin here, if the bytes have one
abbrev pub StartsCode : List ℕ → Option ℕ → Type 0
StartsCode bytes answer = (before items : List ℕ) (code : HasCode bytes before items) → answer ≡ Some (code_start code)

-- the body of function f begins at this offset, after its size
pub record BodyBegins (bytes : List ℕ) (f offset : ℕ) : Type 0 where
  pub front : List ℕ
  pub items : List ℕ
  pub section : HasCode bytes front items
  pub is_function : f < section.functions
  pub bodies : List ℕ
  pub size : List ℕ
  pub content : ℕ
  pub rest : List ℕ
  pub parts : items ≡ bodies ++ (size ++ rest)
  pub earlier : SizedItems f bodies
  pub sized : U32 size content
  pub is_offset : offset ≡ length front + (length bodies + length size)

-- the bodies begin at these offsets
abbrev pub AreBodies : List ℕ → List ℕ → Type 0
AreBodies bytes offsets = (f offset : ℕ) → BodyBegins bytes f offset → slice_get offsets f ≡ Some offset

-- the bytes are the count of a body's declarations of locals, and these
pub record LocalsText (text : List ℕ) : Type 0 where
  pub count : List ℕ
  pub locals : List ℕ
  pub declarations : ℕ
  pub types : List ValType
  pub parts : text ≡ count ++ locals
  pub counted : U32 count declarations
  pub declared : Locals locals declarations types

-- in a body that begins at an offset, opcode n begins at another
pub record OpcodeFollows (bytes : List ℕ) (body n offset : ℕ) : Type 0 where
  pub locals : List ℕ
  pub earlier : List ℕ
  pub rest : List ℕ
  pub parts : drop body bytes ≡ locals ++ (earlier ++ rest)
  pub declared : LocalsText locals
  pub skipped : OpcodeTexts n earlier
  pub is_offset : offset ≡ body + (length locals + length earlier)

-- the opcodes below the count begin at these offsets, in a body that begins at another
abbrev pub AreOpcodes : List ℕ → ℕ → ℕ → List ℕ → Type 0
AreOpcodes bytes body count offsets = (n offset : ℕ) → OpcodeFollows bytes body n offset → n < count → slice_get offsets n ≡ Some offset

-- the locals that come next are skipped
abbrev pub SkipsLocals : ByteReader → ByteReader → Option (Unit {0}) → Type 0
SkipsLocals old new answer = (text : List ℕ) → Next old text → LocalsText text → Reads old new text answer (tt {0})

-- the opcode that comes next is skipped, with its immediates
abbrev pub SkipsOpcode : ByteReader → ByteReader → Option (Unit {0}) → Type 0
SkipsOpcode old new answer = (text : List ℕ) → Next old text → OpcodeText text → Reads old new text answer (tt {0})

-- the form of the immediates if no access names a memory: an access has an alignment and an offset
abbrev pub in_one_memory : Immediates → Immediates
in_one_memory (Fixed n k) = Fixed n k
in_one_memory (Access k) = Fixed 2 k
in_one_memory (Vector n) = Vector n
in_one_memory BlockType = BlockType
