-- Where the opcodes of a function begin among the bytes of a module (Core 1.0, sections 5.4, 5.5.2 and 5.5.13).
use Rattle.std.specs.Prelude.{◌≡◌, ◌≢◌, ◌+◌, ◌<◌, ℕ, List, [], ◌∷◌, ◌++◌, length, Option}
use Rattle.wm_ast.specs.declared.instr.Instr.{Instr}
use Rattle.wm_ast.specs.declared.types.ValType.{ValType}
use Rattle.wm_decode.specs.Instructions.{Plain, block_type}
use Rattle.wm_decode.specs.Module.{header}
use Rattle.wm_decode.specs.Numbers.{U32}
use Rattle.wm_decode.specs.Parts.{Locals}

-- the bytes are one opcode with its immediates: an instruction without blocks, the begin of a block, an `else` or an `end`
pub data OpcodeText : List ℕ → Type 0 where
  plain : {text : List ℕ} {i : Instr} → Plain text i → OpcodeText text
  begin_block : (ty : Option ValType) → OpcodeText (0x02 ∷ block_type ty ∷ [])
  begin_loop : (ty : Option ValType) → OpcodeText (0x03 ∷ block_type ty ∷ [])
  begin_if : (ty : Option ValType) → OpcodeText (0x04 ∷ block_type ty ∷ [])
  else_between : OpcodeText (0x05 ∷ [])
  end_after : OpcodeText (0x0B ∷ [])

-- the bytes are n opcodes
pub data OpcodeTexts : ℕ → List ℕ → Type 0 where
  no_opcode : OpcodeTexts 0 []
  opcode : {n : ℕ} {text rest : List ℕ} → OpcodeText text → OpcodeTexts n rest → OpcodeTexts (1 + n) (text ++ rest)

-- the bytes are f items, each after its size
pub data SizedItems : ℕ → List ℕ → Type 0 where
  no_item : SizedItems 0 []
  item : {f : ℕ} {size rest : List ℕ} (content : List ℕ) → U32 size (length content) → SizedItems f rest → SizedItems (1 + f) (size ++ (content ++ rest))

-- the bytes are sections other than the code section
pub data OtherSections : List ℕ → Type 0 where
  no_section : OtherSections []
  section : {id : ℕ} {size rest : List ℕ} (content : List ℕ) → id ≢ 10 → U32 size (length content) → OtherSections rest → OtherSections (id ∷ (size ++ (content ++ rest)))

-- in the bytes of a module, the items of its code section come after these
pub record HasCode (bytes before items : List ℕ) : Type 0 where
  pub sections : List ℕ
  pub size : List ℕ
  pub count : List ℕ
  pub after : List ℕ
  pub functions : ℕ
  pub parts : bytes ≡ before ++ (items ++ after)
  pub before_is : before ≡ header ++ (sections ++ (10 ∷ (size ++ count)))
  pub others : OtherSections sections
  pub sized : U32 size (length (count ++ items))
  pub counted : U32 count functions

-- in the items of a code section, the opcodes of function f come after these bytes
pub record HasBody (items : List ℕ) (f : ℕ) (before opcodes : List ℕ) : Type 0 where
  pub bodies : List ℕ
  pub size : List ℕ
  pub count : List ℕ
  pub locals : List ℕ
  pub after : List ℕ
  pub declarations : ℕ
  pub types : List ValType
  pub parts : items ≡ before ++ (opcodes ++ after)
  pub before_is : before ≡ bodies ++ (size ++ (count ++ locals))
  pub earlier : SizedItems f bodies
  pub sized : U32 size (length (count ++ (locals ++ opcodes)))
  pub counted : U32 count declarations
  pub declared : Locals locals declarations types

-- opcode n of function f begins at this offset in the bytes of a module
pub record OpcodeBegins (bytes : List ℕ) (f n offset : ℕ) : Type 0 where
  pub front : List ℕ
  pub items : List ℕ
  pub section : HasCode bytes front items
  pub is_function : f < section.functions
  pub before : List ℕ
  pub opcodes : List ℕ
  pub body : HasBody items f before opcodes
  pub earlier : List ℕ
  pub text : List ℕ
  pub later : List ℕ
  pub parts : opcodes ≡ earlier ++ (text ++ later)
  pub skipped : OpcodeTexts n earlier
  pub is_opcode : OpcodeText text
  pub is_offset : offset ≡ length front + (length before + length earlier)
