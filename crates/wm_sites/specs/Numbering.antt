-- The number of a position in a function's code, in the order of the text.
use Rattle.std.specs.Prelude.{◌≡◌, ℕ, ◌+◌, ◌<◌, ◌≤◌, ◌⊎◌, List, [], ◌∷◌, ◌++◌, length, Option, Some, None, Vec, map, option_and_then, slice_get}
use Rattle.std.specs.declared.alloc.Global.{Global}
use Rattle.wm_ast.specs.declared.instr.Instr.{Instr}
use Rattle.wm_decode.specs.Bounds.{max_module_bytes}
use Rattle.wm_valid.specs.Locations.{Part, parts, Opcodes}
use Rattle.wm_sites.specs.declared.opcode_numbers.BlockPosition.{BlockPosition}
use Rattle.wm_sites.specs.declared.opcode_numbers.OpcodeNumbers.{OpcodeNumbers}

abbrev pub begin_of : ℕ → BlockPosition
begin_of block = record { block = block; at = 0 }

abbrev pub next_of : BlockPosition → BlockPosition
next_of p = record { block = p.block; at = p.at + 1 }

-- in these blocks and then the instructions from position p on to the end of its block, opcode k is at position q: the instruction there, or the
-- `else` or `end` after the block
pub data IsNumberedFrom (blocks : List (List Instr)) : BlockPosition → List Part → List Instr → BlockPosition → ℕ → Type 0 where
  here : {p : BlockPosition} {rest : List Instr} → IsNumberedFrom blocks p [] rest p 0
  behind : {p q : BlockPosition} {first : Instr} {rest : List Instr} {k : ℕ} → IsNumberedFrom blocks (next_of p) (parts first) rest q k → IsNumberedFrom blocks p [] (first ∷ rest) q (1 + k)
  in_part : {p q : BlockPosition} {part : Part} {ps : List Part} {rest : List Instr} {k : ℕ} (body : List Instr) → slice_get blocks part.block ≡ Some body
      → IsNumberedFrom blocks (begin_of part.block) [] body q k → IsNumberedFrom blocks p (part ∷ ps) rest q k
  past_part : {p q : BlockPosition} {part : Part} {ps : List Part} {rest : List Instr} {j k : ℕ} (body : List Instr) → slice_get blocks part.block ≡ Some body
      → Opcodes blocks [] body j → IsNumberedFrom blocks p ps rest q k → IsNumberedFrom blocks p (part ∷ ps) rest q (j + 1 + k)

-- opcode k of the function with these blocks is at this position
pub record IsNumbered (blocks : List (List Instr)) (q : BlockPosition) (k : ℕ) : Type 0 where
  pub body : List Instr
  pub is_body : slice_get blocks 0 ≡ Some body
  pub numbered : IsNumberedFrom blocks (begin_of 0) [] body q k

-- ---- a table of numbers

-- the number that a table has at a position
abbrev pub number_in : List (Vec (Option ℕ) Global) → BlockPosition → Option ℕ
number_in table q = option_and_then (λ (places : Vec (Option ℕ) Global). option_and_then (λ (n : Option ℕ). n) (slice_get places.items q.at)) (slice_get table q.block)

abbrev pub number_at : OpcodeNumbers → BlockPosition → Option ℕ
number_at numbers q = number_in numbers.numbers.items q

-- each number is that of an opcode at its position
abbrev pub HasNumbers : List (List Instr) → List (Vec (Option ℕ) Global) → Type 0
HasNumbers blocks table = (q : BlockPosition) (k : ℕ) → number_in table q ≡ Some k → IsNumbered blocks q k

-- there is a number at a position
abbrev pub IsNoted : List (Vec (Option ℕ) Global) → BlockPosition → Type 0
IsNoted table q = (j : ℕ) × (number_in table q ≡ Some j)

-- each number is below this count
abbrev pub AreBelow : ℕ → List (Vec (Option ℕ) Global) → Type 0
AreBelow count table = (q : BlockPosition) (k : ℕ) → number_in table q ≡ Some k → k < count

-- the numbers are those of opcodes at their positions and below the count, and each opcode of a number below 1,048,576 has one
pub record AreNumbers (blocks : List (List Instr)) (numbers : OpcodeNumbers) : Type 0 where
  pub right : HasNumbers blocks numbers.numbers.items
  pub all : (q : BlockPosition) (k : ℕ) → IsNumbered blocks q k → k < max_module_bytes → IsNoted numbers.numbers.items q
  pub below : AreBelow numbers.count numbers.numbers.items

-- no place of a block has a number
abbrev pub NoneIsNoted : List (Option ℕ) → Type 0
NoneIsNoted places = (i k : ℕ) → slice_get places i ≡ Some (Some k) → ⊥

-- no position has a number
abbrev pub HasNoNumbers : List (Vec (Option ℕ) Global) → Type 0
HasNoNumbers table = (q : BlockPosition) → number_in table q ≡ None

-- the table has a place for this position
abbrev pub HasPlace : List (Vec (Option ℕ) Global) → BlockPosition → Type 0
HasPlace table q = (places : Vec (Option ℕ) Global) × (slice_get table q.block ≡ Some places) × (q.at < length places.items)

-- it has one for each instruction of the blocks, and for the end of each block
abbrev pub HasPlaces : List (List Instr) → List (Vec (Option ℕ) Global) → Type 0
HasPlaces blocks table = (q : BlockPosition) (body : List Instr) → slice_get blocks q.block ≡ Some body → q.at ≤ length body → HasPlace table q

-- the table has its numbers, and at p this one, if it has a place there
pub record Notes (old new : List (Vec (Option ℕ) Global)) (p : BlockPosition) (number : ℕ) : Type 0 where
  pub from : (q : BlockPosition) (k : ℕ) → number_in new q ≡ Some k → (number_in old q ≡ Some k) ⊎ ((q ≡ p) × (k ≡ number))
  pub keeps : (q : BlockPosition) → IsNoted old q → IsNoted new q
  pub notes : HasPlace old p → IsNoted new p
  pub places : (q : BlockPosition) → HasPlace old q → HasPlace new q

-- ---- what is left to number

-- the starts of an instruction's blocks
abbrev pub begins_of : Instr → List BlockPosition
begins_of i = map (λ (part : Part). begin_of part.block) (parts i)

-- the positions after an opcode, up to the end of its block: in the blocks of an instruction first
abbrev pub followers : Option Instr → BlockPosition → List BlockPosition
followers None p = []
followers (Some i) p = begins_of i ++ next_of p ∷ []

abbrev pub behind_of : List Instr → BlockPosition → List BlockPosition
behind_of body p = followers (slice_get body p.at) p
