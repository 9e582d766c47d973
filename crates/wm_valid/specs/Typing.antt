-- Which instructions, blocks and functions are typed (Core 1.0, sections 3.3 and 3.4). Lists of operand types are read from the top.
use Rattle.std.specs.Prelude.{ℕ, ◌≡◌, ◌<◌, ◌++◌, List, [], ◌∷◌, Option, Some, None, slice_get}
use Rattle.wm_ast.specs.declared.module.Module.{Module}
use Rattle.wm_ast.specs.declared.module.Func.{Func}
use Rattle.wm_ast.specs.declared.types.FuncType.{FuncType}
use Rattle.wm_ast.specs.declared.types.ValType.{ValType}
use Rattle.wm_ast.specs.declared.types.ValType.TheVariants.{I32}
use Rattle.wm_ast.specs.declared.instr.Else.{Else}
use Rattle.wm_ast.specs.declared.instr.Else.TheVariants.{Present, Absent}
use Rattle.wm_ast.specs.declared.instr.Instr.{Instr}
use Rattle.wm_ast.specs.declared.instr.Instr.TheVariants.{Block, Loop, If}
use Rattle.wm_valid.specs.InstrTypes.{Context, Labels, InstrType, maps, drops, selects, stack_polymorphic, listed, instr_type}

-- an instruction of this type turns the first list into the second
abbrev pub Makes : InstrType → List ValType → List ValType → Type 0
Makes (maps takes gives) ts us = (rest : List ValType) × (ts ≡ takes ++ rest) × (us ≡ gives ++ rest)
Makes drops ts us = (t : ValType) × (ts ≡ t ∷ us)
Makes selects ts us = (t : ValType) × (rest : List ValType) × (ts ≡ I32 ∷ t ∷ t ∷ rest) × (us ≡ t ∷ rest)
Makes (stack_polymorphic takes) ts us = (rest : List ValType) × (ts ≡ takes ++ rest)

-- In C, under these labels, the instructions of block n turn the first list into the second. A block comes after the
-- block that names it.
pub data Typed (C : Context) : ℕ → Labels → List Instr → List ValType → List ValType → Type 0 where
  none : {n : ℕ} {labels : Labels} {ts : List ValType} → Typed C n labels [] ts ts
  plain : {n : ℕ} {labels : Labels} {i : Instr} {rest : List Instr} {ts us vs : List ValType} (ty : InstrType) → instr_type C labels i ≡ Some ty → Makes ty ts us
      → Typed C n labels rest us vs → Typed C n labels (i ∷ rest) ts vs
  block : {n : ℕ} {labels : Labels} {t : Option ValType} {b : ℕ} {rest : List Instr} {ts vs : List ValType} (body : List Instr) → n < b → slice_get C.blocks b ≡ Some body
      → Typed C b (t ∷ labels) body [] (listed t) → Typed C n labels rest (listed t ++ ts) vs → Typed C n labels (Block t b ∷ rest) ts vs
  loop : {n : ℕ} {labels : Labels} {t : Option ValType} {b : ℕ} {rest : List Instr} {ts vs : List ValType} (body : List Instr) → n < b → slice_get C.blocks b ≡ Some body
      → Typed C b (None ∷ labels) body [] (listed t) → Typed C n labels rest (listed t ++ ts) vs → Typed C n labels (Loop t b ∷ rest) ts vs
  if_else : {n : ℕ} {labels : Labels} {t : Option ValType} {one other : ℕ} {rest : List Instr} {ts vs : List ValType} (first second : List Instr) → n < one → slice_get C.blocks one ≡ Some first
      → Typed C one (t ∷ labels) first [] (listed t) → n < other → slice_get C.blocks other ≡ Some second → Typed C other (t ∷ labels) second [] (listed t)
      → Typed C n labels rest (listed t ++ ts) vs → Typed C n labels (If t one other Present ∷ rest) (I32 ∷ ts) vs
  -- an absent else part is an empty block, so there is no result
  if_then : {n : ℕ} {labels : Labels} {one other : ℕ} {rest : List Instr} {ts vs : List ValType} (first : List Instr) → n < one → slice_get C.blocks one ≡ Some first
      → Typed C one (None ∷ labels) first [] [] → slice_get C.blocks other ≡ Some [] → Typed C n labels rest ts vs → Typed C n labels (If None one other Absent ∷ rest) (I32 ∷ ts) vs

abbrev pub context : Module → Func → FuncType → Context
context m f ty = record { «module» = m; locals = ty.params ++ f.locals; result = ty.result; blocks = f.blocks }

-- block b exists, and turns no operands into the result
pub record TypedBlock (C : Context) (b : ℕ) (labels : Labels) (result : Option ValType) : Type 0 where
  pub body : List Instr
  pub is_there : slice_get C.blocks b ≡ Some body
  pub typed : Typed C b labels body [] (listed result)

-- block b also comes after block n
pub record Nested (C : Context) (n b : ℕ) (labels : Labels) (result : Option ValType) : Type 0 where
  pub behind : n < b
  pub block : TypedBlock C b labels result

-- an absent else part is an empty block, and there is no result
abbrev pub AbsentElse : Context → ℕ → Option ValType → Type 0
AbsentElse C b t = (t ≡ None) × (slice_get C.blocks b ≡ Some [])

-- the else part of an `if` of block n: a block like the other part, or an absent one
abbrev pub ElsePart : Context → ℕ → ℕ → Labels → Option ValType → Else → Type 0
ElsePart C n b labels t Present = Nested C n b (t ∷ labels) t
ElsePart C n b labels t Absent = AbsentElse C b t

-- a function that is typed: its type exists, and its body is a block whose label is the result
pub record TypedFunc (m : Module) (f : Func) : Type 0 where
  pub type : FuncType
  pub is_type : slice_get m.types f.type_index ≡ Some type
  pub body : TypedBlock (context m f type) 0 (type.result ∷ []) type.result
