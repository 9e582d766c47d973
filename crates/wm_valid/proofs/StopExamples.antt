-- Small blocks, and the opcode of each at which typing stops.
use Rattle.std.proofs.Common.{◌≡◌, ℕ, List, [], ◌∷◌, ◌++◌, Option, Some, None, refl, sym, subst, ◌∙◌, slice_get, inl, inr, arith}
use Rattle.wm_num.specs.declared.operator.Width.TheVariants.{W64}
use Rattle.wm_ast.specs.declared.types.ValType.{ValType}
use Rattle.wm_ast.specs.declared.types.ValType.TheVariants.{I32, I64}
use Rattle.wm_ast.specs.declared.instr.Else.TheVariants.{Absent}
use Rattle.wm_ast.specs.declared.instr.Instr.{Instr}
use Rattle.wm_ast.specs.declared.instr.Instr.TheVariants.{Block, If, I32Const, Eqz, Drop}
use Rattle.wm_valid.specs.InstrTypes.{Context, Labels, InstrType, maps, drops, instr_type}
use Rattle.wm_valid.specs.Typing.{Makes, Typed, none, plain}
use Rattle.wm_valid.specs.Locations.{Opcodes, none as no_opcode, instr}
use Rattle.wm_valid.specs.Untyped.{HasTyping, StandsBehind, StopsTyping, at_opcode, at_end, in_first, behind_first}
use Rattle.wm_valid.proofs.StackLaws.{some_is}
use Rattle.wm_valid.proofs.BodyLaws.{Plainly, apart}

-- what a plain instruction of this type makes
made : {C : Context} {n : ℕ} {labels : Labels} {i : Instr} {rest : List Instr} {ts vs : List ValType} (ty : InstrType) → instr_type C labels i ≡ Some ty → Plainly C n labels i rest ts vs
    → (us : List ValType) × Makes ty ts us × Typed C n labels rest us vs
made {ts = ts} ty is p = (p.us, subst (λ (t : InstrType). Makes t ts p.us) (some_is p.type ty (sym p.is_type ∙ is)) p.makes, p.typed)

-- an i32 as a constant
constant : {C : Context} {n : ℕ} {labels : Labels} (x : ℕ) (ts : List ValType) → Typed C n labels (I32Const x ∷ []) ts (I32 ∷ ts)
constant x ts = plain (maps [] (I32 ∷ [])) refl (ts, refl, refl) none

-- the last instruction, after all the others
last : {C : Context} {before : List Instr} {i : Instr} {k : ℕ} → Opcodes C.blocks [] before k → StandsBehind C (before ++ i ∷ []) before i k
last ops = record { after = []; is = refl; are_opcodes = ops }

-- i32.const x, i64.eqz: at the second
no_operand : (C : Context) (n : ℕ) (labels : Labels) (x : ℕ) → HasTyping C n labels (I32Const x ∷ Eqz W64 ∷ []) → ⊥
no_operand C n labels x h = elim (apart h.1) [
  | inl p ↦
      let a = made (maps [] (I32 ∷ [])) refl p in
      elim (apart a.2) [
        | inl q ↦ let b = made (maps (I64 ∷ []) (I32 ∷ [])) refl q in absurd (cc (a.1.2, b.1.1))
        | inr f ↦ f
      ]
  | inr f ↦ f
]

pub wrong_operand : (C : Context) (n : ℕ) (labels : Labels) (result : Option ValType) (x : ℕ) → StopsTyping C n labels result (I32Const x ∷ Eqz W64 ∷ []) 1
wrong_operand C n labels result x = at_opcode (I32Const x ∷ []) (Eqz W64) (last (instr no_opcode)) (I32 ∷ [], constant x []) (no_operand C n labels x)

-- block (result i32) end: at its end
pub lacks_result : (C : Context) (labels : Labels) (result : Option ValType) → slice_get C.blocks 1 ≡ Some [] → StopsTyping C 0 labels result (Block (Some I32) 1 ∷ []) 1
lacks_result C labels result there =
    in_first [] (Block (Some I32) 1) (record { label = Some I32; block = 1 }) [] [] (last no_opcode) (([], none), (omega arith, ([], there))) refl there (at_end no_opcode ([], none) λ d. absurd (cc (apart d)))

-- i32.const x, if (result i32) i32.const y end: at its end, since there is no else part
pub lacks_else : (C : Context) (labels : Labels) (result : Option ValType) (x y : ℕ) → slice_get C.blocks 1 ≡ Some (I32Const y ∷ []) → StopsTyping C 0 labels result (I32Const x ∷ If (Some I32) 1 2 Absent ∷ []) 3
lacks_else C labels result x y there =
    behind_first (I32Const x ∷ []) (Some I32) 1 2 Absent (last (instr no_opcode))
    (record {
      test = ([], constant x []);
      first = record { behind = omega arith; block = record { body = I32Const y ∷ []; is_there = there; typed = constant y [] } };
      are_opcodes = instr no_opcode;
    })
    λ h. absurd (cc (h.0))

no_drop : (C : Context) (n : ℕ) (labels : Labels) → HasTyping C n labels (Drop ∷ []) → ⊥
no_drop C n labels h = elim (apart h.1) [ inl p ↦ let a = made drops refl p in absurd (cc (a.1.1)) | inr f ↦ f ]

-- i32.const x, block drop end: at the drop, which has no operand in its block
pub operand_outside : (C : Context) (labels : Labels) (result : Option ValType) (x : ℕ) → slice_get C.blocks 1 ≡ Some (Drop ∷ []) → StopsTyping C 0 labels result (I32Const x ∷ Block None 1 ∷ []) 2
operand_outside C labels result x there =
    in_first (I32Const x ∷ []) (Block None 1) (record { label = None; block = 1 }) [] (Drop ∷ []) (last (instr no_opcode)) ((I32 ∷ [], constant x []), (omega arith, (Drop ∷ [], there))) refl there
    (at_opcode [] Drop (last no_opcode) ([], none) (no_drop C 1 (None ∷ labels)))
