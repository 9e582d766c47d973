-- In a module that bytes spell, each position of an instruction is one of an opcode with a number and a byte offset.
use Rattle.std.proofs.Common.{◌≡◌, ℕ, zero, suc, ◌+◌, ◌<◌, ◌≤◌, List, [], ◌∷◌, ◌++◌, length, Some, refl, sym, ap, subst, ◌∙◌, slice_get, inl, inr, append_assoc, length-append, arith}
use Rattle.std.proofs.lemmas.Option.{same_Some, slice_get_within}
use Rattle.wm_ast.specs.declared.instr.Instr.{Instr}
use Rattle.wm_ast.specs.declared.module.Func.{Func}
use Rattle.wm_ast.specs.declared.module.Module.{Module}
use Rattle.wm_decode.specs.Bounds.{max_module_bytes, profile}
use Rattle.wm_decode.specs.Instructions.{plain_instr}
use Rattle.wm_decode.specs.Module.{SpellsWithin}
use Rattle.wm_machine.specs.declared.thread.CodePosition.{CodePosition}
use Rattle.wm_sites.specs.declared.opcode_numbers.BlockPosition.{BlockPosition}
use Rattle.wm_sites.specs.Numbering.{begin_of}
use Rattle.wm_sites.specs.Offsets.{OpcodeText, plain, begin_block, begin_loop, begin_if, else_between, end_after, OpcodeTexts, no_opcode, opcode}
use Rattle.wm_sites.specs.Opcodes.{HasOpcode}
use Rattle.wm_sites.specs.Sites.{in_function}
use Rattle.wm_sites.proofs.AccessingStep.{HasInstr}
use Rattle.wm_sites.proofs.CodeBytes.{Body, body_of, Code, code_of}
use Rattle.wm_sites.proofs.Numbered.{Holds, IsOf, Numbered, numbered}

-- ---- each opcode takes a byte

text_has : {text : List ℕ} → OpcodeText text → 0 < length text
text_has (plain (plain_instr meaning operands)) = omega arith
text_has (begin_block ty) = omega arith
text_has (begin_loop ty) = omega arith
text_has (begin_if ty) = omega arith
text_has else_between = omega arith
text_has end_after = omega arith

texts_have : {n : ℕ} {text : List ℕ} → OpcodeTexts n text → n ≤ length text
texts_have no_opcode = omega arith
texts_have (opcode {text = text} {rest = rest} one texts) =
    let first = text_has one in
    let others = texts_have texts in
    omega (arith, first, others, length-append text rest)

longer : (earlier own later text opcodes before after items front rest bytes : List ℕ) → text ≡ earlier ++ (own ++ later) → opcodes ≡ text ++ 0x0B ∷ [] → items ≡ before ++ (opcodes ++ after) → bytes ≡ front ++ (items ++ rest)
    → length earlier < length bytes
longer earlier own later text opcodes before after items front rest bytes text_is opcodes_are items_are bytes_are =
    let a = simp length-append at (ap length text_is) in
    let b = simp length-append at (ap length opcodes_are) in
    let c = simp length-append at (ap length items_are) in
    let d = simp length-append at (ap length bytes_are) in
    omega (arith, a, b, c, d)

-- ---- in a function

nested_held : (body : List Instr) (nested : List (List Instr)) → Holds (body ∷ nested) 1 nested
nested_held body nested i x is = let same : suc i ≡ 1 + i = omega arith in subst (λ (n : ℕ). slice_get (body ∷ nested) n ≡ Some x) same is

-- a position of an instruction is in the body or in a nested block
position_of : (body : List Instr) (nested : List (List Instr)) (q : BlockPosition) (instrs : List Instr) → slice_get (body ∷ nested) q.block ≡ Some instrs → q.at < length instrs
    → IsOf (begin_of 0) body 1 nested q
position_of body nested q instrs is before = by q.block refl is
  where
    by : (n : ℕ) → q.block ≡ n → slice_get (body ∷ nested) n ≡ Some instrs → IsOf (begin_of 0) body 1 nested q
    by zero block first =
        let same = ap length (same_Some body instrs first) in
        let least : 0 ≤ q.at = omega arith in
        let end : q.at < 0 + length body = omega (arith, same, before) in
        inl (record { block = block; from = least; before = end })
    by (suc i) block other =
        let number : q.block ≡ 1 + i = omega (arith, block) in inr (record { index = i; body = instrs; is_body = other; block = number; before = before })

module _ {depth_left : ℕ} {items : List ℕ} {f : ℕ} {func : Func} (b : Body depth_left items f func) (q : BlockPosition) (instrs : List Instr) (is : slice_get func.blocks q.block ≡ Some instrs) (before : q.at < length instrs) where
  numbered_in : Numbered func.blocks (begin_of 0) [] b.text b.instrs q
  numbered_in =
      subst (λ (blocks : List (List Instr)). Numbered blocks (begin_of 0) [] b.text b.instrs q) (sym b.blocks_are)
      (numbered b.spelled (b.instrs ∷ b.nested) (nested_held b.instrs b.nested) (begin_of 0) q
      (position_of b.instrs b.nested q instrs (subst (λ (blocks : List (List Instr)). slice_get blocks q.block ≡ Some instrs) b.blocks_are is) before))

-- ---- in a module

opcode_parts : (earlier own later text opcodes : List ℕ) → text ≡ earlier ++ (own ++ later) → opcodes ≡ text ++ 0x0B ∷ [] → opcodes ≡ earlier ++ (own ++ (later ++ 0x0B ∷ []))
opcode_parts earlier own later text opcodes text_is opcodes_are =
    opcodes_are ∙ ap (λ (xs : List ℕ). xs ++ 0x0B ∷ []) text_is ∙ append_assoc earlier (own ++ later) (0x0B ∷ []) ∙ ap (λ (xs : List ℕ). earlier ++ xs) (append_assoc own later (0x0B ∷ []))

pub opcode_there : (bytes : List ℕ) (m : Module) (p : CodePosition) → SpellsWithin bytes m → HasInstr m p.func p.block p.at → HasOpcode bytes m p
opcode_there bytes m p s at = record {
  number = n.number;
  opcode = record {
    func = at.func;
    is_func = at.is_func;
    numbered = record { body = b.instrs; is_body = ap (λ (blocks : List (List Instr)). slice_get blocks 0) b.blocks_are; numbered = n.numbered };
  };
  below = below;
  offset = length code.before + (length b.before + length n.earlier);
  begins = record {
    front = code.before;
    items = code.items;
    section = code.section;
    is_function = subst (λ (k : ℕ). p.func < k) (sym code.count) there;
    before = b.before;
    opcodes = b.opcodes;
    body = b.has;
    earlier = n.earlier;
    text = n.own;
    later = n.later ++ 0x0B ∷ [];
    parts = opcode_parts n.earlier n.own n.later b.text b.opcodes n.text_is b.opcodes_are;
    skipped = n.skipped;
    is_opcode = n.is_opcode;
    is_offset = refl;
  };
}
  where
    there : p.func < length m.funcs
    there = slice_get_within m.funcs p.func at.func at.is_func

    code : Code profile.nesting bytes m.funcs
    code = code_of profile.nesting bytes m s.spelled (omega (arith, there))

    b : Body profile.nesting code.items p.func at.func
    b = body_of code.each p.func at.func at.is_func

    n : Numbered at.func.blocks (begin_of 0) [] b.text b.instrs (in_function p)
    n = numbered_in b (in_function p) at.instrs at.is_block at.before

    below : n.number < max_module_bytes
    below =
        let short = s.short in
        let least = texts_have n.skipped in
        let more = longer n.earlier n.own n.later b.text b.opcodes b.before b.has.after code.items code.before code.section.after bytes n.text_is b.opcodes_are b.has.parts code.section.parts in
        omega (arith, short, least, more)
