-- The bytes of an opcode are an opcode and immediates as a reader of bytes takes them.
use Rattle.std.proofs.Common.{◌≡◌, ◌≢◌, ℕ, ◌<◌, ◌≤◌, List, [], ◌∷◌, ◌++◌, length, Bool, true, false, cond, Option, Some, None, option_map, refl, sym, ap, subst, ◌∙◌, inl, inr, append_assoc, append-nil, arith}
use Rattle.std.specs.Prelude.{◌&&◌, ◌⊎◌, ◌==◌, nat_lt}
use Rattle.std.proofs.lemmas.Bool.{eqb-true, ltb-false, ltb-true}
use Rattle.std.proofs.lemmas.Option.{none-some}
use Rattle.wm_ast.specs.declared.instr.Instr.{Instr}
use Rattle.wm_ast.specs.declared.types.ValType.{ValType}
use Rattle.wm_ast.specs.declared.types.ValType.TheVariants.{I32, I64}
use Rattle.wm_decode.specs.Instructions.{Immediates as Operands, Plain, alone, indexed, br_table, access, memory_size, i32_const, i64_const, atomic, block_type, plain_instr}
use Rattle.wm_decode.specs.Opcodes.{opcode_at, atomic_at}
use Rattle.wm_decode.specs.Reading.{signed_at, unsigned_at}
use Rattle.wm_decode.specs.ReadingInstructions.{access_at, atomic_access_at, immediates_at}
use Rattle.wm_decode.specs.ReadingVectors.{items_at, vector_at}
use Rattle.wm_module_bytes.specs.declared.instruction.Immediates.{Immediates}
use Rattle.wm_module_bytes.specs.declared.instruction.Immediates.TheVariants.{Fixed, Access, Vector, BlockType}
use Rattle.wm_module_bytes.specs.declared.instruction.Opcode.{Opcode}
use Rattle.wm_module_bytes.specs.Instructions.{HasFixed, HasImmediates, IsOpcode, Range, in_ranges, plain, plain_ranges, prefixed}
use Rattle.wm_module_bytes.specs.Reading.{AreNumbers, IsNumber, value_of}
use Rattle.wm_module_bytes.specs.Reading as read
use Rattle.wm_sites.specs.Bodies.{in_one_memory}
use Rattle.wm_sites.specs.Offsets.{OpcodeText, begin_block, begin_if, begin_loop, else_between, end_after}
use Rattle.wm_sites.specs.Offsets as opcode
use Rattle.wm_sites.proofs.OpcodeForms.{and_first, and_second, either, opcode_fits, same_form, some_form}
use Rattle.wm_sites.proofs.Spelled.{each_numbers, one_number, signed_32_short, signed_64_short, signed_number, two_numbers, u32_number, u32_short, u32_shorter, u32_value}

-- the form of an opcode's immediates is known
abbrev pub IsKnown : Opcode → Immediates → Type 0
IsKnown op form =
    ((op.byte < 0xFC) × (option_map in_one_memory (in_ranges op.byte plain_ranges) ≡ Some form))
    ⊎ ((op.byte ≡ 0xFE) × (op.code ≢ 0x03) × (form ≡ in_one_memory (Access 0)))

pub record Shape (text : List ℕ) : Type 0 where
  pub op : Opcode
  pub first : List ℕ
  pub rest : List ℕ
  pub parts : text ≡ first ++ rest
  pub is_opcode : IsOpcode first op
  pub form : Immediates
  pub known : IsKnown op form
  pub has : HasImmediates form rest

same_form_is : (a b : Immediates) → same_form a b ≡ true → a ≡ b
same_form_is (Fixed n k) (Fixed m l) is =
    ap (λ (x : ℕ). Fixed x k) (eqb-true n m (and_first (n == m) (k == l) is)) ∙ ap (λ (x : ℕ). Fixed m x) (eqb-true k l (and_second (n == m) (k == l) is))
same_form_is (Access k) (Access l) is = ap Access (eqb-true k l is)
same_form_is (Vector n) (Vector m) is = ap Vector (eqb-true n m is)
same_form_is BlockType BlockType is = refl
same_form_is _ _ is = absurd (cc)

some_form_is : (o : Option Immediates) (form : Immediates) → some_form o form ≡ true → o ≡ Some form
some_form_is None form is = absurd (cc)
some_form_is (Some found) form is = ap Some (same_form_is found form is)

-- a byte in the ranges is no prefix
abbrev all_low : List Range → Bool
all_low [] = true
all_low (r ∷ rs) = nat_lt r.to 0xFC && all_low rs

in_last : (t : Bool) (to b : ℕ) (form found : Immediates) (other : Option Immediates) → nat_lt to b ≡ t → cond t other (Some found) ≡ Some form → nat_lt to 0xFC ≡ true → (other ≡ Some form → b < 0xFC) → b < 0xFC
in_last true to b form found other past is top more = more is
in_last false to b form found other past is top more =
    let within = ltb-false to b past in
    let below = ltb-true to 0xFC top in omega (arith, within, below)

low : (rs : List Range) (b : ℕ) (form : Immediates) → all_low rs ≡ true → in_ranges b rs ≡ Some form → b < 0xFC
low [] b form all is = absurd (none-some form is)
low (r ∷ rs) b form all is =
    let more : in_ranges b rs ≡ Some form → b < 0xFC = low rs b form (and_second (nat_lt r.to 0xFC) (all_low rs) all) in
    either (nat_lt b r.from) (in_ranges b rs) (cond (nat_lt r.to b) (in_ranges b rs) (Some r.immediates)) form is more
    λ is. in_last (nat_lt r.to b) r.to b form r.immediates (in_ranges b rs) refl is (and_first (nat_lt r.to 0xFC) (all_low rs) all) more

plain_low : (b : ℕ) (form : Immediates) → in_ranges b plain_ranges ≡ Some form → b < 0xFC
plain_low b form is = low plain_ranges b form refl is

-- an opcode of one byte
plain_shape : (code : ℕ) (form : Immediates) (rest : List ℕ) → some_form (in_ranges code plain_ranges) form ≡ true → HasImmediates (in_one_memory form) rest → Shape (code ∷ rest)
plain_shape code form rest is has =
    let given : in_ranges code plain_ranges ≡ Some form = some_form_is (in_ranges code plain_ranges) form is in
    let below : code < 0xFC = plain_low code form given in
    record {
      op = record { byte = code; code = 0 };
      first = code ∷ [];
      rest = rest;
      parts = refl;
      is_opcode = plain below;
      form = in_one_memory form;
      known = inl (below, ap (option_map in_one_memory) given);
      has = has;
    }

no_immediates : HasFixed 0 0 []
no_immediates = record { numbers = []; bytes = []; parts = refl; are_numbers = read.no_number; count = refl }

one_index : {text : List ℕ} → IsNumber text → length text ≤ 10 → HasFixed 1 0 text
one_index {text} number short =
    record { numbers = text ++ []; bytes = []; parts = sym (append-nil (text ++ []) ∙ append-nil text); are_numbers = one_number number short; count = refl }

two_indices : {first second : List ℕ} → IsNumber first → length first ≤ 10 → IsNumber second → length second ≤ 10 → HasFixed 2 0 (first ++ second)
two_indices {first} {second} number short other other_short = record {
  numbers = first ++ (second ++ []);
  bytes = [];
  parts = sym (append-nil (first ++ (second ++ [])) ∙ ap (λ (xs : List ℕ). first ++ xs) (append-nil second));
  are_numbers = two_numbers number short other other_short;
  count = refl;
}

shape : (code : ℕ) (op : _) {text : List ℕ} {i : Instr} → opcode_at code ≡ Some op → Operands op text i → Shape (code ∷ text)
unfolding immediates_at access_at atomic_access_at atomic_at signed_at unsigned_at vector_at items_at
shape code _ is alone = plain_shape code (Fixed 0 0) [] (opcode_fits code _ is) no_immediates
shape code _ is (indexed {text = text} n) = plain_shape code (Fixed 1 0) text (opcode_fits code _ is) (one_index (u32_number n) (u32_shorter n))
shape code _ is (br_table {first = first} {second = second} {labels = labels} vector other) =
    plain_shape code (Vector 1) (first ++ second) (opcode_fits code _ is) (record {
      count = vector.count;
      items = vector.items;
      others = second ++ [];
      parts = ap (λ (xs : List ℕ). xs ++ second) vector.parts ∙ append_assoc vector.count vector.items second ∙ ap (λ (xs : List ℕ). vector.count ++ (vector.items ++ xs)) (sym (append-nil second));
      is_count = u32_number vector.counted;
      short = u32_short vector.counted;
      are_items = subst (λ (n : ℕ). AreNumbers n vector.items) (sym (u32_value vector.counted)) (each_numbers vector.each);
      are_others = one_number (u32_number other) (u32_shorter other);
    })
shape code _ is (access {first = first} {second = second} alignment offset) =
    plain_shape code (Access 0) (first ++ second) (opcode_fits code _ is) (two_indices (u32_number alignment) (u32_shorter alignment) (u32_number offset) (u32_shorter offset))
shape code _ is memory_size = plain_shape code (Fixed 1 0) (0x00 ∷ []) (opcode_fits code _ is) (one_index (read.last (omega arith)) (omega arith))
shape code _ is (i32_const {text = text} n) = plain_shape code (Fixed 1 0) text (opcode_fits code _ is) (one_index (signed_number n) (signed_32_short n))
shape code _ is (i64_const {text = text} n) = plain_shape code (Fixed 1 0) text (opcode_fits code _ is) (one_index (signed_number n) (signed_64_short n))
shape code _ is (atomic {kind = kind} {code = number} {text = text} {first = first} {second = second} spelled meant alignment offset) =
    let prefix : code ≡ 0xFE = eqb-true code 0xFE (opcode_fits code _ is) in
    record {
      op = record { byte = code; code = value_of text };
      first = code ∷ text;
      rest = first ++ second;
      parts = refl;
      is_opcode = prefixed (omega arith) (omega arith) (u32_number spelled) (u32_short spelled);
      form = Fixed 2 0;
      known = inr (prefix, (λ three. none-some kind (ap atomic_at (sym (sym (u32_value spelled) ∙ three)) ∙ meant)), refl);
      has = two_indices (u32_number alignment) (u32_shorter alignment) (u32_number offset) (u32_shorter offset);
    }

plain_text : {text : List ℕ} {i : Instr} → Plain text i → Shape text
plain_text (plain_instr {code = code} {op = op} is operands) = shape code op is operands

short_type : (ty : Option ValType) → block_type ty < 128
short_type None = omega arith
short_type (Some I32) = omega arith
short_type (Some I64) = omega arith

block_shape : (code : ℕ) (ty : Option ValType) → some_form (in_ranges code plain_ranges) BlockType ≡ true → Shape (code ∷ block_type ty ∷ [])
block_shape code ty is = plain_shape code BlockType (block_type ty ∷ []) is (read.last (short_type ty), omega arith)

pub opcode_shape : {text : List ℕ} → OpcodeText text → Shape text
opcode_shape (opcode.plain spelled) = plain_text spelled
opcode_shape (begin_block ty) = block_shape 0x02 ty refl
opcode_shape (begin_loop ty) = block_shape 0x03 ty refl
opcode_shape (begin_if ty) = block_shape 0x04 ty refl
opcode_shape else_between = plain_shape 0x05 (Fixed 0 0) [] refl no_immediates
opcode_shape end_after = plain_shape 0x0B (Fixed 0 0) [] refl no_immediates
