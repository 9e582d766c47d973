-- The ranges of opcodes by the form of their immediates agree with the decoder's opcodes.
use Rattle.std.proofs.Common.{◌≡◌, ℕ, List, [], ◌∷◌, length, Bool, true, false, cond, eqb, Option, Some, None, Ok, Err, refl, sym, ap, ◌∙◌}
use Rattle.std.specs.Prelude.{◌&&◌, ◌==◌, nat_lt, if◌then◌else◌}
use Rattle.std.proofs.lemmas.Bool.{eqb-true}
use Rattle.std.proofs.lemmas.Option.{none-some, same_Some}
use Rattle.wm_ast.specs.declared.instr.Instr.{Instr}
use Rattle.wm_ast.specs.declared.instr.Instr.TheVariants as instr
use Rattle.wm_decode.specs.Opcodes.{lookup, opcode_at, atomic_at, control_opcodes, memory_opcodes, comparison_opcodes, arithmetic_32_opcodes, arithmetic_64_opcodes, other_opcodes}
use Rattle.wm_decode.specs.Reading.{signed_at, unsigned_at}
use Rattle.wm_decode.specs.ReadingInstructions.{InstrAt, access_at, atomic_access_at, immediates_at}
use Rattle.wm_decode.specs.ReadingVectors.{items_at, vector_at}
use Rattle.wm_module_bytes.specs.declared.instruction.Immediates.{Immediates}
use Rattle.wm_module_bytes.specs.declared.instruction.Immediates.TheVariants.{Fixed, Access, Vector, BlockType}
use Rattle.wm_module_bytes.specs.Instructions.{in_ranges, plain_ranges}

-- immediates of an opcode of any form but that of an atomic access
abbrev pub zeros : List ℕ
zeros = 0 ∷ 0 ∷ 0 ∷ 0 ∷ []

abbrev by_instr : Instr → Immediates
by_instr (instr.BrTable labels other) = Vector 1
by_instr _ = Access 0

-- the form of the immediates, by what was read of the zeros
abbrev pub form_of : Instr × List ℕ → Immediates
form_of x = if length x.1 == 4 then Fixed 0 0 else (if length x.1 == 3 then Fixed 1 0 else by_instr x.0)

abbrev pub same_form : Immediates → Immediates → Bool
same_form (Fixed n k) (Fixed m l) = (n == m) && (k == l)
same_form (Access k) (Access l) = k == l
same_form (Vector n) (Vector m) = n == m
same_form BlockType BlockType = true
same_form _ _ = false

abbrev pub some_form : Option Immediates → Immediates → Bool
some_form None form = false
some_form (Some found) form = same_form found form

-- the ranges give the form of the immediates of an opcode with this code; that of an atomic access has a byte that is a prefix
abbrev pub fits : ℕ → InstrAt → Bool
fits code (Err e) = code == 0xFE
fits code (Ok x) = some_form (in_ranges code plain_ranges) (form_of x)

module _ {X : Type 0} (read : X → InstrAt) where
  abbrev all_fit : List (ℕ × X) → Bool
  all_fit [] = true
  all_fit (e ∷ es) = fits e.0 (read e.1) && all_fit es

control_fit : all_fit (λ op. immediates_at op zeros) control_opcodes ≡ true
unfolding immediates_at access_at atomic_access_at atomic_at signed_at unsigned_at vector_at items_at
control_fit = refl

memory_fit : all_fit (λ op. immediates_at op zeros) memory_opcodes ≡ true
unfolding immediates_at access_at atomic_access_at atomic_at signed_at unsigned_at vector_at items_at
memory_fit = refl

other_fit : all_fit (λ op. immediates_at op zeros) other_opcodes ≡ true
unfolding immediates_at access_at atomic_access_at atomic_at signed_at unsigned_at vector_at items_at
other_fit = refl

comparison_fit : all_fit (λ op. immediates_at op zeros) comparison_opcodes ≡ true
unfolding immediates_at access_at atomic_access_at atomic_at signed_at unsigned_at vector_at items_at
comparison_fit = refl

arithmetic_32_fit : all_fit (λ op. immediates_at op zeros) arithmetic_32_opcodes ≡ true
unfolding immediates_at access_at atomic_access_at atomic_at signed_at unsigned_at vector_at items_at
arithmetic_32_fit = refl

arithmetic_64_fit : all_fit (λ op. immediates_at op zeros) arithmetic_64_opcodes ≡ true
unfolding immediates_at access_at atomic_access_at atomic_at signed_at unsigned_at vector_at items_at
arithmetic_64_fit = refl

-- ---- the first entry of a code

pub and_first : (a b : Bool) → (a && b) ≡ true → a ≡ true
and_first true b is = refl
and_first false b is = absurd (cc)

pub and_second : (a b : Bool) → (a && b) ≡ true → b ≡ true
and_second true b is = is
and_second false b is = absurd (cc)

module _ {X : Type 0} where
  -- one of two answers
  pub either : {P : Type 0} (b : Bool) (x y : Option X) (op : X) → cond b x y ≡ Some op → (x ≡ Some op → P) → (y ≡ Some op → P) → P
  either true x y op is first second = first is
  either false x y op is first second = second is

  entry : (read : X → InstrAt) (b : Bool) (code at : ℕ) (x op : X) (other : Option X) → eqb code at ≡ b → cond b (Some x) other ≡ Some op → fits at (read x) ≡ true → (other ≡ Some op → fits code (read op) ≡ true)
      → fits code (read op) ≡ true
  entry read true code at x op other same is fit more =
      ap (λ (n : ℕ). fits n (read op)) (eqb-true code at same) ∙ ap (λ (y : X). fits at (read y)) (sym (same_Some x op is)) ∙ fit
  entry read false code at x op other same is fit more = more is

  lookup_fits : (read : X → InstrAt) (table : List (ℕ × X)) → all_fit read table ≡ true → (code : ℕ) (op : X) → lookup code table ≡ Some op → fits code (read op) ≡ true
  lookup_fits read [] all code op is = absurd (none-some op is)
  lookup_fits read (e ∷ es) all code op is =
      entry read (eqb code e.0) code e.0 e.1 op (lookup code es) refl is (and_first (fits e.0 (read e.1)) (all_fit read es) all) (lookup_fits read es (and_second (fits e.0 (read e.1)) (all_fit read es) all) code op)

-- an opcode has the form that the ranges give
pub opcode_fits : (code : ℕ) (op : _) → opcode_at code ≡ Some op → fits code (immediates_at op zeros) ≡ true
unfolding opcode_at
opcode_fits code op is =
    let read = λ (x : _). immediates_at x zeros in
    either (nat_lt code 0x28) (lookup code control_opcodes) _ op is (lookup_fits read control_opcodes control_fit code op) λ is.
    either (nat_lt code 0x41) (lookup code memory_opcodes) _ op is (lookup_fits read memory_opcodes memory_fit code op) λ is.
    either (nat_lt code 0x45) (lookup code other_opcodes) _ op is (lookup_fits read other_opcodes other_fit code op) λ is.
    either (nat_lt code 0x67) (lookup code comparison_opcodes) _ op is (lookup_fits read comparison_opcodes comparison_fit code op) λ is.
    either (nat_lt code 0x79) (lookup code arithmetic_32_opcodes) _ op is (lookup_fits read arithmetic_32_opcodes arithmetic_32_fit code op) λ is.
    either (nat_lt code 0x8B) (lookup code arithmetic_64_opcodes) _ op is (lookup_fits read arithmetic_64_opcodes arithmetic_64_fit code op) (lookup_fits read other_opcodes other_fit code op)
