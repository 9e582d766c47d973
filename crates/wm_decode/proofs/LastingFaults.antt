-- What is known of the faults of a byte or a code: none is a limit.
use Rattle.std.proofs.Common.{ℕ, ◌+◌, ◌≤◌, Bool, true, false, cond, ltb, List, [], ◌∷◌, length, Err, arith, ◌≡◌}
use Rattle.wm_decode.specs.declared.fault.Feature.{Feature}
use Rattle.wm_decode.specs.declared.fault.Feature.TheVariants.{MultiValue}
use Rattle.wm_decode.specs.declared.fault.FaultKind.{FaultKind}
use Rattle.wm_decode.specs.declared.fault.FaultKind.TheVariants as kind
use Rattle.wm_decode.specs.Begins.{IsItem}
use Rattle.wm_decode.specs.Stop.{stop}
use Rattle.wm_decode.specs.Faults.{LeftOut, is_among, left_out_or, left_out_opcodes, left_out_value_types, left_out_limits, left_out_imports, left_out_exports, left_out_segments, left_out_sections, left_out_atomics, value_type_fault, block_type_fault, limits_fault, import_kind_fault, export_kind_fault, segment_flag_fault, section_fault, atomic_fault, opcode_fault}
use Rattle.wm_decode.proofs.Lasting.{IsNoLimit, Steady, fault_of_last}

-- no limit, and a fault of any item of at most n bytes
pub record Fine (n : ℕ) (k : FaultKind) : Type 0 where
  pub no_limit : IsNoLimit k
  pub is_item : (item : List ℕ) → length item ≤ n → IsItem k item

either : (P : FaultKind → Type 0) (b : Bool) (x y : FaultKind) → P x → P y → P (cond b x y)
either P true x y h k = h
either P false x y h k = k

left_out : (n : ℕ) (other : FaultKind) (code : ℕ) (rs : List LeftOut) → n ≤ 6 → Fine n other → Fine n (left_out_or other code rs)
left_out n other code [] le h = h
left_out n other code (r ∷ rs) le h = either (Fine n) (is_among code r) (kind.Unsupported r.feature) (left_out_or other code rs) (record { no_limit = tt; is_item = λ item short. omega (arith, short) }) (left_out n other code rs le h)

pub bad_number : (n : ℕ) → n ≤ 6 → Fine n kind.BadNumber
bad_number n le = record { no_limit = tt; is_item = λ item short. omega (arith, short) }

pub unsupported : (n : ℕ) (feature : Feature) → n ≤ 6 → Fine n (kind.Unsupported feature)
unsupported n feature le = record { no_limit = tt; is_item = λ item short. omega (arith, short) }

-- a byte that isn't one of those allowed, or belongs to an unsupported part
of_byte : (b : ℕ) (rs : List LeftOut) → Fine 1 (left_out_or kind.BadNumber b rs)
of_byte b rs = left_out 1 kind.BadNumber b rs (omega arith) (bad_number 1 (omega arith))

pub value_type_fine : (b : ℕ) → Fine 1 (value_type_fault b)
value_type_fine b = of_byte b left_out_value_types

pub block_type_fine : (b : ℕ) → Fine 1 (block_type_fault b)
block_type_fine b =
    let many = unsupported 1 MultiValue (omega arith) in
    let value = either (Fine 1) (ltb b 0x80) (value_type_fault b) (kind.Unsupported MultiValue) (value_type_fine b) many in
    either (Fine 1) (ltb b 0x40) (kind.Unsupported MultiValue) (cond (ltb b 0x80) (value_type_fault b) (kind.Unsupported MultiValue)) many value

pub limits_fine : (b : ℕ) → Fine 1 (limits_fault b)
limits_fine b = of_byte b left_out_limits

pub import_kind_fine : (b : ℕ) → Fine 1 (import_kind_fault b)
import_kind_fine b = of_byte b left_out_imports

pub export_kind_fine : (b : ℕ) → Fine 1 (export_kind_fault b)
export_kind_fine b = of_byte b left_out_exports

pub segment_flag_fine : (b : ℕ) → Fine 1 (segment_flag_fault b)
segment_flag_fine b = of_byte b left_out_segments

pub section_fine : (id : ℕ) → Fine 1 (section_fault id)
section_fine id =
    let late : Fine 1 kind.SectionOrder = record { no_limit = tt; is_item = λ item short. short } in
    either (Fine 1) (ltb id 0x0E) (left_out_or kind.SectionOrder id left_out_sections) kind.BadNumber (left_out 1 kind.SectionOrder id left_out_sections (omega arith) late) (bad_number 1 (omega arith))

pub opcode_fine : (op : ℕ) → Fine 6 (opcode_fault op)
opcode_fine op = let other : Fine 6 (kind.UnknownOpcode op) = record { no_limit = tt; is_item = λ item short. short } in left_out 6 (kind.UnknownOpcode op) op left_out_opcodes (omega arith) other

pub atomic_fine : (code : ℕ) → Fine 6 (atomic_fault code)
atomic_fine code = let other : Fine 6 (kind.UnknownOpcode 0xFE) = record { no_limit = tt; is_item = λ item short. short } in left_out 6 (kind.UnknownOpcode 0xFE) code left_out_atomics (omega arith) other

-- a fault of the byte that was read last
pub bad_byte : {V A : Type 0} {k : ℕ} {inner : Bool} {at : V → List ℕ → A} (b : ℕ) (fault : FaultKind) (left : List ℕ → ℕ) → ((l : List ℕ) → left l ≡ length l + 1) → Fine 1 fault → Steady k inner at (b ∷ []) (λ l. Err (stop fault (left l)))
bad_byte b fault left is fine = fault_of_last [] (b ∷ []) fault left (λ l. omega (arith, is l)) fine.no_limit (fine.is_item (b ∷ []) (omega arith))
