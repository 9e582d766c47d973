-- What a memory instruction asks of memory, and how it uses the reply (Core 1.0, section 4.4.4, and the threads
-- proposal).
use Rattle.std.specs.Prelude.{ℕ, ◌+◌, ◌%◌, List, drop, Bool, ◌&&◌, not, ◌==◌, nat_lt, if◌then◌else◌, Option, Some, None}
use Rattle.wm_access.specs.AccessWidth.{bytes_of}
use Rattle.wm_access.specs.MemoryOrder.{is_sequential}
use Rattle.wm_num.specs.declared.operator.Width.{Width}
use Rattle.wm_num.specs.declared.operator.Width.TheVariants.{W32}
use Rattle.wm_num.specs.declared.sign.Signedness.{Signedness}
use Rattle.wm_num.specs.declared.sign.Signedness.TheVariants.{Signed, Unsigned}
use Rattle.wm_num.specs.Conversion.{low_part, extension_meaning}
use Rattle.wm_ast.specs.declared.module.Module.{Module}
use Rattle.wm_ast.specs.declared.access.Storage.{Storage}
use Rattle.wm_ast.specs.declared.access.AccessKind.{AccessKind}
use Rattle.wm_ast.specs.declared.access.AccessKind.TheVariants.{Read, ReadSigned, Write, AtomicRead, AtomicWrite, Rmw, CmpXchg}
use Rattle.wm_ast.specs.Access.{storage_width, storage_operand, narrow_storage, whole, access_width, access_order}
use Rattle.wm_ast.specs.Types.{width_of}
use Rattle.wm_event.specs.declared.op.OpFields.{OpFields}
use Rattle.wm_event.specs.declared.op.OpKind.{OpKind}
use Rattle.wm_event.specs.declared.op.OpKind.TheVariants as op
use Rattle.wm_event.specs.declared.log.TrapKind.{TrapKind}
use Rattle.wm_event.specs.declared.log.TrapKind.TheVariants.{Unaligned, OutOfBounds}
use Rattle.wm_machine.specs.declared.value.TypedValue.{TypedValue}
use Rattle.wm_machine.specs.Values.{typed, number_at}
use Rattle.wm_ast.specs.Module.{memory_size}

-- what is asked of memory, at which address without the offset, and the operands that are left
pub record Asked : Type 0 where
  pub kind : OpKind
  pub base : ℕ
  pub below : List TypedValue

abbrev pub asked_at : OpKind → Option ℕ → List TypedValue → Option Asked
asked_at kind None below = None
asked_at kind (Some base) below = Some record { kind = kind; base = base; below = below }

abbrev pub asked_with : (ℕ → OpKind) → Option ℕ → Option ℕ → List TypedValue → Option Asked
asked_with kind None base below = None
asked_with kind (Some value) base below = asked_at (kind value) base below

-- the address, an i32, is the operand below those of the access
abbrev pub on_address : OpKind → List TypedValue → Option Asked
on_address kind operands = asked_at kind (number_at W32 operands 0) (drop 1 operands)

abbrev pub on_value : Width → (ℕ → OpKind) → List TypedValue → Option Asked
on_value width kind operands = asked_with kind (number_at width operands 0) (number_at W32 operands 1) (drop 2 operands)

-- the expected value is the operand below the new one
abbrev pub on_expected : Option ℕ → Width → List TypedValue → Option Asked
on_expected None width operands = None
on_expected (Some new) width operands =
    asked_with (λ expected. op.CmpXchg expected new) (number_at width operands 1) (number_at W32 operands 2) (drop 3 operands)

-- a store keeps the low bytes of its operand, and so does an update
abbrev pub asked : AccessKind → List TypedValue → Option Asked
asked (Read s) operands = on_address op.Read operands
asked (ReadSigned n) operands = on_address op.Read operands
asked (AtomicRead s) operands = on_address op.Read operands
asked (Write s) operands = on_value (width_of (storage_operand s)) (λ v. op.Write (low_part (storage_width s) v)) operands
asked (AtomicWrite s) operands = on_value (width_of (storage_operand s)) (λ v. op.Write (low_part (storage_width s) v)) operands
asked (Rmw u s) operands = on_value (width_of (storage_operand s)) (λ v. op.Rmw u (low_part (storage_width s) v)) operands
asked (CmpXchg ty) operands = on_expected (number_at (width_of ty) operands 0) (width_of ty) operands

-- the value read as an operand
abbrev pub extended : Signedness → Storage → ℕ → TypedValue
extended sign s read =
    typed (width_of (storage_operand s)) (extension_meaning sign (storage_width s) (width_of (storage_operand s)) read)

-- what an access leaves on the operands: a narrow load extends as its name states, an atomic one with zeros
abbrev pub loaded : AccessKind → ℕ → Option TypedValue
loaded (Read s) read = Some (extended Unsigned s read)
loaded (ReadSigned n) read = Some (extended Signed (narrow_storage n) read)
loaded (AtomicRead s) read = Some (extended Unsigned s read)
loaded (Write s) read = None
loaded (AtomicWrite s) read = None
loaded (Rmw u s) read = Some (extended Unsigned s read)
loaded (CmpXchg ty) read = Some (extended Unsigned (whole ty) read)

-- an atomic access at an address that isn't a multiple of its width
abbrev pub is_unaligned : AccessKind → ℕ → Bool
is_unaligned kind address = is_sequential (access_order kind) && not (address % bytes_of (access_width kind) == 0)

-- the access ends past the memory
abbrev pub is_outside : Module → AccessKind → ℕ → Bool
is_outside m kind address = nat_lt (memory_size m) (address + bytes_of (access_width kind))

-- why an access at an address traps, if it does
abbrev pub access_trap : Module → AccessKind → ℕ → Option TrapKind
access_trap m kind address =
    if is_unaligned kind address then Some Unaligned else if is_outside m kind address then Some OutOfBounds else None

-- the access that is made
abbrev pub op_at : AccessKind → OpKind → ℕ → OpFields
op_at kind asks address = record { kind = asks; order = access_order kind; address = address; width = access_width kind }
