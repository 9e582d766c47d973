-- An access that is typed finds its operands, and leaves what its type states.
use Rattle.std.proofs.Common.{◌≡◌, ℕ, List, ◌∷◌, drop, Option, Some, refl, sym, ap, ◌∙◌}
use Rattle.std.specs.Prelude.{slice_get}
use Rattle.wm_num.specs.declared.operator.Width.TheVariants.{W32}
use Rattle.wm_num.specs.declared.sign.Signedness.{Signedness}
use Rattle.wm_num.specs.declared.sign.Signedness.TheVariants.{Signed, Unsigned}
use Rattle.wm_num.specs.Conversion.{low_part, extension_meaning}
use Rattle.wm_ast.specs.declared.types.ValType.{ValType}
use Rattle.wm_ast.specs.declared.types.ValType.TheVariants as value
use Rattle.wm_ast.specs.declared.access.Storage.{Storage}
use Rattle.wm_ast.specs.declared.access.AccessKind.{AccessKind}
use Rattle.wm_ast.specs.declared.access.AccessKind.TheVariants.{Read, ReadSigned, Write, AtomicRead, AtomicWrite, Rmw, CmpXchg}
use Rattle.wm_ast.specs.Access.{storage_operand, storage_width, narrow_storage, whole}
use Rattle.wm_ast.specs.Types.{width_of}
use Rattle.wm_event.specs.declared.op.OpKind.{OpKind}
use Rattle.wm_event.specs.declared.op.OpKind.TheVariants as op
use Rattle.wm_valid.specs.InstrTypes.{access_type}
use Rattle.wm_valid.specs.Typing.{Makes}
use Rattle.wm_machine.specs.declared.value.TypedValue.{TypedValue}
use Rattle.wm_machine.specs.Values.{number_at}
use Rattle.wm_machine.specs.Accesses.{Asked, asked_at, asked_with, on_address, on_value, on_expected, asked, extended, loaded}
use Rattle.wm_machine.specs.Step.{push_optional}
use Rattle.wm_machine.specs.Fits.{val_type, types_of}
use Rattle.wm_machine.proofs.TypeLists.{number_there, number_as, dropped, over, typed_as}

address_there : (kind : OpKind) (vs : List TypedValue) (ts : List ValType) → types_of vs ≡ value.I32 ∷ ts → (a : Asked) × (on_address kind vs ≡ Some a) × (types_of a.below ≡ ts)
address_there kind vs ts e =
    let n = number_there W32 vs 0 (ap (λ (l : List ValType). slice_get l 0) e) in
    (record { kind = kind; base = n.0; below = drop 1 vs }, ap (λ (o : Option ℕ). asked_at kind o (drop 1 vs)) n.1, dropped 1 vs _ e)

stored_there : (t : ValType) (kind : ℕ → OpKind) (vs : List TypedValue) (ts : List ValType) → types_of vs ≡ t ∷ value.I32 ∷ ts → (a : Asked) × (on_value (width_of t) kind vs ≡ Some a) × (types_of a.below ≡ ts)
stored_there t kind vs ts e =
    let v = number_as t vs 0 (ap (λ (l : List ValType). slice_get l 0) e) in
    let n = number_there W32 vs 1 (ap (λ (l : List ValType). slice_get l 1) e) in (
      record { kind = kind v.0; base = n.0; below = drop 2 vs },
      ap (λ (o : Option ℕ). asked_with kind o (number_at W32 vs 1) (drop 2 vs)) v.1 ∙ ap (λ (o : Option ℕ). asked_at (kind v.0) o (drop 2 vs)) n.1,
      dropped 2 vs _ e,
    )

expected_there : (t : ValType) (vs : List TypedValue) (ts : List ValType) → types_of vs ≡ t ∷ t ∷ value.I32 ∷ ts → (a : Asked) × (on_expected (number_at (width_of t) vs 0) (width_of t) vs ≡ Some a) × (types_of a.below ≡ ts)
expected_there t vs ts e =
    let new = number_as t vs 0 (ap (λ (l : List ValType). slice_get l 0) e) in
    let old = number_as t vs 1 (ap (λ (l : List ValType). slice_get l 1) e) in
    let n = number_there W32 vs 2 (ap (λ (l : List ValType). slice_get l 2) e) in (
      record { kind = op.CmpXchg old.0 new.0; base = n.0; below = drop 3 vs },
      ap (λ (o : Option ℕ). on_expected o (width_of t) vs) new.1
          ∙ ap (λ (o : Option ℕ). asked_with (λ expected. op.CmpXchg expected new.0) o (number_at W32 vs 2) (drop 3 vs)) old.1
          ∙ ap (λ (o : Option ℕ). asked_at (op.CmpXchg old.0 new.0) o (drop 3 vs)) n.1,
      dropped 3 vs _ e,
    )

extended_as : (sign : Signedness) (s : Storage) (read : ℕ) → val_type (extended sign s read) ≡ storage_operand s
extended_as sign s read = typed_as (storage_operand s) (extension_meaning sign (storage_width s) (width_of (storage_operand s)) read)

pub asked_there : (kind : AccessKind) (vs : List TypedValue) (us : List ValType) (read : ℕ) → Makes (access_type kind) (types_of vs) us → (a : Asked) × (asked kind vs ≡ Some a) × (us ≡ types_of (push_optional (loaded kind read) a.below))
asked_there (Read s) vs us read h =
    let a = address_there op.Read vs h.0 h.1 in
    (a.0, a.1, over us h.0 (storage_operand s) (extended Unsigned s read) a.0.below h.2 (extended_as Unsigned s read) a.2)
asked_there (ReadSigned n) vs us read h =
    let a = address_there op.Read vs h.0 h.1 in
    (a.0, a.1, over us h.0 (storage_operand (narrow_storage n)) (extended Signed (narrow_storage n) read) a.0.below h.2 (extended_as Signed (narrow_storage n) read) a.2)
asked_there (AtomicRead s) vs us read h =
    let a = address_there op.Read vs h.0 h.1 in
    (a.0, a.1, over us h.0 (storage_operand s) (extended Unsigned s read) a.0.below h.2 (extended_as Unsigned s read) a.2)
asked_there (Write s) vs us read h =
    let a = stored_there (storage_operand s) (λ v. op.Write (low_part (storage_width s) v)) vs h.0 h.1 in
    (a.0, a.1, h.2 ∙ sym a.2)
asked_there (AtomicWrite s) vs us read h =
    let a = stored_there (storage_operand s) (λ v. op.Write (low_part (storage_width s) v)) vs h.0 h.1 in
    (a.0, a.1, h.2 ∙ sym a.2)
asked_there (Rmw u s) vs us read h =
    let a = stored_there (storage_operand s) (λ v. op.Rmw u (low_part (storage_width s) v)) vs h.0 h.1 in
    (a.0, a.1, over us h.0 (storage_operand s) (extended Unsigned s read) a.0.below h.2 (extended_as Unsigned s read) a.2)
asked_there (CmpXchg value.I32) vs us read h =
    let a = expected_there value.I32 vs h.0 h.1 in
    (a.0, a.1, over us h.0 value.I32 (extended Unsigned (whole value.I32) read) a.0.below h.2 refl a.2)
asked_there (CmpXchg value.I64) vs us read h =
    let a = expected_there value.I64 vs h.0 h.1 in
    (a.0, a.1, over us h.0 value.I64 (extended Unsigned (whole value.I64) read) a.0.below h.2 refl a.2)
