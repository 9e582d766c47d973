-- A module that breaks a rule isn't valid.
use Rattle.std.proofs.Common.{◌≡◌, ℕ, inl, inr, List, Some, None, refl, sym, subst, ◌∙◌, arith}
use Rattle.std.specs.Prelude.{◌≢◌, All, slice_get}
use Rattle.std.proofs.lemmas.Option.{get_or_from_slice_get, none-some, slice_get_within}
use Rattle.wm_ast.specs.declared.module.Module.{Module}
use Rattle.wm_valid.specs.declared.fault.FaultKind.{FaultKind}
use Rattle.wm_valid.specs.declared.fault.FaultKind.TheVariants.{BadType, Index, Label, Alignment, DataOutOfRange, MemoryAbsent, MemoryLimits}
use Rattle.wm_valid.specs.declared.fault.Location.TheVariants as place
use Rattle.wm_valid.specs.declared.fault.ValidFault.{ValidFault}
use Rattle.wm_valid.specs.declared.fault.ValidFault.TheVariants.{At, OutOfMemory}
use Rattle.wm_valid.specs.Blame.{Breaks, BreaksModule, HasNoType, IsOutOfRange, SomeOf}
use Rattle.wm_valid.specs.Typing.{TypedFunc}
use Rattle.wm_valid.specs.Valid.{GoodData, GoodExport, GoodGlobal, HasMemory, IsConstant, Valid}
use Rattle.wm_ast.specs.declared.module.DataSegment.{DataSegment}
use Rattle.wm_ast.specs.declared.module.Func.{Func}
use Rattle.wm_ast.specs.declared.types.ValType.TheVariants as value

all_at : {X : Type 0} (P : X → Type 0) (xs : List X) (k : ℕ) (x : X) → All P xs → slice_get xs k ≡ Some x → P x
all_at P xs k x all is = subst P (get_or_from_slice_get xs k x x is) (all k x (slice_get_within xs k x is))

-- an item that isn't so, of a list whose items all are
none_of : {X : Type 0} (P Q : X → Type 0) (xs : List X) → All P xs → ((x : X) → P x → Q x → ⊥) → SomeOf xs Q → ⊥
none_of P Q xs all apart some = apart some.1 (all_at P xs some.0 some.1 all some.2) some.3

no_memory : (m : Module) → HasMemory m.memory → m.memory ≡ None → ⊥
no_memory m has is = subst HasMemory is has

no_type : (m : Module) (f : Func) → TypedFunc m f → HasNoType m f → ⊥
no_type m f typed none = none-some typed.type (sym none ∙ typed.is_type)

out_of_range : (m : Module) (d : DataSegment) → GoodData m d → IsOutOfRange m d → ⊥
out_of_range m d good bad = omega (arith, good.within, bad.past)

module_is_invalid : (m : Module) (kind : FaultKind) → BreaksModule m kind → Valid m → ⊥
module_is_invalid m BadType (inl some) valid = none_of GoodGlobal (λ g. GoodGlobal g → ⊥) m.globals valid.globals (λ g good bad. bad good) some
module_is_invalid m BadType (inr some) valid = none_of (GoodData m) (λ d. IsConstant value.I32 d.offset → ⊥) m.data valid.segments (λ d good bad. bad good.offset) some
module_is_invalid m Index (inl some) valid = none_of (TypedFunc m) (HasNoType m) m.funcs valid.funcs (no_type m) some
module_is_invalid m Index (inr some) valid = none_of (GoodExport m) (λ e. GoodExport m e → ⊥) m.exports valid.exports (λ e good bad. bad good) some
module_is_invalid m Label breaks valid = absurd breaks
module_is_invalid m Alignment breaks valid = absurd breaks
module_is_invalid m DataOutOfRange some valid = none_of (GoodData m) (IsOutOfRange m) m.data valid.segments (out_of_range m) some
module_is_invalid m MemoryAbsent breaks valid = none_of (GoodData m) (λ d. Unit {0}) m.data valid.segments (λ d good one. no_memory m good.memory breaks.0) breaks.1
module_is_invalid m MemoryLimits breaks valid = breaks valid.limits

pub is_invalid : (m : Module) (fault : ValidFault) → fault ≢ OutOfMemory → Breaks m fault → Valid m → ⊥
is_invalid m OutOfMemory no_want breaks valid = no_want refl
is_invalid m (At kind place.Module) no_want breaks valid = module_is_invalid m kind breaks valid
is_invalid m (At kind (place.Instr func n)) no_want breaks valid = breaks.2.untyped (all_at (TypedFunc m) m.funcs func breaks.0 valid.funcs breaks.1)
