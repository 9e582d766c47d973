-- Locals of which only those that were set are held, in the order in which they were first set.
use Rattle.std.specs.Prelude.{ℕ, List, [], ◌∷◌, ◌≡◌, ◌≢◌, Option, Some, None, slice_get, option_and_then, ◌==◌, if◌then◌else◌, suc}
use Rattle.wm_ast.specs.declared.types.ValType.{ValType}
use Rattle.wm_machine.specs.declared.sparse_locals.Kept.{Kept}
use Rattle.wm_machine.specs.declared.value.TypedValue.{TypedValue}
use Rattle.wm_machine.specs.Values.{zero_of}

-- the entry at a local's slot
abbrev pub found : List ℕ → List Kept → ℕ → Option Kept
found slots held index = option_and_then (slice_get held) (slice_get slots index)

-- the value of a local: the entry found if it is this local's, otherwise zero
abbrev pub value_of : ℕ → ValType → Option Kept → TypedValue
value_of index ty None = zero_of ty
value_of index ty (Some kept) = if kept.index == index then kept.value else zero_of ty

-- the locals from this index on
abbrev pub locals_from : List ℕ → List Kept → ℕ → List ValType → List TypedValue
locals_from slots held index [] = []
locals_from slots held index (ty ∷ types) = value_of index ty (found slots held index) ∷ locals_from slots held (suc index) types

-- one local now has this value, and the others are as they were
pub record Sets (slots : List ℕ) (held : List Kept) (index : ℕ) (value : TypedValue) (places_now : List ℕ) (held_now : List Kept) : Type 0 where
  pub set : (ty : ValType) → value_of index ty (found places_now held_now index) ≡ value
  pub others : (other : ℕ) → (ty : ValType) → other ≢ index → value_of other ty (found places_now held_now other) ≡ value_of other ty (found slots held other)
