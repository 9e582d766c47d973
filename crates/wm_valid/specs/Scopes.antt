-- The context of an instruction in a function, with the labels around it.
use Rattle.std.specs.Prelude.{ℕ, ◌≡◌, ◌⊎◌, ◌∷◌, [], Some, None, slice_get}
use Rattle.wm_ast.specs.declared.module.Module.{Module}
use Rattle.wm_ast.specs.declared.module.Func.{Func}
use Rattle.wm_ast.specs.declared.types.FuncType.{FuncType}
use Rattle.wm_valid.specs.InstrTypes.{Context, Labels}
use Rattle.wm_valid.specs.Typing.{context}

pub record Scope : Type 0 where
  pub context : Context
  pub labels : Labels

-- the function at this number, in its body: its result is the type of the only label
pub record IsBodyOf (m : Module) (k : ℕ) (s : Scope) : Type 0 where
  pub func : Func
  pub type : FuncType
  pub is_func : slice_get m.funcs k ≡ Some func
  pub is_type : slice_get m.types func.type_index ≡ Some type
  pub is_context : s.context ≡ context m func type
  pub is_label : s.labels ≡ type.result ∷ []

-- there is no function at this number, or its type doesn't exist
abbrev pub HasNoType : Module → ℕ → Type 0
HasNoType m k = (slice_get m.funcs k ≡ None) ⊎ ((f : Func) × (slice_get m.funcs k ≡ Some f) × (slice_get m.types f.type_index ≡ None))
