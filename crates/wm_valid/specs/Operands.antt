-- What the types of instructions mean, as the validator has them.
use Rattle.std.specs.Prelude.{List, [], ◌∷◌, reverse}
use Rattle.wm_ast.specs.declared.types.ValType.{ValType}
use Rattle.wm_valid.specs.InstrTypes.{InstrType, maps, drops, selects, stack_polymorphic, listed}
use Rattle.wm_valid.specs.declared.instr_types.Operands.{Operands}
use Rattle.wm_valid.specs.declared.instr_types.Operands.TheVariants.{Nothing, One, Two, Three, Params}
use Rattle.wm_valid.specs.declared.instr_types.InstrType.{InstrType as Stored}
use Rattle.wm_valid.specs.declared.instr_types.InstrType.TheVariants.{Maps, Drops, Selects, StackPolymorphic}

-- the operands from the top
abbrev pub operands_of : Operands → List ValType
operands_of Nothing = []
operands_of (One t) = t ∷ []
operands_of (Two t u) = u ∷ t ∷ []
operands_of (Three t u v) = v ∷ u ∷ t ∷ []
operands_of (Params params) = reverse params.now

abbrev pub meaning : Stored → InstrType
meaning (Maps takes gives) = maps (operands_of takes) (listed gives)
meaning Drops = drops
meaning Selects = selects
meaning (StackPolymorphic takes) = stack_polymorphic (operands_of takes)
