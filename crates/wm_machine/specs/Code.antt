-- The code of a function.
use Rattle.std.specs.Prelude.{ℕ, ◌≡◌, ◌+◌, List, ◌∷◌, slice_get}
use Rattle.wm_ast.specs.declared.module.Module.{Module}
use Rattle.wm_ast.specs.declared.instr.Instr.{Instr}
use Rattle.wm_ast.specs.Module.{block_in}
use Rattle.wm_machine.specs.Functions.{continuation}

-- a function of a module, by its index
pub record FunctionCode : Type 0 where
  pub «module» : Module
  pub func : ℕ

-- these are the blocks of a function; a function that isn't there has none
abbrev pub AreBlocks : Module → ℕ → List (List Instr) → Type 0
AreBlocks m func blocks = (number : ℕ) → slice_get blocks number ≡ block_in m.funcs func number

-- the instruction is at this place of a block
abbrev pub IsInstrAt : FunctionCode → ℕ → ℕ → Instr → Type 0
IsInstrAt code block at i =
    continuation code.module code.func block at ≡ i ∷ continuation code.module code.func block (at + 1)
