-- What is left of a call, as a term of values, instructions, nested labels and frames (Core 1.0, section 4.2.12).
-- Operands are listed from the top.
use Rattle.std.specs.Prelude.{ℕ, List, Option}
use Rattle.wm_ast.specs.declared.instr.Instr.{Instr}
use Rattle.wm_event.specs.declared.log.End.{End}
use Rattle.wm_event.specs.declared.log.TrapKind.{TrapKind}
use Rattle.wm_event.specs.declared.op.OpFields.{OpFields}
use Rattle.wm_machine.specs.declared.value.TypedValue.{TypedValue}

-- the locals of a call and the globals of its thread
pub record Vars : Type 0 where
  pub locals : List TypedValue
  pub globals : List TypedValue

pub data Term : Type 0 where
  -- the innermost place: its operands, and the remaining instructions
  Here : (operands : List TypedValue) (instrs : List Instr) → Term
  -- inside a block: the first of the instructions is the block, loop or if that was entered
  Label : (operands : List TypedValue) (instrs : List Instr) (inner : Term) → Term
  -- inside a call of func, which has these locals; the instructions come after the call
  Frame : (operands : List TypedValue) (instrs : List Instr) (func : ℕ) (locals : List TypedValue) (inner : Term) → Term

-- A thread: the function that was started with its variables and its remaining term, or an end.
pub data Config : Type 0 where
  Running : (func : ℕ) (vars : Vars) (body : Term) → Config
  Over : End → Config

-- The result of one step of a term's innermost place.
pub data Reduced : Type 0 where
  -- it continues as this term, after an access if there was one
  Next : (made : Option OpFields) (vars : Vars) (term : Term) → Reduced
  -- it is at its end
  Ends : (operands : List TypedValue) → Reduced
  -- it branches out of this number of further labels
  Leaves : (labels : ℕ) (operands : List TypedValue) → Reduced
  -- it returns from its function
  Returns : (operands : List TypedValue) → Reduced
  Traps : TrapKind → Reduced
  -- no case applies
  Stuck : Reduced

-- A step of a thread.
pub data Step : Type 0 where
  ReducesTo : (made : Option OpFields) (after : Config) → Step
  NoStep : Step
