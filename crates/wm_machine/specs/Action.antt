-- The effect of a step, decided from its operands.
use Rattle.std.specs.Prelude.{ℕ, ◌<◌, List, ◌∷◌, ◌≡◌, Option, Some, None, slice_get, slice_set, drop, length, ⊤}
use Rattle.wm_ast.specs.declared.module.Module.{Module}
use Rattle.wm_ast.specs.declared.instr.Instr.{Instr}
use Rattle.wm_ast.specs.declared.instr.Instr.TheVariants as instr
use Rattle.wm_ast.specs.Module.{block_in}
use Rattle.wm_event.specs.declared.op.OpFields.{OpFields as Op}
use Rattle.wm_machine.specs.declared.value.TypedValue.{TypedValue}
use Rattle.wm_machine.specs.declared.action.Action.{Action}
use Rattle.wm_machine.specs.declared.action.Action.TheVariants as action
use Rattle.wm_machine.specs.Functions.{callable}
use Rattle.wm_machine.specs.Accesses.{loaded}
use Rattle.wm_machine.specs.Term.{Vars, Here, Reduced, Next, Returns, Traps, Stuck}
use Rattle.wm_machine.specs.Step.{continue_with, after, enter, invoke, push_optional, act}

-- the effect of the action on the innermost place
abbrev pub does : Module → ℕ → ℕ → ℕ → Vars → List TypedValue → List Instr → Action → Reduced
does m depth read func vars operands instrs action.Stuck = Stuck
does m depth read func vars operands instrs (action.Trap kind) = Traps kind
does m depth read func vars operands instrs (action.Replace popped pushed) =
    continue_with vars (push_optional pushed (drop popped operands)) (after instrs)
does m depth read func vars operands instrs (action.SetGlobal x v) =
    continue_with (record vars { globals = slice_set vars.globals x v }) (drop 1 operands) (after instrs)
does m depth read func vars operands instrs (action.Access op kind popped) =
    Next (Some op) vars (Here (push_optional (loaded kind read) (drop popped operands)) (after instrs))
does m depth read func vars operands instrs (action.Enter block popped) =
    enter (block_in m.funcs func block) vars (drop popped operands) instrs
does m depth read func vars operands instrs action.Return = Returns operands
does m depth read func vars operands instrs (action.Call callee) =
    invoke (callable m callee) depth callee vars operands (after instrs)

-- how many operands an action pops
abbrev pub popped_by : Action → ℕ
popped_by action.Stuck = 0
popped_by (action.Trap kind) = 0
popped_by (action.Replace popped pushed) = popped
popped_by (action.SetGlobal x v) = 1
popped_by (action.Access op kind popped) = popped
popped_by (action.Enter block popped) = popped
popped_by action.Return = 0
popped_by (action.Call callee) = 0

-- a global that is set exists
abbrev pub SetsWithin : Action → List TypedValue → Type 0
SetsWithin action.Stuck globals = ⊤
SetsWithin (action.Trap kind) globals = ⊤
SetsWithin (action.Replace popped pushed) globals = ⊤
SetsWithin (action.SetGlobal x v) globals = x < length globals
SetsWithin (action.Access op kind popped) globals = ⊤
SetsWithin (action.Enter block popped) globals = ⊤
SetsWithin action.Return globals = ⊤
SetsWithin (action.Call callee) globals = ⊤

-- no global is set
abbrev pub SetsNothing : Action → Type 0
SetsNothing action.Stuck = ⊤
SetsNothing (action.Trap kind) = ⊤
SetsNothing (action.Replace popped pushed) = ⊤
SetsNothing (action.SetGlobal x v) = ⊥
SetsNothing (action.Access op kind popped) = ⊤
SetsNothing (action.Enter block popped) = ⊤
SetsNothing action.Return = ⊤
SetsNothing (action.Call callee) = ⊤

-- the access of an action
abbrev pub op_of : Action → Option Op
op_of (action.Access op kind popped) = Some op
op_of action.Stuck = None
op_of (action.Trap kind) = None
op_of (action.Replace popped pushed) = None
op_of (action.SetGlobal x v) = None
op_of (action.Enter block popped) = None
op_of action.Return = None
op_of (action.Call callee) = None

-- the action has the effect of the instruction
abbrev pub Acts : Module → Instr → Vars → List TypedValue → Action → Type 0
Acts m i vars operands a = (depth : ℕ) (read : ℕ) (func : ℕ) (rest : List Instr) →
    act m depth read func vars operands i rest ≡ does m depth read func vars operands (i ∷ rest) a

-- it pushes this value, if the value is the global's, and there is one
abbrev pub GetsGlobal : Option TypedValue → Action → Type 0
GetsGlobal value a = (m : Module) (index : ℕ) (locals globals operands : List TypedValue)
    → value ≡ slice_get globals index → Acts m (instr.GlobalGet index) (record { locals = locals; globals = globals }) operands a

-- it sets one of these globals
abbrev pub SetsGlobal : ℕ → List TypedValue → List TypedValue → Action → Type 0
SetsGlobal index globals operands a = (m : Module) (locals : List TypedValue)
    → Acts m (instr.GlobalSet index) (record { locals = locals; globals = globals }) operands a
