-- The effects of the parts of a step within a call, whatever the surrounding calls.
use Rattle.std.specs.Prelude.{ℕ, ◌+◌, ◌≡◌, List, ◌∷◌, Result, drop}
use Rattle.wm_ast.specs.declared.instr.Instr.{Instr}
use Rattle.wm_ast.specs.declared.module.Module.{Module}
use Rattle.wm_machine.specs.declared.action.Action.{Action}
use Rattle.wm_machine.specs.declared.call_frame.CallFrame.{CallFrame}
use Rattle.wm_machine.specs.declared.call_frame.Invocation.{Invocation}
use Rattle.wm_machine.specs.declared.call_frame.Flow.{Flow}
use Rattle.wm_machine.specs.declared.fault.StepFault.{StepFault}
use Rattle.wm_machine.specs.declared.value.TypedValue.{TypedValue}
use Rattle.wm_machine.specs.Action.{does}
use Rattle.wm_machine.specs.Functions.{callable, continuation}
use Rattle.wm_machine.specs.Inside.{Called, StepsTo, out_of_labels, vars_of}
use Rattle.wm_machine.specs.Step.{invoke}
use Rattle.wm_machine.specs.Term.{Leaves}

-- the instruction is the call's next one
abbrev pub StandsAt : Module → CallFrame → Instr → Type 0
StandsAt m a i = continuation m a.func a.control_stack.block a.control_stack.at ≡ i ∷ continuation m a.func a.control_stack.block (a.control_stack.at + 1)

-- the action of the call's next instruction, inside the enclosing labels
abbrev pub Performs : Module → ℕ → Action → CallFrame → List TypedValue → CallFrame → List TypedValue → Result Flow StepFault → Type 0
Performs m read action old globals new globals' result =
    (depth : ℕ) → (i : Instr) → continuation m old.func old.control_stack.block old.control_stack.at ≡ i ∷ continuation m old.func old.control_stack.block (old.control_stack.at + 1)
    → StepsTo m depth
    (out_of_labels m old.func (vars_of old globals) old.control_stack.outer
    (does m depth read old.func (vars_of old globals) old.control_stack.operands (continuation m old.func old.control_stack.block old.control_stack.at) action))
    old globals new globals' result

-- the way out of this number of labels, with the operands below the topmost ones
abbrev pub Branches : Module → ℕ → ℕ → CallFrame → CallFrame → Result Flow StepFault → Type 0
Branches m label popped old new result =
    (depth : ℕ) → (globals : List TypedValue)
    → StepsTo m depth (out_of_labels m old.func (vars_of old globals) old.control_stack.outer (Leaves label (drop popped old.control_stack.operands))) old globals new globals result

-- a call of a function while this number of calls is active
abbrev pub Calls : Module → ℕ → CallFrame → List CallFrame → CallFrame → List CallFrame → ℕ → Result Invocation StepFault → Type 0
Calls m callee old call_stack new callers' depth result =
    (globals : List TypedValue)
    → Called m callee
    (invoke (callable m callee) depth callee (vars_of old globals) old.control_stack.operands (continuation m old.func old.control_stack.block (old.control_stack.at + 1)))
    old globals call_stack new callers' result
