-- The effect of an instruction that is decided and performed at once.
use Rattle.std.specs.Prelude.{ℕ, ◌+◌, ◌≡◌, List, Result, Ok, Err, Bool, true, false}
use Rattle.wm_ast.specs.declared.instr.Instr.{Instr}
use Rattle.wm_ast.specs.declared.instr.Instr.TheVariants as instr
use Rattle.wm_ast.specs.declared.module.Module.{Module}
use Rattle.wm_machine.specs.declared.call_frame.CallFrame.{CallFrame}
use Rattle.wm_machine.specs.declared.call_frame.Flow.{Flow}
use Rattle.wm_machine.specs.declared.call_frame.Flow.TheVariants.{Within, Trapped, Left, Calling, Asking}
use Rattle.wm_machine.specs.declared.fault.StepFault.{StepFault}
use Rattle.wm_machine.specs.declared.fault.StepFault.TheVariants.{Stuck as StuckFault, OutOfMemory}
use Rattle.wm_machine.specs.declared.value.TypedValue.{TypedValue}
use Rattle.wm_machine.specs.Inside.{vars_of}
use Rattle.wm_machine.specs.Step.{act, continue_with}
use Rattle.wm_machine.specs.Term.{Reduced, Stuck, Traps}

-- the instructions that are decided and performed at once
abbrev pub is_at_once : Instr → Bool
is_at_once (instr.LocalGet x) = true
is_at_once (instr.LocalSet x) = true
is_at_once (instr.LocalTee x) = true
is_at_once (instr.I32Const n) = true
is_at_once (instr.Eqz width) = true
is_at_once (instr.Compare op width) = true
is_at_once (instr.Binary op width) = true
is_at_once (instr.Br l) = true
is_at_once (instr.BrIf l) = true
is_at_once (instr.BrTable ls l) = true
is_at_once _ = false

-- the call at its next instruction, with these locals and operands
abbrev pub at_next : List TypedValue → List TypedValue → CallFrame → CallFrame
at_next locals operands a =
    record a { locals = locals; control_stack = record a.control_stack { operands = operands; at = a.control_stack.at + 1 } }

-- what was done, if r is the instruction's effect on the innermost place: the call is at its next instruction, or
-- traps, or no case applies; for want of memory nothing is done
abbrev pub Does : Reduced → List Instr → List TypedValue → CallFrame → CallFrame → Result Flow StepFault → Type 0
Does r rest globals old new (Ok Within) =
    (r ≡ continue_with (vars_of new globals) new.control_stack.operands rest)
    × (new ≡ at_next new.locals new.control_stack.operands old)
Does r rest globals old new (Ok (Trapped kind)) = r ≡ Traps kind
Does r rest globals old new (Ok (Left popped)) = ⊥
Does r rest globals old new (Ok (Calling callee)) = ⊥
Does r rest globals old new (Ok Asking) = ⊥
Does r rest globals old new (Err StuckFault) = (r ≡ Stuck) × (new ≡ old)
Does r rest globals old new (Err OutOfMemory) = new ≡ old

-- the effect of the call's next instruction, whatever comes after it; the globals stay as they are
abbrev pub HasEffect : Instr → CallFrame → CallFrame → Result Flow StepFault → Type 0
HasEffect i old new result = (m : Module) (depth read : ℕ) (globals : List TypedValue) (rest : List Instr)
    → Does (act m depth read old.func (vars_of old globals) old.control_stack.operands i rest) rest globals old new result
