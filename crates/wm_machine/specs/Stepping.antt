-- The contracts of the calls that make a step: for a call's frame, and for a thread.
use Rattle.std.specs.Prelude.{◌≡◌, ◌⊎◌, ◌++◌, ◌<◌, ℕ, List, [], Option, Some, None, Bool, true, false, Result, Ok, Err, ⊤, drop, length, is_some, option_map}
use Rattle.wm_num.specs.Conversion.{low_part}
use Rattle.wm_ast.specs.declared.access.Storage.{Storage}
use Rattle.wm_ast.specs.declared.module.Module.{Module}
use Rattle.wm_ast.specs.Access.{storage_operand, storage_width}
use Rattle.wm_ast.specs.Types.{width_of}
use Rattle.wm_event.specs.declared.log.End.{End}
use Rattle.wm_event.specs.declared.op.OpFields.{OpFields}
use Rattle.wm_machine.specs.declared.call_frame.CallFrame.{CallFrame}
use Rattle.wm_machine.specs.declared.call_frame.Flow.{Flow}
use Rattle.wm_machine.specs.declared.call_frame.StepOutcome.{StepOutcome}
use Rattle.wm_machine.specs.declared.call_frame.StepOutcome.TheVariants as outcome
use Rattle.wm_machine.specs.declared.fault.StartFault.{StartFault}
use Rattle.wm_machine.specs.declared.fault.StartFault.TheVariants.{OutOfMemory}
use Rattle.wm_machine.specs.declared.fault.StepFault.{StepFault}
use Rattle.wm_machine.specs.declared.thread.Need.{Need}
use Rattle.wm_machine.specs.declared.thread.Need.TheVariants as need
use Rattle.wm_machine.specs.declared.thread.Stepped.{Stepped}
use Rattle.wm_machine.specs.declared.thread.Stepped.TheVariants as stepped
use Rattle.wm_machine.specs.declared.value.TypedValue.{TypedValue}
use Rattle.wm_machine.specs.Functions.{continuation}
use Rattle.wm_machine.specs.Code.{FunctionCode}
use Rattle.wm_machine.specs.Inside.{StepsTo, asks_value, call_step, made_of, unanswered, waits}
use Rattle.wm_machine.specs.Local.{local_steps}
use Rattle.wm_machine.specs.Nest.{carried_top}
use Rattle.wm_machine.specs.Paths.{MovesOn}
use Rattle.wm_machine.specs.State.{State, config_of, need_of, value_or_zero}
use Rattle.wm_machine.specs.Step.{access_of, branch_to, next_config, push_optional, continue_with, step}
use Rattle.wm_machine.specs.Term.{Config, Stuck, Vars}
use Rattle.wm_machine.specs.Values.{number_at}

-- ---- a call's frame

-- the low bytes of the topmost operand that a store of this storage writes
abbrev pub low_operand_of : Storage → List TypedValue → Option ℕ
low_operand_of storage operands = option_map (low_part (storage_width storage)) (number_at (width_of (storage_operand storage)) operands 0)

-- the topmost operands replaced by a value, if there is one
abbrev pub replaced : ℕ → Option TypedValue → CallFrame → CallFrame
replaced popped pushed a =
    record a { control_stack = record a.control_stack { operands = push_optional pushed (drop popped a.control_stack.operands) } }

-- a branch to the instruction at this place continues at place `next` of its block, with the topmost operand if it
-- carries one
abbrev pub BranchContinuesAt : Module → ℕ → ℕ → ℕ → Bool → ℕ → Type 0
BranchContinuesAt m func block at carry next = (vars : Vars) → (operands values : List TypedValue) → (carry ≡ true → 0 < length values)
    → branch_to vars operands (continuation m func block at) values ≡ continue_with vars (carried_top carry values ++ operands) (continuation m func block next)

-- a branch that carries an operand is stuck without one
abbrev pub BranchNeedsOperand : Module → ℕ → ℕ → ℕ → Bool → Type 0
BranchNeedsOperand m func block at carry =
    (vars : Vars) → (operands : List TypedValue) → carry ≡ true → branch_to vars operands (continuation m func block at) [] ≡ Stuck

-- the instruction at this place is not the target of a branch
abbrev pub IsNoBranchTarget : Module → ℕ → ℕ → ℕ → Type 0
IsNoBranchTarget m func block at = (vars : Vars) → (operands values : List TypedValue) → branch_to vars operands (continuation m func block at) values ≡ Stuck

-- the step within the call, for any number of active calls, if its access reads the value given
abbrev pub StepsAs : Module → Option ℕ → CallFrame → List TypedValue → CallFrame → List TypedValue → Result Flow StepFault → Type 0
StepsAs m given old globals new globals' result =
    (depth : ℕ) → StepsTo m depth (call_step m (value_or_zero given) depth old globals) old globals new globals' result

-- the step waits exactly if it makes an access whose value isn't given
abbrev pub AsksForValue : Module → Option ℕ → CallFrame → List TypedValue → Result Flow StepFault → Type 0
AsksForValue m given old globals result = (depth read : ℕ) → asks_value result ≡ is_some (unanswered given (made_of (call_step m read depth old globals)))

-- ---- a thread

-- a thread of the module that is in this configuration
abbrev pub IsIn : Module → Result Config StartFault → State → Type 0
IsIn m config t = (config ≡ Ok (config_of t)) × (t.module ≡ m)

-- the fault of the start, or an allocation failed
abbrev pub IsStartFault : Result Config StartFault → StartFault → Type 0
IsStartFault config fault = (fault ≡ OutOfMemory) ⊎ (config ≡ Err fault)

-- this is the code of the thread's running call
abbrev pub IsRunningCode : FunctionCode → State → Type 0
IsRunningCode code t = code ≡ record { «module» = t.module; func = t.running.func }

-- the thread's step waits exactly if it makes an access whose value isn't given
abbrev pub WaitsForAccess : Option ℕ → State → StepOutcome → Type 0
WaitsForAccess given old o = (read : ℕ) → waits o ≡ is_some (unanswered given (access_of (step old.module read (config_of old))))

-- a step that doesn't wait was made, if its access reads the value given
abbrev pub MakesStep : Option ℕ → State → State → StepOutcome → Type 0
MakesStep given old new o = waits o ≡ false → next_config (step old.module (value_or_zero given) (config_of old)) ≡ Some (config_of new)

abbrev pub KeepsThread : State → State → StepOutcome → Type 0
KeepsThread old new o = waits o ≡ true → new ≡ old

-- a step with the value that its access reads, if it was made
abbrev pub IsStepWith : Option ℕ → State → State → StepOutcome → Type 0
IsStepWith given old new o = WaitsForAccess given old o × MakesStep given old new o × KeepsThread old new o × MovesOn old new o

-- the thread hasn't ended, and this is the code of its running call
abbrev pub RunsOn : FunctionCode → State → StepOutcome → Type 0
RunsOn code new o = o ≡ outcome.Made → (new.ended ≡ None) × IsRunningCode code new

-- after its last step the thread has ended
abbrev pub EndsAtLast : State → StepOutcome → Type 0
EndsAtLast new o = o ≡ outcome.Last → (end : End) × (new.ended ≡ Some end)

-- the thread needs this access's reply, and nothing has changed
abbrev pub NeedsAccess : State → State → Stepped → Type 0
NeedsAccess old new s = (op : OpFields) → s ≡ stepped.Access op → ((read : ℕ) → need_of read old ≡ need.Access op) × (new ≡ old)

-- the thread had ended this way, and nothing has changed
abbrev pub HasEnded : State → State → Stepped → Type 0
HasEnded old new s = (end : End) → s ≡ stepped.Ended end → ((read : ℕ) → need_of read old ≡ need.Ended end) × (new ≡ old)

-- there is a step, if the access reads this value
abbrev pub HasStep : State → ℕ → Type 0
HasStep t read = (c : Config) × (next_config (step t.module read (config_of t)) ≡ Some c)

-- the thread has made this number of steps, none of which makes an access
abbrev pub RunsLocally : ℕ → State → State → Type 0
RunsLocally count old new = local_steps old.module (config_of old) count ≡ Some (config_of new)

-- there is no next step, or it is an access
abbrev pub HasNoLocalStep : Need → Type 0
HasNoLocalStep need.Local = ⊥
HasNoLocalStep (need.Access op) = ⊤
HasNoLocalStep (need.Ended end) = ⊤
