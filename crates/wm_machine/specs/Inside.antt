-- A step inside one call, whatever the surrounding calls.
use Rattle.std.specs.Prelude.{ℕ, zero, suc, Bool, true, false, ◌+◌, ◌<◌, ◌^◌, ◌≡◌, List, [], ◌∷◌, ◌++◌, Option, Some, None, Result, Ok, Err, length, drop, take, reverse, map}
use Rattle.wm_ast.specs.declared.module.Module.{Module}
use Rattle.wm_ast.specs.declared.types.ValType.{ValType}
use Rattle.wm_ast.specs.declared.instr.Instr.{Instr}
use Rattle.wm_event.specs.declared.op.OpFields.{OpFields}
use Rattle.wm_event.specs.declared.log.TrapKind.TheVariants.{Exhausted}
use Rattle.wm_machine.specs.declared.value.TypedValue.{TypedValue}
use Rattle.wm_machine.specs.declared.call_frame.CallFrame.{CallFrame}
use Rattle.wm_machine.specs.declared.call_frame.Invocation.{Invocation}
use Rattle.wm_machine.specs.declared.call_frame.Invocation.TheVariants.{Entered, TooDeep}
use Rattle.wm_machine.specs.declared.call_frame.StepOutcome.{StepOutcome}
use Rattle.wm_machine.specs.declared.call_frame.StepOutcome.TheVariants as outcome
use Rattle.wm_machine.specs.declared.call_frame.Flow.{Flow}
use Rattle.wm_machine.specs.declared.call_frame.Flow.TheVariants.{Within, Trapped, Left, Calling, Asking}
use Rattle.wm_machine.specs.declared.fault.StepFault.{StepFault}
use Rattle.wm_machine.specs.declared.fault.StepFault.TheVariants.{Stuck as StuckFault, OutOfMemory}
use Rattle.wm_machine.specs.Functions.{Callable, callable, continuation}
use Rattle.wm_machine.specs.Term.{Vars, Frame, Reduced, Next, Ends, Leaves, Returns, Traps, Stuck}
use Rattle.wm_machine.specs.Step.{act, reduce, returned, invoke, out_of_label}
use Rattle.wm_machine.specs.Nest.{Position, at_begin}
use Rattle.wm_machine.specs.Values.{zero_of}
use Rattle.wm_machine.specs.Configuration.{left_of}

-- the variables that a call sees
abbrev pub vars_of : CallFrame → List TypedValue → Vars
vars_of a globals = record { locals = a.locals; globals = globals }

-- what a function returns, or no step
abbrev pub back : Option (List TypedValue) → Reduced
back None = Stuck
back (Some values) = Returns values

-- how a step looks from outside the call: without the access that was made, and with what is returned for each way to
-- leave the function
abbrev pub seen : Module → ℕ → Reduced → Reduced
seen m func (Next made vars t) = Next None vars t
seen m func (Ends values) = back (returned m func values)
seen m func (Leaves zero values) = back (returned m func values)
seen m func (Leaves (suc l) values) = Stuck
seen m func (Returns values) = back (returned m func values)
seen m func (Traps kind) = Traps kind
seen m func Stuck = Stuck

abbrev pub as_list : Option TypedValue → List TypedValue
as_list None = []
as_list (Some v) = v ∷ []

-- out of the enclosing labels of a place
abbrev pub out_of_labels : Module → ℕ → Vars → List Position → Reduced → Reduced
out_of_labels m func vars [] r = r
out_of_labels m func vars (p ∷ ps) r =
    out_of_labels m func vars ps (out_of_label vars p.operands (continuation m func p.block p.at) r)

-- the access of a step within a call
abbrev pub made_of : Reduced → Option OpFields
made_of (Next made vars t) = made
made_of (Ends values) = None
made_of (Leaves l values) = None
made_of (Returns values) = None
made_of (Traps kind) = None
made_of Stuck = None

-- the access that an instruction makes with these operands, whichever call it is in, whatever it reads and whatever
-- comes after
abbrev pub AsksFor : Module → List TypedValue → Instr → Option OpFields → Type 0
AsksFor m operands instr op = (depth read func : ℕ) (vars : Vars) (rest : List Instr) → made_of (act m depth read func vars operands instr rest) ≡ op

-- a call and the globals are unchanged
abbrev pub Same : CallFrame → List TypedValue → CallFrame → List TypedValue → Type 0
Same old globals new globals' = (new ≡ old) × (globals' ≡ globals)

-- how far a step inside a call has come, where r is its result for that call's term
abbrev pub Reaches : Module → ℕ → Reduced → CallFrame → List TypedValue → CallFrame → List TypedValue → Flow → Type 0
Reaches m depth r old globals new globals' Within =
    (seen m old.func r ≡ Next None (vars_of new globals') (left_of m new.func new.control_stack)) × (new.func ≡ old.func)
Reaches m depth r old globals new globals' (Trapped kind) = seen m old.func r ≡ Traps kind
Reaches m depth r old globals new globals' (Left popped) =
    (seen m old.func r ≡ back (returned m old.func (drop popped old.control_stack.operands))) × Same old globals new globals'
Reaches m depth r old globals new globals' (Calling callee) =
    (r ≡ out_of_labels m old.func (vars_of old globals) old.control_stack.outer
    (invoke (callable m callee) depth callee (vars_of old globals) old.control_stack.operands (continuation m old.func old.control_stack.block (old.control_stack.at + 1))))
    × Same old globals new globals' × (old.control_stack.at + 1 < 2 ^ 64)
Reaches m depth r old globals new globals' Asking = Same old globals new globals'

abbrev pub Refuses : Module → Reduced → CallFrame → List TypedValue → CallFrame → List TypedValue → StepFault → Type 0
Refuses m r old globals new globals' StuckFault = (seen m old.func r ≡ Stuck) × Same old globals new globals'
Refuses m r old globals new globals' OutOfMemory = Same old globals new globals'

abbrev pub StepsTo : Module → ℕ → Reduced → CallFrame → List TypedValue → CallFrame → List TypedValue → Result Flow StepFault → Type 0
StepsTo m depth r old globals new globals' (Ok reached) = Reaches m depth r old globals new globals' reached
StepsTo m depth r old globals new globals' (Err fault) = Refuses m r old globals new globals' fault

-- whether a step waits for the value that its access reads
abbrev pub asks_value : Result Flow StepFault → Bool
asks_value (Ok Asking) = true
asks_value (Ok Within) = false
asks_value (Ok (Trapped kind)) = false
asks_value (Ok (Left popped)) = false
asks_value (Ok (Calling callee)) = false
asks_value (Err fault) = false

abbrev pub waits : StepOutcome → Bool
waits outcome.Made = false
waits outcome.Last = false
waits outcome.NeedsReply = true

-- an access waits if the value that it reads isn't given
abbrev pub unanswered : Option ℕ → Option OpFields → Option OpFields
unanswered None op = op
unanswered (Some value) op = None

-- one step of a call's term
abbrev pub call_step : Module → ℕ → ℕ → CallFrame → List TypedValue → Reduced
call_step m read depth a globals = reduce m read depth a.func (vars_of a globals) (left_of m a.func a.control_stack)

-- back to the first of the call_stack, with a value on its operands
abbrev pub ReturnsTo : Option TypedValue → List CallFrame → CallFrame → List CallFrame → Type 0
ReturnsTo value [] new rest = ⊥
ReturnsTo value (a ∷ call_stack) new rest =
    (new ≡ record a { control_stack = record a.control_stack { operands = as_list value ++ a.control_stack.operands } }) × (rest ≡ call_stack)

abbrev pub param_count : Option Callable → ℕ
param_count None = 0
param_count (Some f) = length f.params

-- the caller after its arguments were popped
abbrev pub without_arguments : ℕ → CallFrame → CallFrame
without_arguments count a = record a { control_stack = record a.control_stack { operands = drop count a.control_stack.operands; at = a.control_stack.at + 1 } }

-- a call of a function with the topmost operands of its caller as arguments, and zeros of these types as its other locals
abbrev pub called_frame : ℕ → ℕ → CallFrame → List ValType → CallFrame
called_frame func count caller others = record {
  func = func;
  locals = reverse (take count caller.control_stack.operands) ++ map zero_of others;
  control_stack = at_begin 0;
}

-- from r, the result of a call at the caller's place, to the calls after it
abbrev pub Called : Module → ℕ → Reduced → CallFrame → List TypedValue → List CallFrame → CallFrame → List CallFrame → Result Invocation StepFault → Type 0
Called m callee r old globals call_stack new callers' (Ok Entered) =
    (callers' ≡ without_arguments (param_count (callable m callee)) old ∷ call_stack)
    × (r ≡ Next None (vars_of old globals) (Frame (drop (param_count (callable m callee)) old.control_stack.operands) (continuation m old.func old.control_stack.block (old.control_stack.at + 1)) new.func new.locals (left_of m new.func new.control_stack)))
Called m callee r old globals call_stack new callers' (Ok TooDeep) = (r ≡ Traps Exhausted) × (new ≡ old) × (callers' ≡ call_stack)
Called m callee r old globals call_stack new callers' (Err StuckFault) = (r ≡ Stuck) × (new ≡ old) × (callers' ≡ call_stack)
Called m callee r old globals call_stack new callers' (Err OutOfMemory) = (new ≡ old) × (callers' ≡ call_stack)
