-- The access that a step makes, seen from outside.
use Rattle.std.proofs.Common.{◌≡◌, ℕ, zero, suc, List, [], ◌∷◌, length, Option, Some, None, refl, sym, ap, ◌∙◌, Bool, true, false}
use Rattle.std.specs.Prelude.{if◌then◌else◌, is_some, nat_lt}
use Rattle.wm_ast.specs.declared.module.Module.{Module}
use Rattle.wm_ast.specs.declared.instr.Instr.{Instr}
use Rattle.wm_ast.specs.declared.instr.Instr.TheVariants.{Block, Loop, If}
use Rattle.wm_ast.specs.Module.{block_in}
use Rattle.wm_event.specs.declared.op.OpFields.{OpFields as Op}
use Rattle.wm_machine.specs.declared.value.TypedValue.{TypedValue}
use Rattle.wm_machine.specs.declared.call_frame.CallFrame.{CallFrame}
use Rattle.wm_machine.specs.declared.action.Action.{Action}
use Rattle.wm_machine.specs.declared.action.Action.TheVariants as action
use Rattle.wm_machine.specs.Functions.{Callable, callable, continuation}
use Rattle.wm_machine.specs.Term.{Vars, Here, Reduced, Next, Ends, Leaves, Returns, Traps, Stuck}
use Rattle.wm_machine.specs.Step.{reduce, act, step, access_of, out_of_label, out_of_call, out_of_thread, branch_to, gives, carried, returned, ended, enter, begin, invoke}
use Rattle.wm_machine.specs.Nest.{Position}
use Rattle.wm_machine.specs.Action.{does, op_of}
use Rattle.wm_machine.specs.Configuration.{left_of}
use Rattle.wm_machine.specs.Inside.{out_of_labels, call_step, vars_of, made_of, unanswered}
use Rattle.wm_machine.proofs.Lift.{labels_lift}
use Rattle.wm_machine.proofs.Calls.{out_of_calls, calls_lift, running_in}

pub made_gives : (vars : Vars) (operands : List TypedValue) (rest : List Instr) (o : Option (List TypedValue)) → made_of (gives vars operands rest o) ≡ None
made_gives vars operands rest None = refl
made_gives vars operands rest (Some v) = refl

made_branch_to : (vars : Vars) (operands values : List TypedValue) (instrs : List Instr) → made_of (branch_to vars operands instrs values) ≡ None
made_branch_to vars operands values (Loop t n ∷ rest) = refl
made_branch_to vars operands values (Block t n ∷ rest) = made_gives vars operands rest (carried t values)
made_branch_to vars operands values (If t a b e ∷ rest) = made_gives vars operands rest (carried t values)
made_branch_to vars operands values _ = refl

made_label : (vars : Vars) (operands : List TypedValue) (instrs : List Instr) (r : Reduced) → made_of (out_of_label vars operands instrs r) ≡ made_of r
made_label vars operands instrs (Next made l t) = refl
made_label vars operands instrs (Ends v) = refl
made_label vars operands instrs (Leaves zero v) = made_branch_to vars operands v instrs
made_label vars operands instrs (Leaves (suc l) v) = refl
made_label vars operands instrs (Returns v) = refl
made_label vars operands instrs (Traps k) = refl
made_label vars operands instrs Stuck = refl

pub made_labels : (m : Module) (func : ℕ) (vars : Vars) (ps : List Position) (r : Reduced) → made_of (out_of_labels m func vars ps r) ≡ made_of r
made_labels m func vars [] r = refl
made_labels m func vars (p ∷ ps) r = made_labels m func vars ps (out_of_label vars p.operands (continuation m func p.block p.at) r) ∙ made_label vars p.operands (continuation m func p.block p.at) r

made_call : (m : Module) (callee : ℕ) (vars : Vars) (operands : List TypedValue) (rest : List Instr) (r : Reduced) → made_of (out_of_call m callee vars operands rest r) ≡ made_of r
made_call m callee vars operands rest (Next made l t) = refl
made_call m callee vars operands rest (Ends v) = made_gives vars operands rest (returned m callee v)
made_call m callee vars operands rest (Leaves zero v) = made_gives vars operands rest (returned m callee v)
made_call m callee vars operands rest (Leaves (suc l) v) = refl
made_call m callee vars operands rest (Returns v) = made_gives vars operands rest (returned m callee v)
made_call m callee vars operands rest (Traps k) = refl
made_call m callee vars operands rest Stuck = refl

pub made_ended : (o : Option (List TypedValue)) → access_of (ended o) ≡ None
made_ended None = refl
made_ended (Some v) = refl

made_thread : (m : Module) (func : ℕ) (r : Reduced) → access_of (out_of_thread m func r) ≡ made_of r
made_thread m func (Next made l t) = refl
made_thread m func (Ends v) = made_ended (returned m func v)
made_thread m func (Leaves zero v) = made_ended (returned m func v)
made_thread m func (Leaves (suc l) v) = refl
made_thread m func (Returns v) = made_ended (returned m func v)
made_thread m func (Traps k) = refl
made_thread m func Stuck = refl

made_calls : (m : Module) (globals : List TypedValue) (cs : List CallFrame) (func : ℕ) (r : Reduced) → access_of (out_of_calls m globals cs func r) ≡ made_of r
made_calls m globals [] func r = made_thread m func r
made_calls m globals (c ∷ cs) func r =
    let vars = vars_of c globals in
    let x = out_of_call m func vars c.control_stack.operands (continuation m c.func c.control_stack.block c.control_stack.at) r in
    made_calls m globals cs c.func (out_of_labels m c.func vars c.control_stack.outer x)
    ∙ made_labels m c.func vars c.control_stack.outer x
    ∙ made_call m func vars c.control_stack.operands (continuation m c.func c.control_stack.block c.control_stack.at) r

made_if : (b : Bool) (x y : Reduced) → made_of x ≡ None → made_of y ≡ None → made_of (if b then x else y) ≡ None
made_if true x y p q = p
made_if false x y p q = q

made_invoke : (o : Option Callable) (depth callee : ℕ) (vars : Vars) (operands : List TypedValue) (rest : List Instr) → made_of (invoke o depth callee vars operands rest) ≡ None
made_invoke None depth callee vars operands rest = refl
made_invoke (Some f) depth callee vars operands rest =
    made_if (nat_lt depth 256) (begin f callee vars operands rest) _ (made_if (nat_lt (length operands) (length f.params)) _ _ refl refl) refl

made_enter : (o : Option (List Instr)) (vars : Vars) (operands : List TypedValue) (instrs : List Instr) → made_of (enter o vars operands instrs) ≡ None
made_enter None vars operands instrs = refl
made_enter (Some b) vars operands instrs = refl

pub made_does : (m : Module) (depth read func : ℕ) (vars : Vars) (operands : List TypedValue) (instrs : List Instr) (action : Action) → made_of (does m depth read func vars operands instrs action) ≡ op_of action
made_does m depth read func vars operands instrs action.Stuck = refl
made_does m depth read func vars operands instrs (action.Trap k) = refl
made_does m depth read func vars operands instrs (action.Replace n v) = refl
made_does m depth read func vars operands instrs (action.SetGlobal x v) = refl
made_does m depth read func vars operands instrs (action.Access op kind n) = refl
made_does m depth read func vars operands instrs (action.Enter b n) = made_enter (block_in m.funcs func b) vars _ instrs
made_does m depth read func vars operands instrs action.Return = refl
made_does m depth read func vars operands instrs (action.Call f) = made_invoke (callable m f) depth f vars operands _

pub unanswered_none : (given : Option ℕ) → unanswered given None ≡ None
unanswered_none None = refl
unanswered_none (Some value) = refl

-- a thread's step makes the access of its innermost call
pub made_step : (m : Module) (read : ℕ) (globals : List TypedValue) (cs : List CallFrame) (a : CallFrame) → access_of (step m read (running_in m globals cs a)) ≡ made_of (call_step m read (suc (length cs)) a globals)
made_step m read globals cs a = ap access_of (calls_lift m read cs a.func (vars_of a globals) (left_of m a.func a.control_stack)) ∙ made_calls m globals cs a.func (call_step m read (suc (length cs)) a globals)

-- a thread's step waits exactly if its innermost call's does
pub waits_as : (m : Module) (read : ℕ) (globals : List TypedValue) (cs : List CallFrame) (a : CallFrame) (given : Option ℕ) (asks : Bool) → asks ≡ is_some (unanswered given (made_of (call_step m read (suc (length cs)) a globals))) → asks ≡ is_some (unanswered given (access_of (step m read (running_in m globals cs a))))
waits_as m read globals cs a given asks h = h ∙ ap (λ (o : Option Op). is_some (unanswered given o)) (sym (made_step m read globals cs a))

pub made_at_end : (m : Module) (read depth : ℕ) (a : CallFrame) (globals : List TypedValue) → continuation m a.func a.control_stack.block a.control_stack.at ≡ [] → made_of (call_step m read depth a globals) ≡ None
made_at_end m read depth a globals h =
    let vars = vars_of a globals in
    let here = Here a.control_stack.operands (continuation m a.func a.control_stack.block a.control_stack.at) in
    ap made_of (labels_lift m read depth a.func vars a.control_stack.outer here)
    ∙ made_labels m a.func vars a.control_stack.outer (reduce m read depth a.func vars here)
    ∙ ap (λ (i : List Instr). made_of (reduce m read depth a.func vars (Here a.control_stack.operands i))) h

pub made_first : (m : Module) (read depth : ℕ) (a : CallFrame) (globals : List TypedValue) (i : Instr) (rest : List Instr) → continuation m a.func a.control_stack.block a.control_stack.at ≡ i ∷ rest → made_of (call_step m read depth a globals) ≡ made_of (act m depth read a.func (vars_of a globals) a.control_stack.operands i rest)
made_first m read depth a globals i rest h =
    let vars = vars_of a globals in
    let here = Here a.control_stack.operands (continuation m a.func a.control_stack.block a.control_stack.at) in
    ap made_of (labels_lift m read depth a.func vars a.control_stack.outer here)
    ∙ made_labels m a.func vars a.control_stack.outer (reduce m read depth a.func vars here)
    ∙ ap (λ (is : List Instr). made_of (reduce m read depth a.func vars (Here a.control_stack.operands is))) h
