-- A thread that makes an access is at an instruction.
use Rattle.std.proofs.Common.{◌≡◌, ℕ, zero, suc, ◌<◌, ◌≤◌, List, [], ◌∷◌, length, get_or, Option, Some, None, refl, sym, ap, ◌∙◌, slice_get, ⊎_elim}
use Rattle.std.specs.Prelude.{option_and_then}
use Rattle.std.proofs.lemmas.List.{drop_all}
use Rattle.std.proofs.lemmas.Option.{none-some, slice_get_cases}
use Rattle.wm_ast.specs.declared.instr.Instr.{Instr}
use Rattle.wm_ast.specs.declared.instr.Instr.TheVariants.{Block, Loop, If}
use Rattle.wm_ast.specs.declared.module.Func.{Func}
use Rattle.wm_ast.specs.declared.module.Module.{Module}
use Rattle.wm_event.specs.declared.log.End.{End}
use Rattle.wm_event.specs.declared.op.OpFields.{OpFields}
use Rattle.wm_machine.specs.declared.call_frame.CallFrame.{CallFrame}
use Rattle.wm_machine.specs.declared.value.TypedValue.{TypedValue}
use Rattle.wm_machine.specs.Configuration.{around, under, waiting}
use Rattle.wm_machine.specs.Functions.{continuation, from_place}
use Rattle.wm_machine.specs.Inside.{made_of}
use Rattle.wm_machine.specs.Nest.{Position}
use Rattle.wm_machine.specs.declared.place.Place.{Place}
use Rattle.wm_machine.specs.Places.{next_or_end}
use Rattle.wm_machine.specs.State.{State, config_from, config_of, position_in, position_of}
use Rattle.wm_machine.specs.Step.{access_of, branch_to, out_of_call, out_of_label, out_of_thread, reduce, returned, step}
use Rattle.wm_machine.proofs.Made.{made_ended, made_gives}
use Rattle.wm_machine.specs.Term.{Vars, Term, Here, Label, Frame, Reduced, Next, Ends, Leaves, Returns, Traps, Stuck}

-- ---- no access without an instruction

-- a step of the term makes no access
abbrev IsSilent : Module → Term → Type 0
IsSilent m t = (read depth func : ℕ) (vars : Vars) → made_of (reduce m read depth func vars t) ≡ None

branch_none : (vars : Vars) (operands : List TypedValue) (instrs : List Instr) (values : List TypedValue) → made_of (branch_to vars operands instrs values) ≡ None
branch_none vars operands [] values = refl
branch_none vars operands (Loop ty n ∷ rest) values = refl
branch_none vars operands (Block ty n ∷ rest) values = made_gives vars operands rest _
branch_none vars operands (If ty first other part ∷ rest) values = made_gives vars operands rest _
branch_none vars operands (_ ∷ rest) values = refl

label_none : (vars : Vars) (operands : List TypedValue) (instrs : List Instr) (r : Reduced) → made_of r ≡ None → made_of (out_of_label vars operands instrs r) ≡ None
label_none vars operands instrs (Next made mine inner) none = none
label_none vars operands instrs (Ends values) none = refl
label_none vars operands instrs (Leaves zero values) none = branch_none vars operands instrs values
label_none vars operands instrs (Leaves (suc l) values) none = refl
label_none vars operands instrs (Returns values) none = refl
label_none vars operands instrs (Traps kind) none = refl
label_none vars operands instrs Stuck none = refl

call_none : (m : Module) (callee : ℕ) (vars : Vars) (operands : List TypedValue) (rest : List Instr) (r : Reduced) → made_of r ≡ None → made_of (out_of_call m callee vars operands rest r) ≡ None
call_none m callee vars operands rest (Next made mine inner) none = none
call_none m callee vars operands rest (Ends values) none = made_gives vars operands rest (returned m callee values)
call_none m callee vars operands rest (Leaves zero values) none = made_gives vars operands rest (returned m callee values)
call_none m callee vars operands rest (Leaves (suc l) values) none = refl
call_none m callee vars operands rest (Returns values) none = made_gives vars operands rest (returned m callee values)
call_none m callee vars operands rest (Traps kind) none = refl
call_none m callee vars operands rest Stuck none = refl

thread_none : (m : Module) (func : ℕ) (r : Reduced) → made_of r ≡ None → access_of (out_of_thread m func r) ≡ None
thread_none m func (Next made vars body) none = none
thread_none m func (Ends values) none = made_ended (returned m func values)
thread_none m func (Leaves zero values) none = made_ended (returned m func values)
thread_none m func (Leaves (suc l) values) none = refl
thread_none m func (Returns values) none = made_ended (returned m func values)
thread_none m func (Traps kind) none = refl
thread_none m func Stuck none = refl

module _ (m code : Module) where
  silent_around : (func : ℕ) (outer : List Position) (t : Term) → IsSilent m t → IsSilent m (around code func outer t)
  silent_around func [] t silent = silent
  silent_around func (p ∷ outer) t silent =
      silent_around func outer (Label p.operands (continuation code func p.block p.at) t)
      (λ read depth own vars. label_none vars p.operands (continuation code func p.block p.at) (reduce m read depth own vars t) (silent read depth own vars))

  silent_under : (calls : List CallFrame) (func : ℕ) (vars : Vars) (t : Term) → IsSilent m t → (read : ℕ) → access_of (step m read (under code calls func vars t)) ≡ None
  silent_under [] func vars t silent read = thread_none m func (reduce m read 1 func vars t) (silent read 1 func vars)
  silent_under (c ∷ calls) func vars t silent read =
      let rest = continuation code c.func c.control_stack.block c.control_stack.at in
      silent_under calls c.func (record vars { locals = c.locals }) (waiting code c func vars.locals t)
      (silent_around c.func c.control_stack.outer (Frame c.control_stack.operands rest func vars.locals t)
      (λ again depth own mine. call_none m func mine c.control_stack.operands rest (reduce m again (suc depth) func (record mine { locals = vars.locals }) t) (silent again (suc depth) func (record mine { locals = vars.locals })))) read

-- a thread with no instruction at its position makes no access
silent_state : (m : Module) (s : State) → continuation s.module s.running.func s.running.control_stack.block s.running.control_stack.at ≡ [] → (read : ℕ) → access_of (step m read (config_of s)) ≡ None
silent_state m s no_instr read = by s.ended
  where
    here : IsSilent m (Here s.running.control_stack.operands (continuation s.module s.running.func s.running.control_stack.block s.running.control_stack.at))
    here again depth own vars = ap (λ (is : List Instr). made_of (reduce m again depth own vars (Here s.running.control_stack.operands is))) no_instr

    by : (end : Option End) → access_of (step m read (config_from end s)) ≡ None
    by None = silent_under m s.module s.call_stack s.running.func _ _ (silent_around m s.module s.running.func s.running.control_stack.outer _ here) read
    by (Some end) = refl

-- ---- an instruction at a position

-- the module has an instruction at this position
pub record HasInstr (m : Module) (f block at : ℕ) : Type 0 where
  pub func : Func
  pub is_func : slice_get m.funcs f ≡ Some func
  pub instrs : List Instr
  pub is_block : slice_get func.blocks block ≡ Some instrs
  pub before : at < length instrs

in_block : (m : Module) (f block at : ℕ) (func : Func) → slice_get m.funcs f ≡ Some func → (from_place (slice_get func.blocks block) at ≡ [] → ⊥) → HasInstr m f block at
in_block m f block at func is_func some = ⊎_elim
    (λ (there : (instrs : List Instr) × (block < length func.blocks) × (slice_get func.blocks block ≡ Some instrs) × (get_or func.blocks block instrs ≡ instrs)).
    ⊎_elim
    (λ (i : (x : Instr) × (at < length there.0) × (slice_get there.0 at ≡ Some x) × (get_or there.0 at x ≡ x)). record { func = func; is_func = is_func; instrs = there.0; is_block = there.2; before = i.1 })
    (λ (past : (length there.0 ≤ at) × (slice_get there.0 at ≡ None)). absurd (some (ap (λ (o : Option (List Instr)). from_place o at) there.2 ∙ drop_all at there.0 past.0)))
    (slice_get_cases there.0 at).1)
    (λ (past : (length func.blocks ≤ block) × (slice_get func.blocks block ≡ None)). absurd (some (ap (λ (o : Option (List Instr)). from_place o at) past.1)))
    (slice_get_cases func.blocks block).1

in_module : (m : Module) (f block at : ℕ) → (continuation m f block at ≡ [] → ⊥) → HasInstr m f block at
in_module m f block at some = ⊎_elim
    (λ (there : (func : Func) × (f < length m.funcs) × (slice_get m.funcs f ≡ Some func) × (get_or m.funcs f func ≡ func)).
    in_block m f block at there.0 there.2 (λ none. some (ap (λ (o : Option Func). from_place (option_and_then (λ (x : Func). slice_get x.blocks block) o) at) there.2 ∙ none)))
    (λ (past : (length m.funcs ≤ f) × (slice_get m.funcs f ≡ None)). absurd (some (ap (λ (o : Option Func). from_place (option_and_then (λ (x : Func). slice_get x.blocks block) o) at) past.1)))
    (slice_get_cases m.funcs f).1

-- a thread that makes an access is at an instruction of its module
pub accesses_at : (m : Module) (s : State) (read : ℕ) (op : OpFields) → access_of (step m read (config_of s)) ≡ Some op
    → HasInstr s.module s.running.func s.running.control_stack.block s.running.control_stack.at
accesses_at m s read op makes =
    in_module s.module s.running.func s.running.control_stack.block s.running.control_stack.at (λ none. none-some op (sym (silent_state m s none read) ∙ makes))

next_is : (m : Module) (f : ℕ) (instrs : List Instr) (outer : List Position) (place : Place) → (instrs ≡ [] → ⊥) → next_or_end m f instrs outer place ≡ place
next_is m f [] outer place some = absurd (some refl)
next_is m f (i ∷ rest) outer place some = refl

-- and its position is that of the instruction
pub stands_at : (m : Module) (s : State) (read : ℕ) (op : OpFields) → access_of (step m read (config_of s)) ≡ Some op
    → position_of s ≡ record { func = s.running.func; block = s.running.control_stack.block; at = s.running.control_stack.at }
stands_at m s read op makes =
    ap (position_in s.running.func)
    (next_is s.module s.running.func (continuation s.module s.running.func s.running.control_stack.block s.running.control_stack.at) s.running.control_stack.outer record { block = s.running.control_stack.block; at = s.running.control_stack.at }
    (λ none. none-some op (sym (silent_state m s none read) ∙ makes)))
