-- A step of the innermost call, seen from the calls round it.
use Rattle.std.proofs.Common.{◌≡◌, ℕ, zero, suc, ◌+◌, List, [], ◌∷◌, ◌++◌, length, Option, Some, None, refl, sym, ap, ◌∙◌}
use Rattle.std.specs.Prelude.{drop, Ok, Err}
use Rattle.wm_machine.specs.declared.call_frame.Invocation.TheVariants.{Entered, TooDeep}
use Rattle.wm_ast.specs.declared.module.Module.{Module}
use Rattle.wm_ast.specs.declared.types.FuncType.{FuncType}
use Rattle.wm_ast.specs.declared.types.ValType.{ValType}
use Rattle.wm_event.specs.declared.op.OpFields.{OpFields}
use Rattle.wm_event.specs.declared.log.TrapKind.{TrapKind}
use Rattle.wm_event.specs.declared.log.TrapKind.TheVariants.{Exhausted}
use Rattle.wm_event.specs.declared.log.End.TheVariants.{Trap, Done}
use Rattle.wm_machine.specs.declared.value.TypedValue.{TypedValue}
use Rattle.wm_machine.specs.declared.call_frame.CallFrame.{CallFrame}
use Rattle.wm_machine.specs.declared.call_frame.Flow.TheVariants.{Within, Trapped}
use Rattle.wm_machine.specs.declared.fault.StepFault.{StepFault}
use Rattle.wm_machine.specs.declared.fault.StepFault.TheVariants.{Stuck as StuckFault, OutOfMemory}
use Rattle.wm_ast.specs.Module.{func_type}
use Rattle.wm_machine.specs.Functions.{callable, continuation}
use Rattle.wm_machine.specs.Term.{Vars, Term, Here, Frame, Config, Over, Reduced, Next, Ends, Leaves, Returns, Traps, Stuck, Step, ReducesTo, NoStep}
use Rattle.wm_machine.specs.Step.{reduce, step, next_config, out_of_call, out_of_thread, returned, carried, carried_by, gives, result_of}
use Rattle.wm_machine.specs.Configuration.{around, left_of, waiting, under}
use Rattle.wm_machine.specs.Inside.{out_of_labels, seen, back, Reaches, Refuses, Same, call_step, as_list, ReturnsTo, Called, param_count, vars_of}
use Rattle.wm_machine.proofs.Lift.{labels_lift, labels_next, labels_traps, labels_stuck}

-- out of the calls round a call
abbrev pub out_of_calls : Module → List TypedValue → List CallFrame → ℕ → Reduced → Step
out_of_calls m globals [] func r = out_of_thread m func r
out_of_calls m globals (c ∷ cs) func r =
    out_of_calls m globals cs c.func (out_of_labels m c.func (vars_of c globals) c.control_stack.outer
    (out_of_call m func (vars_of c globals) c.control_stack.operands (continuation m c.func c.control_stack.block c.control_stack.at) r))

module _ (m : Module) (read : ℕ) where
  pub calls_lift : (cs : List CallFrame) (func : ℕ) (vars : Vars) (t : Term) → step m read (under m cs func vars t) ≡ out_of_calls m vars.globals cs func (reduce m read (suc (length cs)) func vars t)
  calls_lift [] func vars t = refl
  calls_lift (c ∷ cs) func vars t =
      calls_lift cs c.func (vars_of c vars.globals) (waiting m c func vars.locals t)
      ∙ ap (out_of_calls m vars.globals cs c.func) (labels_lift m read (suc (length cs)) c.func (vars_of c vars.globals) c.control_stack.outer (Frame c.control_stack.operands (continuation m c.func c.control_stack.block c.control_stack.at) func vars.locals t))

module _ (m : Module) where
  pub calls_next : (globals : List TypedValue) (cs : List CallFrame) (func : ℕ) (vars : Vars) (made : Option OpFields) (t : Term) → out_of_calls m globals cs func (Next made vars t) ≡ ReducesTo made (under m cs func vars t)
  calls_next globals [] func vars made t = refl
  calls_next globals (c ∷ cs) func vars made t =
      ap (out_of_calls m globals cs c.func) (labels_next m 0 c.func (vars_of c globals) (vars_of c vars.globals) made c.control_stack.outer (Frame c.control_stack.operands (continuation m c.func c.control_stack.block c.control_stack.at) func vars.locals t))
      ∙ calls_next globals cs c.func (vars_of c vars.globals) made (waiting m c func vars.locals t)

  pub calls_stuck : (globals : List TypedValue) (cs : List CallFrame) (func : ℕ) → out_of_calls m globals cs func Stuck ≡ NoStep
  calls_stuck globals [] func = refl
  calls_stuck globals (c ∷ cs) func =
      ap (out_of_calls m globals cs c.func) (labels_stuck m 0 c.func (vars_of c globals) c.control_stack.outer) ∙ calls_stuck globals cs c.func

  pub calls_traps : (globals : List TypedValue) (cs : List CallFrame) (func : ℕ) (kind : TrapKind) → out_of_calls m globals cs func (Traps kind) ≡ ReducesTo None (Over (Trap kind))
  calls_traps globals [] func kind = refl
  calls_traps globals (c ∷ cs) func kind =
      ap (out_of_calls m globals cs c.func) (labels_traps m 0 c.func (vars_of c globals) kind c.control_stack.outer) ∙ calls_traps globals cs c.func kind

carried_again : (t : Option ValType) (ws vs : List TypedValue) → carried t ws ≡ Some vs → carried t vs ≡ Some vs
carried_again None ws vs h = h
carried_again (Some t) [] vs h = cc
carried_again (Some t) (w ∷ ws) vs h = let e : w ∷ [] ≡ vs = cc in ap (λ (xs : List TypedValue). carried (Some t) xs) (sym e) ∙ h

returned_again : (f : Option FuncType) (ws vs : List TypedValue) → carried_by f ws ≡ Some vs → carried_by f vs ≡ Some vs
returned_again None ws vs h = cc
returned_again (Some f) ws vs h = carried_again f.result ws vs h

-- what leaves a call looks alike from outside, whichever way it leaves it
module _ (m : Module) (globals : List TypedValue) where
  back_alike : (cs : List CallFrame) (func : ℕ) (ws : List TypedValue) (o : Option (List TypedValue)) → returned m func ws ≡ o → next_config (out_of_calls m globals cs func (Returns ws)) ≡ next_config (out_of_calls m globals cs func (back o))
  back_alike [] func ws None h = rw h refl
  back_alike [] func ws (Some vs) h = rw (h, returned_again (func_type m func) ws vs h) refl
  back_alike (c ∷ cs) func ws None h = rw h refl
  back_alike (c ∷ cs) func ws (Some vs) h = rw (h, returned_again (func_type m func) ws vs h) refl

  pub calls_seen : (cs : List CallFrame) (func : ℕ) (r : Reduced) → next_config (out_of_calls m globals cs func r) ≡ next_config (out_of_calls m globals cs func (seen m func r))
  calls_seen cs func (Next made vars t) = ap next_config (calls_next m globals cs func vars made t) ∙ sym (ap next_config (calls_next m globals cs func vars None t))
  calls_seen cs func (Traps kind) = refl
  calls_seen cs func Stuck = refl
  calls_seen [] func (Ends ws) = back_alike [] func ws (returned m func ws) refl
  calls_seen (c ∷ cs) func (Ends ws) = back_alike (c ∷ cs) func ws (returned m func ws) refl
  calls_seen [] func (Leaves zero ws) = back_alike [] func ws (returned m func ws) refl
  calls_seen (c ∷ cs) func (Leaves zero ws) = back_alike (c ∷ cs) func ws (returned m func ws) refl
  calls_seen [] func (Leaves (suc l) ws) = refl
  calls_seen (c ∷ cs) func (Leaves (suc l) ws) = refl
  calls_seen cs func (Returns ws) = back_alike cs func ws (returned m func ws) refl

-- the configuration of calls that run
abbrev pub running_in : Module → List TypedValue → List CallFrame → CallFrame → Config
running_in m globals cs a = under m cs a.func (vars_of a globals) (left_of m a.func a.control_stack)

-- a thread's step, by what becomes of its innermost call
module _ (m : Module) (read : ℕ) (globals : List TypedValue) (cs : List CallFrame) (a : CallFrame) where
  pub thread_seen : next_config (step m read (running_in m globals cs a)) ≡ next_config (out_of_calls m globals cs a.func (seen m a.func (call_step m read (suc (length cs)) a globals)))
  thread_seen = ap next_config (calls_lift m read cs a.func (vars_of a globals) (left_of m a.func a.control_stack)) ∙ calls_seen m globals cs a.func (call_step m read (suc (length cs)) a globals)

  pub thread_within : (new : CallFrame) (globals' : List TypedValue) → Reaches m (suc (length cs)) (call_step m read (suc (length cs)) a globals) a globals new globals' Within → next_config (step m read (running_in m globals cs a)) ≡ Some (running_in m globals' cs new)
  thread_within new globals' h =
      thread_seen ∙ ap (λ (r : Reduced). next_config (out_of_calls m globals cs a.func r)) h.0
      ∙ ap next_config (calls_next m globals cs a.func (vars_of new globals') None (left_of m new.func new.control_stack))
      ∙ ap (λ (f : ℕ). Some (under m cs f (vars_of new globals') (left_of m new.func new.control_stack))) (sym h.1)

  pub thread_trapped : (kind : TrapKind) (new : CallFrame) (globals' : List TypedValue) → Reaches m (suc (length cs)) (call_step m read (suc (length cs)) a globals) a globals new globals' (Trapped kind) → next_config (step m read (running_in m globals cs a)) ≡ Some (Over (Trap kind))
  thread_trapped kind new globals' h =
      thread_seen ∙ ap (λ (r : Reduced). next_config (out_of_calls m globals cs a.func r)) h ∙ ap next_config (calls_traps m globals cs a.func kind)

  pub thread_stuck : (new : CallFrame) (globals' : List TypedValue) → Refuses m (call_step m read (suc (length cs)) a globals) a globals new globals' StuckFault → next_config (step m read (running_in m globals cs a)) ≡ None
  thread_stuck new globals' h =
      thread_seen ∙ ap (λ (r : Reduced). next_config (out_of_calls m globals cs a.func r)) h.0 ∙ ap next_config (calls_stuck m globals cs a.func)

module _ (m : Module) (func : ℕ) where
  back_returns : (o : Option (List TypedValue)) (ws vs : List TypedValue) → returned m func ws ≡ o → back o ≡ Returns vs → returned m func vs ≡ Some vs
  back_returns None ws vs e h = cc
  back_returns (Some us) ws vs e h =
      let q : us ≡ vs = cc in
      let r : returned m func us ≡ Some us = returned_again (func_type m func) ws us e in
      ap (returned m func) (sym q) ∙ r ∙ ap Some q

  seen_returns : (r : Reduced) (vs : List TypedValue) → seen m func r ≡ Returns vs → returned m func vs ≡ Some vs
  seen_returns (Next made vars t) vs h = cc
  seen_returns (Ends ws) vs h = back_returns (returned m func ws) ws vs refl h
  seen_returns (Leaves zero ws) vs h = back_returns (returned m func ws) ws vs refl h
  seen_returns (Leaves (suc l) ws) vs h = cc
  seen_returns (Returns ws) vs h = back_returns (returned m func ws) ws vs refl h
  seen_returns (Traps kind) vs h = cc
  seen_returns Stuck vs h = cc

module _ (m : Module) (read : ℕ) (globals : List TypedValue) (a : CallFrame) (v : Option TypedValue) where
  -- the end of the function that was started
  pub thread_done : (cs : List CallFrame) → cs ≡ [] → seen m a.func (call_step m read (suc (length cs)) a globals) ≡ Returns (as_list v) → next_config (step m read (running_in m globals cs a)) ≡ Some (Over (Done (result_of (as_list v))))
  thread_done [] q h =
      let e = seen_returns m a.func (call_step m read 1 a globals) (as_list v) h in
      thread_seen m read globals [] a ∙ ap (λ (r : Reduced). next_config (out_of_calls m globals [] a.func r)) h ∙ rw e refl
  thread_done (c ∷ cs) q h = absurd (let k : c ∷ cs ≡ [] = q in cc)

  -- back to a caller
  pub thread_back : (cs : List CallFrame) (new : CallFrame) (rest : List CallFrame) → ReturnsTo v cs new rest → seen m a.func (call_step m read (suc (length cs)) a globals) ≡ Returns (as_list v) → next_config (step m read (running_in m globals cs a)) ≡ Some (running_in m globals rest new)
  thread_back [] new rest g h = absurd g
  thread_back (b ∷ bs) new rest g h =
      let e = seen_returns m a.func (call_step m read (suc (length (b ∷ bs))) a globals) (as_list v) h in
      let here = Here (as_list v ++ b.control_stack.operands) (continuation m b.func b.control_stack.block b.control_stack.at) in
      let e1 = ap (λ (o : Option (List TypedValue)). next_config (out_of_calls m globals bs b.func (out_of_labels m b.func (vars_of b globals) b.control_stack.outer (gives (vars_of b globals) b.control_stack.operands (continuation m b.func b.control_stack.block b.control_stack.at) o)))) e in
      let e2 = ap (λ (r : Reduced). next_config (out_of_calls m globals bs b.func r)) (labels_next m 0 b.func (vars_of b globals) (vars_of b globals) None b.control_stack.outer here) in
      let e3 = ap next_config (calls_next m globals bs b.func (vars_of b globals) None (around m b.func b.control_stack.outer here)) in
      thread_seen m read globals (b ∷ bs) a ∙ ap (λ (r : Reduced). next_config (out_of_calls m globals (b ∷ bs) a.func r)) h ∙ e1 ∙ e2 ∙ e3
      ∙ ap (λ (n : CallFrame). Some (running_in m globals bs n)) (sym g.0)
      ∙ ap (λ (cs : List CallFrame). Some (running_in m globals cs new)) (sym g.1)

pub refuses_same : (m : Module) (r : Reduced) (old : CallFrame) (globals : List TypedValue) (new : CallFrame) (globals' : List TypedValue) (fault : StepFault) → Refuses m r old globals new globals' fault → Same old globals new globals'
refuses_same m r old globals new globals' StuckFault h = h.1
refuses_same m r old globals new globals' OutOfMemory h = h

-- a call, by what it makes of the caller's place
module _ (m : Module) (read : ℕ) (globals : List TypedValue) (cs : List CallFrame) (a : CallFrame) (d callee : ℕ) (dq : d ≡ suc (length cs)) where
  at_depth : next_config (step m read (running_in m globals cs a)) ≡ next_config (out_of_calls m globals cs a.func (call_step m read d a globals))
  at_depth = ap next_config (calls_lift m read cs a.func (vars_of a globals) (left_of m a.func a.control_stack)) ∙ ap (λ (k : ℕ). next_config (out_of_calls m globals cs a.func (call_step m read k a globals))) (sym dq)

  abbrev pub Calls : Reduced → Type 0
  Calls r = call_step m read d a globals ≡ out_of_labels m a.func (vars_of a globals) a.control_stack.outer r

  pub thread_called : (r : Reduced) (new : CallFrame) (cs' : List CallFrame) → Calls r → Called m callee r a globals cs new cs' (Ok Entered) → next_config (step m read (running_in m globals cs a)) ≡ Some (running_in m globals cs' new)
  thread_called r new cs' h g =
      let k = param_count (callable m callee) in
      let t = Frame (drop k a.control_stack.operands) (continuation m a.func a.control_stack.block (a.control_stack.at + 1)) new.func new.locals (left_of m new.func new.control_stack) in
      let e1 = h ∙ ap (out_of_labels m a.func (vars_of a globals) a.control_stack.outer) g.1 ∙ labels_next m 0 a.func (vars_of a globals) (vars_of a globals) None a.control_stack.outer t in
      at_depth ∙ ap (λ (x : Reduced). next_config (out_of_calls m globals cs a.func x)) e1
      ∙ ap next_config (calls_next m globals cs a.func (vars_of a globals) None (around m a.func a.control_stack.outer t))
      ∙ ap (λ (xs : List CallFrame). Some (running_in m globals xs new)) (sym g.0)

  pub thread_exhausted : (r : Reduced) (new : CallFrame) (cs' : List CallFrame) → Calls r → Called m callee r a globals cs new cs' (Ok TooDeep) → next_config (step m read (running_in m globals cs a)) ≡ Some (Over (Trap Exhausted))
  thread_exhausted r new cs' h g =
      let e1 = h ∙ ap (out_of_labels m a.func (vars_of a globals) a.control_stack.outer) g.0 ∙ labels_traps m 0 a.func (vars_of a globals) Exhausted a.control_stack.outer in
      at_depth ∙ ap (λ (x : Reduced). next_config (out_of_calls m globals cs a.func x)) e1 ∙ ap next_config (calls_traps m globals cs a.func Exhausted)

  pub thread_uncalled : (r : Reduced) (new : CallFrame) (cs' : List CallFrame) → Calls r → Called m callee r a globals cs new cs' (Err StuckFault) → next_config (step m read (running_in m globals cs a)) ≡ None
  thread_uncalled r new cs' h g =
      let e1 = h ∙ ap (out_of_labels m a.func (vars_of a globals) a.control_stack.outer) g.0 ∙ labels_stuck m 0 a.func (vars_of a globals) a.control_stack.outer in
      at_depth ∙ ap (λ (x : Reduced). next_config (out_of_calls m globals cs a.func x)) e1 ∙ ap next_config (calls_stuck m globals cs a.func)

pub called_same : (m : Module) (callee : ℕ) (r : Reduced) (old : CallFrame) (globals : List TypedValue) (new : CallFrame) (cs cs' : List CallFrame) (fault : StepFault) → Called m callee r old globals cs new cs' (Err fault) → (new ≡ old) × (cs' ≡ cs)
called_same m callee r old globals new cs cs' StuckFault h = (h.1, h.2)
called_same m callee r old globals new cs cs' OutOfMemory h = h
