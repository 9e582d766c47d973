-- What the configuration of a thread tells of its calls.
use Rattle.std.proofs.Common.{◌≡◌, ℕ, suc, ◌+◌, List, [], ◌∷◌, length, Option, Some, None, refl, sym, ap, ◌∙◌, arith}
use Rattle.wm_ast.specs.declared.module.Module.{Module}
use Rattle.wm_event.specs.declared.log.End.{End}
use Rattle.wm_machine.specs.declared.call_frame.CallFrame.{CallFrame}
use Rattle.wm_machine.specs.declared.value.TypedValue.{TypedValue}
use Rattle.wm_machine.specs.Configuration.{around, left_of, under, waiting}
use Rattle.wm_machine.specs.Functions.{continuation}
use Rattle.wm_machine.specs.Inside.{vars_of}
use Rattle.wm_machine.specs.Nest.{Position}
use Rattle.wm_machine.specs.State.{State, config_from, config_of}
use Rattle.wm_machine.specs.Term.{Config, Running, Over, Term, Here, Label, Frame, Vars}

-- how many calls wait in a term
abbrev depth_in : Term → ℕ
depth_in (Here operands instrs) = 0
depth_in (Label operands instrs inner) = depth_in inner
depth_in (Frame operands instrs func locals inner) = suc (depth_in inner)

-- the function of its innermost call
abbrev func_in : ℕ → Term → ℕ
func_in func (Here operands instrs) = func
func_in func (Label operands instrs inner) = func_in func inner
func_in func (Frame operands instrs callee locals inner) = func_in callee inner

-- the operands of its innermost block
abbrev operands_in : Term → List TypedValue
operands_in (Here operands instrs) = operands
operands_in (Label operands instrs inner) = operands_in inner
operands_in (Frame operands instrs func locals inner) = operands_in inner

abbrev pub depth_of : Config → ℕ
depth_of (Running func vars body) = depth_in body
depth_of (Over end) = 0

abbrev pub func_of : Config → ℕ
func_of (Running func vars body) = func_in func body
func_of (Over end) = 0

abbrev pub operands_of : Config → List TypedValue
operands_of (Running func vars body) = operands_in body
operands_of (Over end) = []

depth_around : (m : Module) (func : ℕ) (outer : List Position) (t : Term) → depth_in (around m func outer t) ≡ depth_in t
depth_around m func [] t = refl
depth_around m func (p ∷ outer) t = depth_around m func outer (Label p.operands (continuation m func p.block p.at) t)

func_around : (m : Module) (func : ℕ) (outer : List Position) (own : ℕ) (t : Term) → func_in own (around m func outer t) ≡ func_in own t
func_around m func [] own t = refl
func_around m func (p ∷ outer) own t = func_around m func outer own (Label p.operands (continuation m func p.block p.at) t)

operands_around : (m : Module) (func : ℕ) (outer : List Position) (t : Term) → operands_in (around m func outer t) ≡ operands_in t
operands_around m func [] t = refl
operands_around m func (p ∷ outer) t = operands_around m func outer (Label p.operands (continuation m func p.block p.at) t)

-- a call that waits
abbrev frame_of : Module → CallFrame → ℕ → List TypedValue → Term → Term
frame_of m c callee locals t = Frame c.control_stack.operands (continuation m c.func c.control_stack.block c.control_stack.at) callee locals t

depth_under : (m : Module) (calls : List CallFrame) (func : ℕ) (vars : Vars) (t : Term) → depth_of (under m calls func vars t) ≡ length calls + depth_in t
depth_under m [] func vars t = let none : depth_in t ≡ 0 + depth_in t = omega arith in none
depth_under m (c ∷ calls) func vars t =
    let one : depth_in (waiting m c func vars.locals t) ≡ suc (depth_in t) = depth_around m c.func c.control_stack.outer (frame_of m c func vars.locals t) in
    let sum : length calls + suc (depth_in t) ≡ suc (length calls) + depth_in t = omega arith in
    depth_under m calls c.func (record vars { locals = c.locals }) (waiting m c func vars.locals t) ∙ ap (λ (n : ℕ). length calls + n) one ∙ sum

func_under : (m : Module) (calls : List CallFrame) (func : ℕ) (vars : Vars) (t : Term) → func_of (under m calls func vars t) ≡ func_in func t
func_under m [] func vars t = refl
func_under m (c ∷ calls) func vars t =
    func_under m calls c.func (record vars { locals = c.locals }) (waiting m c func vars.locals t) ∙ func_around m c.func c.control_stack.outer c.func (frame_of m c func vars.locals t)

operands_under : (m : Module) (calls : List CallFrame) (func : ℕ) (vars : Vars) (t : Term) → operands_of (under m calls func vars t) ≡ operands_in t
operands_under m [] func vars t = refl
operands_under m (c ∷ calls) func vars t =
    operands_under m calls c.func (record vars { locals = c.locals }) (waiting m c func vars.locals t) ∙ operands_around m c.func c.control_stack.outer (frame_of m c func vars.locals t)

module _ (s : State) (runs : s.ended ≡ None) where
  abbrev own : Term
  own = left_of s.module s.running.func s.running.control_stack

  pub depth_is : depth_of (config_of s) ≡ length s.call_stack
  depth_is =
      let none : depth_in own ≡ 0 = depth_around s.module s.running.func s.running.control_stack.outer _ in
      let sum : length s.call_stack + depth_in own ≡ length s.call_stack = omega (arith, none) in
      ap (λ (end : Option End). depth_of (config_from end s)) runs ∙ depth_under s.module s.call_stack s.running.func (vars_of s.running s.globals) own ∙ sum

  pub func_is : func_of (config_of s) ≡ s.running.func
  func_is =
      ap (λ (end : Option End). func_of (config_from end s)) runs ∙ func_under s.module s.call_stack s.running.func (vars_of s.running s.globals) own
      ∙ func_around s.module s.running.func s.running.control_stack.outer s.running.func _

  pub operands_are : operands_of (config_of s) ≡ s.running.control_stack.operands
  operands_are =
      ap (λ (end : Option End). operands_of (config_from end s)) runs ∙ operands_under s.module s.call_stack s.running.func (vars_of s.running s.globals) own
      ∙ operands_around s.module s.running.func s.running.control_stack.outer _

-- a thread in the same configuration as one that runs runs
pub runs_too : (s u : State) → s.ended ≡ None → config_of s ≡ config_of u → (end : End) → u.ended ≡ Some end → ⊥
runs_too s u runs same end ended = over s.call_stack (sym (ap (λ (e : Option End). config_from e s) runs) ∙ same ∙ ap (λ (e : Option End). config_from e u) ended)
  where
    over_under : (calls : List CallFrame) (func : ℕ) (vars : Vars) (t : Term) → under s.module calls func vars t ≡ Over end → ⊥
    over_under [] func vars t e = cc
    over_under (c ∷ calls) func vars t e = over_under calls c.func (record vars { locals = c.locals }) (waiting s.module c func vars.locals t) e

    over : (calls : List CallFrame) → config_from None s ≡ Over end → ⊥
    over calls e = over_under s.call_stack s.running.func (vars_of s.running s.globals) (left_of s.module s.running.func s.running.control_stack) e
