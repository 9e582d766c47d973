-- The configuration that stacks of places and calls represent.
use Rattle.std.specs.Prelude.{ℕ, List, [], ◌∷◌}
use Rattle.wm_ast.specs.declared.module.Module.{Module}
use Rattle.wm_machine.specs.declared.value.TypedValue.{TypedValue}
use Rattle.wm_machine.specs.declared.call_frame.CallFrame.{CallFrame}
use Rattle.wm_machine.specs.Term.{Vars, Term, Here, Label, Frame, Config, Running}
use Rattle.wm_machine.specs.Functions.{continuation}
use Rattle.wm_machine.specs.Nest.{Nest, Position}

-- a term within its enclosing labels, the innermost first
abbrev pub around : Module → ℕ → List Position → Term → Term
around m func [] t = t
around m func (p ∷ ps) t = around m func ps (Label p.operands (continuation m func p.block p.at) t)

-- the remaining term of a call
abbrev pub left_of : Module → ℕ → Nest → Term
left_of m func n = around m func n.outer (Here n.operands (continuation m func n.block n.at))

-- the remaining term of a call that waits for another
abbrev pub waiting : Module → CallFrame → ℕ → List TypedValue → Term → Term
waiting m c callee locals t =
    around m c.func c.control_stack.outer (Frame c.control_stack.operands (continuation m c.func c.control_stack.block c.control_stack.at) callee locals t)

-- a call under its call_stack, the innermost first
abbrev pub under : Module → List CallFrame → ℕ → Vars → Term → Config
under m [] func vars t = Running func vars t
under m (c ∷ cs) func vars t = under m cs c.func (record vars { locals = c.locals }) (waiting m c func vars.locals t)
