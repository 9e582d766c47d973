use Rattle.std.proofs.Common.{◌≡◌, ◌≤◌, length, drop, reverse, rules, subst, sym}
use Rattle.wm_machine.specs.Nest.{Nest}
use Rattle.wm_machine.proofs.Stacks.{top_of}
use Rattle.wm_machine.proofs.control_stack.ControlStack.top.Goals as goal

pub returns : goal.returns
returns c =
    let s = c.self.inside in
    let e : c.len.result ≡ length s.values.items = search rules in
    let r : c.args.count ≤ length (reverse (drop s.inner.base s.values.items)) = subst (λ (n : Nest). c.args.count ≤ length n.operands) (sym c.self.view_is) c.requires in
    rw (← c.self.view_is, c.deref.ensures.value) (top_of s.values.items s.inner.base c.len.result c.args.count e c.self.invariant.0.0 r)
