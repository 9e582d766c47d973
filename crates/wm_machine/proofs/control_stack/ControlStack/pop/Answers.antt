use Rattle.std.proofs.Common.{reverse, ◌≡◌, ◌≤◌, length, drop, rules, subst, sym}
use Rattle.wm_machine.specs.Nest.{Nest}
use Rattle.wm_machine.proofs.Moves.{popped_off}
use Rattle.wm_machine.proofs.control_stack.ControlStack.pop.Goals as goal

pub returns : goal.returns
returns c =
    let s = c.self.inside in
    let e : c.len.result ≡ length s.values.items = search rules in
    let r : c.args.popped ≤ length (reverse (drop s.inner.base s.values.items)) = subst (λ (n : Nest). c.args.popped ≤ length n.operands) (sym c.self.view_is) c.requires in
    rw (← c.self.view_is, c.truncate.ensures.items) (popped_off s.inner (reverse s.outer.items) s.values.items c.len.result c.args.popped e c.self.invariant.0.0 r)
