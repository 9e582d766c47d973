use Rattle.std.proofs.Common.{reverse, ◌<◌, ◌≡◌, ◌≤◌, length, drop, arith, rules, subst, sym}
use Rattle.wm_machine.specs.Nest.{Nest}
use Rattle.wm_machine.proofs.Moves.{put_over}
use Rattle.wm_machine.proofs.control_stack.ControlStack.replace.Goals as goal

pub returns-else-popped-eq0-clause-ok : goal.returns-else-popped-eq0-clause-ok
returns-else-popped-eq0-clause-ok c =
    let s = c.self.inside in
    let pos : 0 < c.args.popped = omega arith in
    let e : c.len.result ≡ length s.values.items = search rules in
    let r : c.args.popped ≤ length (reverse (drop s.inner.base s.values.items)) = subst (λ (n : Nest). c.args.popped ≤ length n.operands) (sym c.self.view_is) c.requires in
    rw (← c.self.view_is, c.truncate.ensures.items) (put_over s.inner (reverse s.outer.items) s.values.items c.len.result c.args.popped c.args.value e c.self.invariant.0.0 r pos)
