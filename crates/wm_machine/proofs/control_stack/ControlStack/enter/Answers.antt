use Rattle.std.proofs.Common.{reverse, ◌<◌, ◌≡◌, ◌≤◌, ◌+◌, ◌^◌, length, drop, rules, subst, sym}
use Rattle.wm_machine.specs.Nest.{Nest}
use Rattle.wm_machine.proofs.Moves.{entered_in, entered_levels}
use Rattle.wm_machine.proofs.control_stack.ControlStack.enter.Goals as goal

pub returns-clause-ok : goal.returns-clause-ok
returns-clause-ok c =
    let s = c.self.inside in
    let e : c.len.result ≡ length s.values.items = search rules in
    let e2 : c.len-2.result ≡ length c.truncate.new.self.items = search rules in
    let r : c.args.popped ≤ length (reverse (drop s.inner.base s.values.items)) = subst (λ (n : Nest). c.args.popped ≤ length n.operands) (sym c.self.view_is) c.requires.room in
    rw (← c.self.view_is) (entered_in s.inner s.outer.items c.push.new.self.items s.values.items c.truncate.new.self.items c.args.block c.len.result c.len-2.result c.args.popped c.in_ok-push.ensures.items c.truncate.ensures.items e e2 c.self.invariant.0.0 r)

pub invariant_of-self-2 : goal.invariant_of-self-2
invariant_of-self-2 c =
    let s = c.self.inside in
    let e : c.len.result ≡ length s.values.items = search rules in
    let e2 : c.len-2.result ≡ length c.truncate.new.self.items = search rules in
    let r : c.args.popped ≤ length (reverse (drop s.inner.base s.values.items)) = subst (λ (n : Nest). c.args.popped ≤ length n.operands) (sym c.self.view_is) c.requires.room in
    let f : s.inner.at + 1 < 2 ^ 64 = subst (λ (n : Nest). n.at + 1 < 2 ^ 64) (sym c.self.view_is) c.requires.followed in
    entered_levels s.inner s.outer.items c.push.new.self.items s.values.items c.truncate.new.self.items c.len.result c.len-2.result c.args.popped c.in_ok-push.ensures.items c.truncate.ensures.items e e2 c.self.invariant.0.0 r c.self.invariant.0.1 c.self.invariant.1 f
