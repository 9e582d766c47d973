use Rattle.wm_machine.proofs.Moves.{closes_last}
use Rattle.wm_machine.proofs.control_stack.ControlStack.close.Goals as goal

pub returns-in-Some-clause-closed : goal.returns-in-Some-clause-closed
returns-in-Some-clause-closed c =
    λ _.
    let e = c.in-Some.ensures.items in
    rw (← c.self.view_is, e) (closes_last c.self.inside.inner c.in-Some.level c.pop.new.self.items c.self.inside.values.items (rw e at c.self.invariant.0))
