use Rattle.std.proofs.Common.{◌≡◌, ◌<◌, ◌-◌, length, true}
use Rattle.wm_machine.specs.Nest.{unwound}
use Rattle.wm_machine.proofs.control_stack.ControlStack.unwind.Given as goal

abbrev pub invariant-loop : goal.invariant-loop
invariant-loop l = record {
  stepped : unwound (l.label - l.counter) l.carry l.self ≡ unwound l.label l.carry l.initial.self;
  within : l.label - l.counter < length l.self.outer;
  room : l.carry ≡ true → 0 < length l.self.operands;
}
