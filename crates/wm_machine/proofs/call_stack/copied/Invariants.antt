-- The calls so far are copied.
use Rattle.std.proofs.Common.{◌≡◌, take, map, box_value}
use Rattle.wm_machine.proofs.call_stack.copied.Given as goal

abbrev pub invariant-loop-call : goal.invariant-loop-call
invariant-loop-call l = record {
  copied : map box_value l.copy.items ≡ map box_value (take l.call-index l.calls);
}
