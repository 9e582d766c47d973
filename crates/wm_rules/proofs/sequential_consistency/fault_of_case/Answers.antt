-- The fault of one case.
use Rattle.std.proofs.Common.{Some, None}
use Rattle.wm_rules.specs.Cases.{overtaking_number}
use Rattle.wm_rules.proofs.SequentialConsistencyLemmas.{out_of_order_finds}
use Rattle.wm_rules.proofs.sequential_consistency.fault_of_case.Goals as goal

pub returns-in_default : goal.returns-in_default
returns-in_default c = out_of_order_finds c.args.relation.now c.args.event.now c.args.byte c.args.writer (overtaking_number c.args.case) c.first_out_of_order.ensures.order c.requires.listed c.requires.writer None c.in_default.ensures.first

pub returns : goal.returns
returns c = rw (c.key.ensures, c.number.ensures) (out_of_order_finds c.args.relation.now c.args.event.now c.args.byte c.args.writer (overtaking_number c.args.case) c.first_out_of_order.ensures.order c.requires.listed c.requires.writer (Some c.in-Some.other) c.in-Some.ensures.first)
