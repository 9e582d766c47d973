-- A write that is between the writer and the read.
use Rattle.std.proofs.Common.{rules}
use Rattle.wm_event.specs.Event.{key_of}
use Rattle.wm_event.specs.LoggedRun.{execution}
use Rattle.wm_rules.specs.Cases.{overtaking_number}
use Rattle.wm_rules.proofs.SequentialConsistencyLemmas.{out_of_order_if}
use Rattle.wm_rules.proofs.sequential_consistency.is_out_of_order.Goals as goal

pub returns-then-stands_before-2 : goal.returns-then-stands_before-2
returns-then-stands_before-2 c =
    out_of_order_if (execution c.args.relation.now) c.args.writer c.args.other (key_of c.args.event.now) c.args.event.now (overtaking_number c.args.case) c.overtakes.result
    (search rules) (search rules) (search rules) c.overtakes.ensures
