use Rattle.std.proofs.Common.{arith}
use Rattle.std.proofs.lemmas.Grind.{common_steps}
use Rattle.wm_logfile.specs.Reading.{fields_at}
use Rattle.std.proofs.lemmas.Result.{err_from_is_err_and}
use Rattle.wm_logfile.proofs.FirstFaults.{no_kind}
use Rattle.wm_logfile.proofs.event.event_of_fields.Goals as goal

pub returns-in_err-kind-clause-fault : goal.returns-in_err-kind-clause-fault
returns-in_err-kind-clause-fault c =
    let p = err_from_is_err_and c.from_residual.result c.from_residual.ensures.1 in
    rw (p.1, p.2) (no_kind c.args.fields.now c.tag-item.result c.args.path.now c.child.result c.in_err-kind.field-0.0 (grind arith) (grind arith) c.tag-item.is c.child.ensures.is c.in_err-kind.ensures.fault)

pub returns-in_default-clause-given : goal.returns-in_default-clause-given
unfolding fields_at
returns-in_default-clause-given c = grind (arith, common_steps)

pub returns-in_default-clause-fault : goal.returns-in_default-clause-fault
unfolding fields_at
returns-in_default-clause-fault c = grind (arith, common_steps)

pub returns-then-values-ne2-clause-given : goal.returns-then-values-ne2-clause-given
unfolding fields_at
returns-then-values-ne2-clause-given c = grind (arith, common_steps)

pub returns-then-values-ne2-clause-fault : goal.returns-then-values-ne2-clause-fault
unfolding fields_at
returns-then-values-ne2-clause-fault c = grind (arith, common_steps)

pub returns-in_err-kind-clause-given : goal.returns-in_err-kind-clause-given
unfolding fields_at
returns-in_err-kind-clause-given c = grind (arith, common_steps)

pub returns-then-values-value_count-clause-given : goal.returns-then-values-value_count-clause-given
unfolding fields_at
returns-then-values-value_count-clause-given c = grind (arith, common_steps)

pub returns-then-values-value_count-clause-fault : goal.returns-then-values-value_count-clause-fault
unfolding fields_at
returns-then-values-value_count-clause-fault c = grind (arith, common_steps)

pub returns-clause-given : goal.returns-clause-given
unfolding fields_at
returns-clause-given c = grind (arith, common_steps)

pub returns-clause-fault : goal.returns-clause-fault
unfolding fields_at
returns-clause-fault c = grind (arith, common_steps)
