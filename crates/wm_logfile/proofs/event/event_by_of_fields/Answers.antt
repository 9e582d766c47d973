use Rattle.std.proofs.Common.{arith, ◌∙◌, sym}
use Rattle.std.proofs.lemmas.Grind.{common_steps}
use Rattle.wm_logfile.specs.Reading.{fields_by_at}
use Rattle.std.proofs.lemmas.Result.{err_from_is_err_and}
use Rattle.wm_logfile.proofs.FirstFaults.{AreParts, no_kind_by, other_length, in_two, first_of_two, second_of_two, neither}
use Rattle.wm_logfile.proofs.event.event_by_of_fields.Goals as goal

pub returns-in_err-kind-clause-fault : goal.returns-in_err-kind-clause-fault
returns-in_err-kind-clause-fault c =
    let p = err_from_is_err_and c.from_residual.result c.from_residual.ensures.1 in
    rw (p.1, p.2) (no_kind_by c.args.fields.now c.tag-item.result c.args.path.now c.child.result c.in_err-kind.field-0.0 (grind arith) (grind arith) c.tag-item.is c.child.ensures.is c.in_err-kind.ensures.fault)

pub returns-then-rest-value_by_count-clause-fault : goal.returns-then-rest-value_by_count-clause-fault
returns-then-rest-value_by_count-clause-fault c =
    let are : AreParts c.args.fields.now c.tag-item.result c.order-item.result c.address-item.result c.width-item.result =
    record { at_least = c.in-len4-up.len_at_least; tag_is = c.tag-item.is; order_is = c.order-item.is; address_is = c.address-item.is; width_is = c.width-item.is } in
    let wrong = other_length c.args.path.now c.tag-item.result c.order-item.result c.address-item.result c.width-item.result c.args.fields.now c.in_ok-kind.kind are c.in_ok-kind.ensures.given
    (grind arith) (grind arith) (λ same. c.if-rest-value_by_count.true (same ∙ sym c.value_by_count.ensures)) in
    rw c.copied-then-rest-value_by_count.ensures wrong

pub returns-in_err-event-clause-fault : goal.returns-in_err-event-clause-fault
returns-in_err-event-clause-fault c =
    let p = err_from_is_err_and c.from_residual-in_err-event.result c.from_residual-in_err-event.ensures.1 in
    let are : AreParts c.args.fields.now c.tag-item.result c.order-item.result c.address-item.result c.width-item.result =
    record { at_least = c.in-len4-up.len_at_least; tag_is = c.tag-item.is; order_is = c.order-item.is; address_is = c.address-item.is; width_is = c.width-item.is } in
    let two = in_two c.args.path.now c.tag-item.result c.order-item.result c.address-item.result c.width-item.result c.args.fields.now c.in_ok-kind.kind c.value_count.result c.split_at.result.0.now c.split_at.result.1.now
    are c.in_ok-kind.ensures.given (grind arith) (grind arith) (c.if-rest-value_by_count.false ∙ c.value_by_count.ensures) c.value_count.ensures c.split_at.ensures.front c.split_at.ensures.back in
    rw (p.1, p.2) (first_of_two c.in_err-event.field-0.0 _ _ _ two c.in_err-event.ensures.fault)

pub returns-in_err-writers-clause-fault : goal.returns-in_err-writers-clause-fault
returns-in_err-writers-clause-fault c =
    let p = err_from_is_err_and c.from_residual-in_err-writers.result c.from_residual-in_err-writers.ensures.1 in
    let are : AreParts c.args.fields.now c.tag-item.result c.order-item.result c.address-item.result c.width-item.result =
    record { at_least = c.in-len4-up.len_at_least; tag_is = c.tag-item.is; order_is = c.order-item.is; address_is = c.address-item.is; width_is = c.width-item.is } in
    let two = in_two c.args.path.now c.tag-item.result c.order-item.result c.address-item.result c.width-item.result c.args.fields.now c.in_ok-kind.kind c.value_count.result c.split_at.result.0.now c.split_at.result.1.now
    are c.in_ok-kind.ensures.given (grind arith) (grind arith) (c.if-rest-value_by_count.false ∙ c.value_by_count.ensures) c.value_count.ensures c.split_at.ensures.front c.split_at.ensures.back in
    rw (p.1, p.2) (second_of_two c.in_err-writers.field-0.0 _ _ _ two c.in_ok-event.ensures.fault c.in_err-writers.ensures.fault)

pub returns-clause-fault : goal.returns-clause-fault
returns-clause-fault c =
    let are : AreParts c.args.fields.now c.tag-item.result c.order-item.result c.address-item.result c.width-item.result =
    record { at_least = c.in-len4-up.len_at_least; tag_is = c.tag-item.is; order_is = c.order-item.is; address_is = c.address-item.is; width_is = c.width-item.is } in
    let two = in_two c.args.path.now c.tag-item.result c.order-item.result c.address-item.result c.width-item.result c.args.fields.now c.in_ok-kind.kind c.value_count.result c.split_at.result.0.now c.split_at.result.1.now
    are c.in_ok-kind.ensures.given (grind arith) (grind arith) (c.if-rest-value_by_count.false ∙ c.value_by_count.ensures) c.value_count.ensures c.split_at.ensures.front c.split_at.ensures.back in
    neither _ _ _ two c.in_ok-event.ensures.fault c.in_ok-writers.ensures.fault

pub returns-in_default-clause-given : goal.returns-in_default-clause-given
unfolding fields_by_at
returns-in_default-clause-given c = grind (arith, common_steps)

pub returns-in_default-clause-fault : goal.returns-in_default-clause-fault
unfolding fields_by_at
returns-in_default-clause-fault c = grind (arith, common_steps)

pub returns-then-is_empty-clause-given : goal.returns-then-is_empty-clause-given
unfolding fields_by_at
returns-then-is_empty-clause-given c = grind (arith, common_steps)

pub returns-then-is_empty-clause-fault : goal.returns-then-is_empty-clause-fault
unfolding fields_by_at
returns-then-is_empty-clause-fault c = grind (arith, common_steps)

pub returns-in_err-kind-clause-given : goal.returns-in_err-kind-clause-given
unfolding fields_by_at
returns-in_err-kind-clause-given c = grind (arith, common_steps)

pub returns-then-rest-value_by_count-clause-given : goal.returns-then-rest-value_by_count-clause-given
unfolding fields_by_at
returns-then-rest-value_by_count-clause-given c = grind (arith, common_steps)

pub returns-in_err-event-clause-given : goal.returns-in_err-event-clause-given
unfolding fields_by_at
returns-in_err-event-clause-given c = grind (arith, common_steps)

pub returns-in_err-writers-clause-given : goal.returns-in_err-writers-clause-given
unfolding fields_by_at
returns-in_err-writers-clause-given c = grind (arith, common_steps)

pub returns-clause-given : goal.returns-clause-given
unfolding fields_by_at
returns-clause-given c = grind (arith, common_steps)
