use Rattle.std.proofs.Common.{refl}
use Rattle.wm_module_bytes.proofs.ImmediateSteps.{alignment_there, high_alignment, low_alignment}
use Rattle.wm_module_bytes.proofs.Steps.{always}
use Rattle.wm_module_bytes.proofs.instruction.skip_alignment.Goals as goal

pub returns-in_err-number : goal.returns-in_err-number
returns-in_err-number c text next is = absurd (alignment_there c.args.reader.now c.number.new.self c.number.result c.number.ensures is next c.in_err-number.was)

pub returns-in_err-skip_number : goal.returns-in_err-skip_number
returns-in_err-skip_number c text next is =
    absurd (always
    (high_alignment c.args.reader.now c.number.new.self c.number.result c.number.ensures c.skip_number.new.self c.skip_number.result c.skip_number.ensures is next c.in_ok-number.field-0 c.in_ok-number.was c.if-branch-ge64.true)
    c.in_err-skip_number.was)

pub returns-in_ok-skip_number : goal.returns-in_ok-skip_number
returns-in_ok-skip_number c text next is =
    let read =
    high_alignment c.args.reader.now c.number.new.self c.number.result c.number.ensures c.skip_number.new.self c.skip_number.result c.skip_number.ensures is next c.in_ok-number.field-0 c.in_ok-number.was c.if-branch-ge64.true in
    record { gives = refl; moves = read.moves }

pub returns-else-branch-ge64 : goal.returns-else-branch-ge64
returns-else-branch-ge64 c text next is =
    record { gives = refl; moves = low_alignment c.args.reader.now c.number.new.self c.number.result c.number.ensures is next c.in_ok-number.field-0 c.in_ok-number.was c.if-branch-ge64.false }
