use Rattle.wm_module_bytes.proofs.ImmediateSteps.{items_there, vector_read}
use Rattle.wm_module_bytes.proofs.instruction.skip_integers.Goals as goal

pub returns-in_err-skip_numbers : goal.returns-in_err-skip_numbers
returns-in_err-skip_numbers c text next has =
    absurd (items_there c.args.numbers c.args.reader.now c.number.new.self c.skip_numbers.new.self text next has c.number.result c.number.ensures c.in_ok-count.count c.in_ok-count.was c.skip_numbers.result c.skip_numbers.ensures
    c.in_err-skip_numbers.was)

pub returns : goal.returns
returns c text next has =
    vector_read c.args.numbers c.args.reader.now c.number.new.self c.skip_numbers.new.self text next has c.number.result c.number.ensures c.in_ok-count.count c.in_ok-count.was c.skip_numbers.result c.skip_numbers.ensures
    c.skip_numbers-2.new.self c.skip_numbers-2.result c.skip_numbers-2.ensures
