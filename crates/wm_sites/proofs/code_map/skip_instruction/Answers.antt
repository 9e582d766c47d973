use Rattle.wm_sites.proofs.OpcodeSteps.{form_there, instruction_skipped, opcode_there}
use Rattle.wm_sites.proofs.code_map.skip_instruction.Goals as goal

pub returns-in_err-opcode : goal.returns-in_err-opcode
returns-in_err-opcode c text next is = absurd (opcode_there c.args.reader.now c.read.new.reader text next is c.read.result c.read.ensures c.in_err-opcode.was)

pub returns-in_err-immediates : goal.returns-in_err-immediates
returns-in_err-immediates c text next is =
    let found = c.immediates_in_one_memory in
    absurd (form_there c.args.reader.now c.read.new.reader text next is c.read.result c.read.ensures c.in_ok-opcode.opcode c.in_ok-opcode.was found.result (found.ensures.plain, found.ensures.atomic) c.in_err-immediates.was)

pub returns : goal.returns
returns c text next is =
    let found = c.immediates_in_one_memory in
    instruction_skipped c.args.reader.now c.read.new.reader text next is c.read.result c.read.ensures c.in_ok-opcode.opcode c.in_ok-opcode.was found.result (found.ensures.plain, found.ensures.atomic) c.in_ok-immediates.immediates
    c.in_ok-immediates.was c.skip_immediates.new.reader c.skip_immediates.result c.skip_immediates.ensures
