use Rattle.std.proofs.Common.{◌<◌, ◌≤◌, ◌∙◌, sym, inl, inr, arith}
use Rattle.wm_module_bytes.proofs.OpcodeSteps.{code_there, opcode_there, plain_read, prefixed_read}
use Rattle.wm_module_bytes.proofs.instruction.Opcode.read.Goals as goal

pub returns-in_err-byte : goal.returns-in_err-byte
returns-in_err-byte c text opcode next is = absurd (opcode_there is next (sym c.byte.ensures.byte ∙ c.in_err-byte.was))

pub returns-in_err-code-in-252 : goal.returns-in_err-code-in-252
returns-in_err-code-in-252 c text opcode next is =
    let high : 0xFC ≤ c.in_ok-byte.byte = omega arith in
    absurd (code_there c.in_ok-byte.byte c.number.result is next (sym c.byte.ensures.byte ∙ c.in_ok-byte.was) c.in_ok-byte.ensures.moves high c.number.ensures c.in_err-code-in-252.was)

pub returns-in_ok-code-in-252 : goal.returns-in_ok-code-in-252
returns-in_ok-code-in-252 c text opcode next is =
    let high : 0xFC ≤ c.in_ok-byte.byte = omega arith in
    prefixed_read c.in_ok-byte.byte c.in_ok-code-in-252.code c.number.result is next (sym c.byte.ensures.byte ∙ c.in_ok-byte.was) c.in_ok-byte.ensures.moves high c.number.ensures c.in_ok-code-in-252.was

pub returns-in_default : goal.returns-in_default
returns-in_default c text opcode next is =
    let below : c.in_ok-byte.byte < 0xFC = omega arith in
    plain_read c.in_ok-byte.byte is next (sym c.byte.ensures.byte ∙ c.in_ok-byte.was) c.in_ok-byte.ensures.moves (inl below)

pub returns-in_default-2 : goal.returns-in_default-2
returns-in_default-2 c text opcode next is =
    let past : 0xFE < c.in_ok-byte.byte = omega arith in
    plain_read c.in_ok-byte.byte is next (sym c.byte.ensures.byte ∙ c.in_ok-byte.was) c.in_ok-byte.ensures.moves (inr past)
