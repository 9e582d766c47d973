use Rattle.std.proofs.Common.{◌≡◌, ◌+◌, [], ◌∷◌, refl, ◌∙◌}
use Rattle.wm_machine.specs.Functions.{continuation}
use Rattle.wm_machine.specs.Inside.{vars_of}
use Rattle.wm_machine.proofs.Made.{made_at_end, made_first}
use Rattle.wm_machine.proofs.perform.next_op.Goals as goal

pub returns-in-None : goal.returns-in-None
returns-in-None c = λ depth read globals.
    let a = c.args.running.now in
    let h : continuation c.args.module.now a.func a.control_stack.block a.control_stack.at ≡ [] = rw (c.of-code.ensures, c.block.ensures, c.at.ensures) at (c.in-None.ensures.none refl) in
    made_at_end c.args.module.now read depth a globals h

pub returns-in-Some : goal.returns-in-Some
returns-in-Some c = λ depth read globals.
    let m = c.args.module.now in
    let a = c.args.running.now in
    let rest = continuation m a.func a.control_stack.block (a.control_stack.at + 1) in
    let h : continuation m a.func a.control_stack.block a.control_stack.at ≡ c.in-Some.instr.now ∷ rest = rw (c.of-code.ensures, c.block.ensures, c.at.ensures) at c.in-Some.ensures.some in
    made_first m read depth a globals c.in-Some.instr.now rest h ∙ c.op_of.ensures depth read a.func (vars_of a globals) rest
