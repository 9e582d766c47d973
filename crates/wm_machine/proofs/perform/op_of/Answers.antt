use Rattle.std.proofs.Common.{◌∷◌, ap, sym, ◌∙◌}
use Rattle.wm_ast.specs.declared.instr.Instr.TheVariants.{Access}
use Rattle.wm_machine.specs.Inside.{made_of}
use Rattle.wm_machine.proofs.Made.{made_does}
use Rattle.wm_machine.proofs.perform.op_of.Goals as goal

pub returns-in-Access : goal.returns-in-Access
returns-in-Access c = λ depth read func vars rest.
    let instrs = Access c.in-Access.kind c.in-Access.operands ∷ rest in
    rw c.in-Access.is (
    ap made_of (c.access.ensures.means vars depth read func rest)
    ∙ made_does c.args.module.now depth read func vars c.args.control_stack.now.operands instrs c.access.result
    ∙ sym c.op.ensures)
