use Rattle.std.proofs.Common.{ap, refl, sym, subst, ◌+◌, ◌∙◌}
use Rattle.std.specs.Prelude.{Ok, Err, drop}
use Rattle.wm_machine.specs.declared.call_frame.Flow.TheVariants.{Within}
use Rattle.wm_machine.specs.declared.fault.StepFault.TheVariants.{Stuck}
use Rattle.wm_machine.specs.AtOnce.{at_next}
use Rattle.wm_machine.specs.Functions.{continuation}
use Rattle.wm_machine.specs.Inside.{StepsTo, out_of_labels, vars_of}
use Rattle.wm_machine.specs.State.{value_or_zero}
use Rattle.wm_machine.specs.Term.{Reduced}
use Rattle.wm_machine.specs.Places.{outer_places}
use Rattle.wm_machine.proofs.Leading.{moved_at, passes, taken}
use Rattle.wm_machine.proofs.AtOnce.{at_once_asks, branch_is_at_once, effect_steps, goes_on, lacks_operand, steps_by_act}
use Rattle.wm_machine.proofs.perform.branch_by.Goals as goal

pub returns-in-Stuck-clause-stepped : goal.returns-in-Stuck-clause-stepped
returns-in-Stuck-clause-stepped c = λ given globals.
    let a = c.args.running.now in
    let i = c.args.instr.now in
    let means = rw c.in-Stuck.is at c.branching_of.ensures.means in
    effect_steps c.args.code.now.module i given globals a a (Err Stuck) c.requires.stands (lacks_operand a i means)

pub returns-in-NotTaken-clause-stepped : goal.returns-in-NotTaken-clause-stepped
returns-in-NotTaken-clause-stepped c = λ given globals.
    let a = c.args.running.now in
    let i = c.args.instr.now in
    let means = rw c.in-NotTaken.is at c.branching_of.ensures.means in
    let n = at_next a.locals (drop 1 a.control_stack.operands) a in
    rw (c.set_at.ensures, c.pop.ensures, c.at-next.ensures) (effect_steps c.args.code.now.module i given globals a n (Ok Within) c.requires.stands (goes_on a i means))

pub returns-in-To-clause-stepped : goal.returns-in-To-clause-stepped
returns-in-To-clause-stepped c = λ given globals depth.
    let m = c.args.code.now.module in
    let a = c.args.running.now in
    let i = c.args.instr.now in
    let rest = continuation m a.func a.control_stack.block (a.control_stack.at + 1) in
    let e = (rw c.in-To.is at c.branching_of.ensures.means) m depth (value_or_zero given) a.func (vars_of a globals) rest in
    let k = steps_by_act m (value_or_zero given) depth a globals i c.requires.stands ∙ ap (out_of_labels m a.func (vars_of a globals) a.control_stack.outer) e in
    subst (λ (r : Reduced). StepsTo m depth r a globals c.branch-code.new.running globals c.branch-code.result) (sym k) (c.branch-code.ensures.leads depth globals)

pub returns-in-Stuck-clause-asks : goal.returns-in-Stuck-clause-asks
returns-in-Stuck-clause-asks c = λ given globals.
    let i = c.args.instr.now in
    at_once_asks c.args.code.now.module i given globals c.args.running.now (Err Stuck) c.requires.stands (branch_is_at_once i c.requires.branches) refl

pub returns-in-NotTaken-clause-asks : goal.returns-in-NotTaken-clause-asks
returns-in-NotTaken-clause-asks c = λ given globals.
    let i = c.args.instr.now in
    at_once_asks c.args.code.now.module i given globals c.args.running.now (Ok Within) c.requires.stands (branch_is_at_once i c.requires.branches) refl

pub returns-in-To-clause-asks : goal.returns-in-To-clause-asks
returns-in-To-clause-asks c = λ given globals.
    let i = c.args.instr.now in
    at_once_asks c.args.code.now.module i given globals c.args.running.now c.branch-code.result c.requires.stands (branch_is_at_once i c.requires.branches) c.branch-code.ensures.asks

pub returns-in-NotTaken-clause-moves : goal.returns-in-NotTaken-clause-moves
returns-in-NotTaken-clause-moves c _ =
    let m = c.args.code.now.module in
    let a = c.args.running.now in
    let i = c.args.instr.now in
    let n = a.control_stack in
    let means = rw c.in-NotTaken.is at c.branching_of.ensures.means in
    let leads = moved_at m a i c.requires.stands ∙ passes m a.func n.operands (continuation m a.func n.block (n.at + 1)) record { block = n.block; at = n.at } (outer_places n.outer) i c.requires.branches means in
    rw (c.set_at.ensures, c.pop.ensures, c.at-next.ensures) (sym leads)

pub returns-in-To-clause-moves : goal.returns-in-To-clause-moves
returns-in-To-clause-moves c within =
    let m = c.args.code.now.module in
    let a = c.args.running.now in
    let i = c.args.instr.now in
    let n = a.control_stack in
    let means = rw c.in-To.is at c.branching_of.ensures.means in
    let leads = moved_at m a i c.requires.stands ∙ taken m a.func n.operands (continuation m a.func n.block (n.at + 1)) record { block = n.block; at = n.at } (outer_places n.outer) i c.in-To.label c.in-To.popped c.requires.branches means in
    c.branch-code.ensures.moves within ∙ sym leads
