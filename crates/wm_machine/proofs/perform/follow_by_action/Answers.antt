use Rattle.std.proofs.Common.{ap, ◌≡◌, ◌+◌, ◌∷◌, sym, subst, ◌∙◌, Option}
use Rattle.std.specs.Prelude.{is_some}
use Rattle.wm_event.specs.declared.op.OpFields.{OpFields}
use Rattle.wm_machine.specs.Functions.{continuation}
use Rattle.wm_machine.specs.Inside.{StepsTo, vars_of, call_step, made_of, unanswered}
use Rattle.wm_machine.specs.State.{value_or_zero}
use Rattle.wm_machine.specs.Action.{op_of}
use Rattle.wm_machine.specs.Term.{Reduced}
use Rattle.wm_machine.proofs.Made.{made_first, made_does}
use Rattle.wm_machine.specs.Places.{outer_places}
use Rattle.wm_machine.proofs.Leading.{moved_at}
use Rattle.wm_machine.proofs.Lift.{acts}
use Rattle.wm_machine.proofs.perform.follow_by_action.Goals as goal

pub returns-clause-stepped : goal.returns-clause-stepped
returns-clause-stepped c = λ depth.
    let m = c.args.code.now.module in
    let a = c.args.running.now in
    let g = c.args.globals.now in
    let e = acts m (value_or_zero c.args.given) depth a.func (vars_of a g) a.control_stack c.args.instr.now c.decide-action.result c.requires.stands (λ d r f rest. rw (c.module.ensures, c.as_slice.ensures) at (c.decide-action.ensures.means a.locals d r f rest)) in
    subst (λ (r : Reduced). StepsTo m depth r a g c.perform.new.running c.perform.new.globals c.perform.result) (sym e) (c.perform.ensures.performs depth c.args.instr.now c.requires.stands)

pub returns-clause-asks : goal.returns-clause-asks
returns-clause-asks c = λ depth read.
    let m = c.args.code.now.module in
    let a = c.args.running.now in
    let g = c.args.globals.now in
    let i = c.args.instr.now in
    let rest = continuation m a.func a.control_stack.block (a.control_stack.at + 1) in
    let e = rw (c.module.ensures, c.as_slice.ensures) at (c.decide-action.ensures.means a.locals depth read a.func rest) in
    let k : made_of (call_step m read depth a g) ≡ op_of c.decide-action.result = made_first m read depth a g i rest c.requires.stands ∙ ap made_of e ∙ made_does m depth read a.func (vars_of a g) a.control_stack.operands (i ∷ rest) c.decide-action.result in
    c.perform.ensures.asks ∙ sym (ap (λ (o : Option OpFields). is_some (unanswered c.args.given o)) k)

pub returns-clause-moves : goal.returns-clause-moves
returns-clause-moves c within =
    let m = c.args.code.now.module in
    let a = c.args.running.now in
    let n = a.control_stack in
    let led = c.perform.ensures.moves within in
    let leads = c.decide-action.ensures.leads m a.func (continuation m a.func n.block (n.at + 1)) record { block = n.block; at = n.at } (outer_places n.outer) led.0 in
    led.1 ∙ sym (moved_at m a c.args.instr.now c.requires.stands ∙ leads)
