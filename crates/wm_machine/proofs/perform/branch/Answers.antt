use Rattle.std.proofs.Common.{arith, refl, ◌≡◌, ◌<◌, length, drop, [], Some, true, false, ◌∙◌, length-drop, sym}
use Rattle.wm_machine.specs.Inside.{vars_of}
use Rattle.wm_machine.proofs.Lift.{branches_to, branches_stuck, branches_past, branches_out}
use Rattle.wm_machine.proofs.Leading.{left_for}
use Rattle.wm_machine.proofs.Continuations.{drop_past}
use Rattle.wm_machine.specs.Nest.{after_branch, carried_top}
use Rattle.wm_machine.proofs.perform.branch.Goals as goal
use Rattle.wm_machine.proofs.perform.branch.Goals.{else-carry-via-then-carry+else-count-popped, else-carry-via-else-carry}

pub returns-then-depth-label-clause-leads : goal.returns-then-depth-label-clause-leads
returns-then-depth-label-clause-leads c = λ _ globals. (branches_past c.args.code.now.module c.args.running.now.func (vars_of c.args.running.now globals) _ c.args.running.now.control_stack.outer c.args.label (omega arith), (refl, refl))

pub returns-then-depth-label-2-clause-leads : goal.returns-then-depth-label-2-clause-leads
returns-then-depth-label-2-clause-leads c = λ depth globals.
    let a = c.args.running.now in
    let vs = drop c.args.popped a.control_stack.operands in
    (branches_out c.args.code.now.module a.func (vars_of a globals) vs a.control_stack.outer c.args.label (omega arith), (refl, refl))

pub returns-then-count-popped-clause-leads : goal.returns-then-count-popped-clause-leads
returns-then-count-popped-clause-leads c = λ depth globals.
    let a = c.args.running.now in
    let e : drop c.args.popped a.control_stack.operands ≡ [] = drop_past a.control_stack.operands c.args.popped (omega arith) in
    let lt : c.args.label < length a.control_stack.outer = omega arith in
    rw e (branches_stuck c.args.code.now.module a.func (vars_of a globals) [] a.control_stack.outer c.args.label _ _ lt c.place-block.ensures.place (λ ops. rw c.requires.here at (c.in-Some.ensures.empty (vars_of a globals) ops c.if-carry.true)), (refl, refl))

pub returns-in-None-clause-leads : goal.returns-in-None-clause-leads
returns-in-None-clause-leads c = λ depth globals.
    let a = c.args.running.now in
    let lt : c.args.label < length a.control_stack.outer = omega arith in
    (branches_stuck c.args.code.now.module a.func (vars_of a globals) (drop c.args.popped a.control_stack.operands) a.control_stack.outer c.args.label _ _ lt c.place-block.ensures.place (λ ops. rw c.requires.here at (c.in-None.ensures.none refl (vars_of a globals) ops (drop c.args.popped a.control_stack.operands))), (refl, refl))

pub returns-else-carry-clause-leads : goal.returns-else-carry-clause-leads
returns-else-carry-clause-leads c = λ depth globals.
    let a = c.args.running.now in
    let ops = drop c.args.popped a.control_stack.operands in
    let lt : c.args.label < length a.control_stack.outer = omega arith in
    let pos : c.in-Some.carry ≡ true → 0 < length ops =
    elim c.else-carry.branch [
      | else-carry-via-then-carry+else-count-popped w ↦ λ _. omega (arith, length-drop c.args.popped a.control_stack.operands, w.count.ensures, w.if-count-popped.false)
      | else-carry-via-else-carry w ↦ λ h. absurd (let e : true ≡ false = sym h ∙ w.if-carry.false in cc)
    ] in
    let u : after_branch c.args.label (carried_top c.in-Some.carry ops) a.control_stack.outer ≡ Some c.unwind.new.self = rw c.pop.ensures at c.unwind.ensures in
    let e = branches_to c.args.code.now.module a.func (vars_of a globals) ops a.control_stack.outer c.args.label _ _ c.in-Some.next c.in-Some.carry c.unwind.new.self lt c.place-block.ensures.place u (λ operands. rw c.requires.here at (c.in-Some.ensures.some (vars_of a globals) operands ops pos)) in
    rw c.set_at.ensures (e, refl)

pub returns-else-carry-clause-moves : goal.returns-else-carry-clause-moves
returns-else-carry-clause-moves c _ =
    let a = c.args.running.now in
    let ops = drop c.args.popped a.control_stack.operands in
    let u : after_branch c.args.label (carried_top c.in-Some.carry ops) a.control_stack.outer ≡ Some c.unwind.new.self = rw c.pop.ensures at c.unwind.ensures in
    let leads = left_for c.args.code.now.module a.func c.args.label a.control_stack.outer (carried_top c.in-Some.carry ops) c.unwind.new.self _ _ c.in-Some.next u c.place-block.ensures.place (rw c.requires.here at c.in-Some.ensures.place) in
    rw c.set_at.ensures leads
