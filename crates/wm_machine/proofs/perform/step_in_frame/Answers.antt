use Rattle.std.specs.Prelude.{is_some}
use Rattle.wm_event.specs.declared.op.OpFields.{OpFields}
use Rattle.std.proofs.Common.{Option, arith, refl, ap, ◌≡◌, ◌+◌, length, [], sym, ℕ, ◌∙◌}
use Rattle.wm_machine.specs.Functions.{continuation}
use Rattle.wm_machine.specs.Inside.{vars_of, unanswered}
use Rattle.wm_machine.specs.State.{value_or_zero}
use Rattle.wm_machine.proofs.Made.{made_at_end, unanswered_none}
use Rattle.wm_machine.proofs.Lift.{closes_within, not_false, closed_at}
use Rattle.wm_machine.proofs.perform.step_in_frame.Goals as goal

pub returns-else-depth-eq0-clause-stepped : goal.returns-else-depth-eq0-clause-stepped
returns-else-depth-eq0-clause-stepped c = λ depth.
    let a = c.args.running.now in
    let vars = vars_of a c.args.globals.now in
    let h : continuation c.args.code.now.module a.func a.control_stack.block a.control_stack.at ≡ [] = rw (c.block.ensures, c.at-at.ensures, c.requires.here) at (c.in-None.ensures.none refl) in
    let t = not_false c.close-closed.result (λ f. let g = ap length (c.close-closed.ensures.none f).0 in omega (arith, g)) in
    let e = closes_within c.args.code.now.module (value_or_zero c.args.given) depth a.func vars a.control_stack.operands a.control_stack.block a.control_stack.at a.control_stack.outer c.close-closed.new.self h (c.close-closed.ensures.closed t) in
    let k = ap (λ (n : ℕ). n + 1) (closed_at a.control_stack.operands a.control_stack.outer c.close-closed.new.self _ _ (c.close-closed.ensures.closed t) c.place-outer_at.ensures.place) in
    rw (c.set_at.ensures, k) (e, refl)

pub returns-else-depth-eq0-clause-asks : goal.returns-else-depth-eq0-clause-asks
returns-else-depth-eq0-clause-asks c = λ depth read.
    let a = c.args.running.now in
    let h : continuation c.args.code.now.module a.func a.control_stack.block a.control_stack.at ≡ [] = rw (c.block.ensures, c.at-at.ensures, c.requires.here) at (c.in-None.ensures.none refl) in
    sym (ap (λ (o : Option OpFields). is_some (unanswered c.args.given o)) (made_at_end c.args.code.now.module read depth a c.args.globals.now h) ∙ ap is_some (unanswered_none c.args.given))

pub follow-requires-clause-stands : goal.follow-requires-clause-stands
follow-requires-clause-stands c = rw (c.block.ensures, c.at-at.ensures, c.requires.here) at c.in-Some.ensures.some
