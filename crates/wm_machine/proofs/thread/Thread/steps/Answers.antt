use Rattle.std.proofs.Common.{◌≡◌, ap, arith, refl, rules, subst}
use Rattle.wm_machine.specs.declared.call_frame.StepOutcome.{StepOutcome}
use Rattle.wm_machine.specs.declared.call_frame.StepOutcome.TheVariants.{Made}
use Rattle.wm_machine.specs.Inside.{waits}
use Rattle.wm_machine.specs.Paths.{here}
use Rattle.wm_machine.specs.State.{State}
use Rattle.wm_machine.specs.Stepping.{IsStepWith}
use Rattle.wm_machine.proofs.Local.{makes_none_unasked, no_local_after_end, path_more}
use Rattle.wm_machine.proofs.thread.Thread.steps.Goals as goal

pub returns-in-Last-clause-stops : goal.returns-in-Last-clause-stops
returns-in-Last-clause-stops c = λ _ read.
    let last = c.in_ok-last.ensures.last c.in-Last.is in
    no_local_after_end c.step_in.new.self read last.0 last.1

pub loop-made-init : goal.loop-made-init
loop-made-init c =
    record {
      «module» = refl;
      runs = search rules;
      here = search rules;
      begins = λ _. refl;
      one = λ e. absurd (cc e);
      locally = λ _. refl;
      path = λ _. here;
    }

pub loop-made-preserved : goal.loop-made-preserved
loop-made-preserved c =
    let step = c.in_ok-last.ensures in
    let made = c.loop-made.made in
    record {
      «module» = search rules;
      runs = search rules;
      here = search rules;
      begins = λ e. absurd (omega (arith, e));
      one = λ e.
          let first : made ≡ 0 = omega (arith, e) in
          let with_last : IsStepWith c.args.given c.loop-made.self c.step_in.new.self c.in_ok-last.last = (step.asks, step.made, step.kept, step.moves) in
          subst (λ (s : State). IsStepWith c.args.given s c.step_in.new.self Made) (c.loop-made.invariant.begins first)
          (subst (λ (o : StepOutcome). IsStepWith c.args.given c.loop-made.self c.step_in.new.self o) c.in-Made.is with_last);
      locally = search rules;
      path = λ none.
          let asks = rw (none, c.in-Made.is) at (step.asks 0) in
          path_more c.args.self.now c.loop-made.self c.step_in.new.self made c.loop-made.invariant.module (c.loop-made.invariant.path none) (makes_none_unasked _ asks) (rw none at (step.made (ap waits c.in-Made.is))) (step.moves (ap waits c.in-Made.is));
    }

pub returns-in-Last-clause-one : goal.returns-in-Last-clause-one
returns-in-Last-clause-one c e =
    let step = c.in_ok-last.ensures in
    let below = c.loop-made-test.true in
    let first : c.loop-made.made ≡ 0 = omega (arith, e, below) in
    subst (λ (s : State). IsStepWith c.args.given s c.step_in.new.self c.in_ok-last.last) (c.loop-made.invariant.begins first) (step.asks, step.made, step.kept, step.moves)

pub returns-in-Last-clause-path : goal.returns-in-Last-clause-path
returns-in-Last-clause-path c none =
    let step = c.in_ok-last.ensures in
    let asks = rw (none, c.in-Last.is) at (step.asks 0) in
    path_more c.args.self.now c.loop-made.self c.step_in.new.self c.loop-made.made c.loop-made.invariant.module (c.loop-made.invariant.path none) (makes_none_unasked _ asks) (rw none at (step.made (ap waits c.in-Last.is))) (step.moves (ap waits c.in-Last.is))

pub returns-clause-one : goal.returns-clause-one
returns-clause-one c e =
    let end = c.loop-made-test.false in
    let last : c.loop-made.made ≡ 1 = omega (arith, e, end, c.loop-made.auto.made-end) in
    c.loop-made.invariant.one last
