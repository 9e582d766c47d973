use Rattle.std.proofs.Common.{◌≡◌, ◌+◌, Ok, inl, inr, refl, sym, ap, subst, ◌∙◌, arith}
use Rattle.wm_machine.specs.State.{config_of}
use Rattle.wm_run.specs.Reached.{LeadsTo}
use Rattle.wm_run.specs.Stops.{StopsFor}
use Rattle.wm_run.proofs.Leading.{leads_locally}
use Rattle.wm_run.proofs.rounds.worker.run_until_stop.Goals as goal

pub returns-then-made-steps-clause-stopped : goal.returns-then-made-steps-clause-stopped
returns-then-made-steps-clause-stopped g c =
    let seen = c.run.new.self.module in
    let first = config_of c.args.running.now in
    let at = config_of c.run.new.self in
    let events = c.loop-local.calls.events in
    let n = c.loop-local.made + c.in-Ok.local in
    let leads = leads_locally c.loop-local.running.module seen c.args.thread first (config_of c.loop-local.running) at events c.loop-local.made c.in-Ok.local
    c.in-Ok.ensures.same c.loop-local.invariant.leads c.in-Ok.ensures.made in
    let all : n ≡ c.args.steps = omega (arith, c.if-made-steps.true, c.in-Ok.ensures.most) in
    record {
      leads = subst (λ x. LeadsTo x c.args.thread first events c.args.steps at) (c.in-Ok.ensures.same ∙ c.loop-local.invariant.program) (subst (λ x. LeadsTo seen c.args.thread first events x at) all leads);
      within = omega arith;
      stops = inl (refl, refl);
    }

pub returns-in-Some-clause-stopped : goal.returns-in-Some-clause-stopped
returns-in-Some-clause-stopped g c =
    let seen = c.run.new.self.module in
    let first = config_of c.args.running.now in
    let at = config_of c.run.new.self in
    let events = c.loop-local.calls.events in
    let n = c.loop-local.made + c.in-Ok.local in
    let leads = leads_locally c.loop-local.running.module seen c.args.thread first (config_of c.loop-local.running) at events c.loop-local.made c.in-Ok.local
    c.in-Ok.ensures.same c.loop-local.invariant.leads c.in-Ok.ensures.made in
    let program = c.in-Ok.ensures.same ∙ c.loop-local.invariant.program in
    let stopped = rw c.in-Some.is at (c.in_ok-stop.ensures.stopped) in
    rw (stopped.0, stopped.1) (record {
      leads = subst (λ x. LeadsTo x c.args.thread first events n at) program leads;
      within = omega (arith, c.if-made-steps.false);
      stops = inr (subst (λ x. StopsFor (g.G.Gate.is_open c.args.gate.now) x at c.in-Some.stop) program stopped.2);
    })

pub loop-local-preserved : goal.loop-local-preserved
loop-local-preserved g c =
    let seen = c.run.new.self.module in
    let first = config_of c.args.running.now in
    let n = c.loop-local.made + c.in-Ok.local in
    let leads = leads_locally c.loop-local.running.module seen c.args.thread first (config_of c.loop-local.running) (config_of c.run.new.self) c.loop-local.calls.events c.loop-local.made
    c.in-Ok.local c.in-Ok.ensures.same c.loop-local.invariant.leads c.in-Ok.ensures.made in
    let events = c.step.new.calls.events in
    let at = config_of c.step.new.running in
    let more = c.in_ok-stop.ensures.more in
    record {
      within = omega (arith, c.if-made-steps.false);
      program = c.in_ok-stop.ensures.same ∙ c.in-Ok.ensures.same ∙ c.loop-local.invariant.program;
      few = omega (arith, more, c.loop-local.invariant.few);
      undrained = c.in_ok-stop.ensures.undrained ∙ c.loop-local.invariant.undrained;
      leads = subst (λ x. LeadsTo x c.args.thread first events (n + 1) at) (sym c.in_ok-stop.ensures.same) (c.in_ok-stop.ensures.made (ap Ok c.in_default.is) first n leads);
    }
