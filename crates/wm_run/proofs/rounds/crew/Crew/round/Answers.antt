use Rattle.std.proofs.Common.{◌∙◌, length, ap, subst, sym}
use Rattle.wm_ast.specs.declared.module.Module.{Module}
use Rattle.wm_run.specs.declared.plan.Plan.{Plan}
use Rattle.wm_valid.specs.Valid.{IsInit}
use Rattle.wm_valid.proofs.Initial.{one_init}
use Rattle.wm_run.proofs.rounds.crew.Crew.round.Goals as goal

pub exchange-recorder-requires : goal.exchange-recorder-requires
exchange-recorder-requires g c =
    let crew = c.args.self.now in
    let new = c.in_ok-recorder.ensures in
    let init : IsInit g.N.Assigned.program c.initial.result.now = subst (λ (m : Module). IsInit m c.initial.result.now) crew.of_module c.initial.ensures in
    record {
      initial_is = new.initial ∙ one_init g.N.Assigned.program c.initial.result.now g.N.Over.initial init crew.can.init;
      threads_are = new.threads ∙ (c.len-threads.ensures ∙ (ap (λ (p : Plan). length p.starts) crew.of_plan ∙ sym crew.can.threads_are));
    }
