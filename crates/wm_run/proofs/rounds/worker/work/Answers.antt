use Rattle.std.proofs.Common.{ap, ◌∙◌}
use Rattle.wm_recorder.specs.Calls.{Called}
use Rattle.wm_run.proofs.Working.{end_of_stopped, refused_after, run_of_stopped, stop_of_stopped}
use Rattle.wm_run.proofs.rounds.worker.work.Goals as goal

pub finished-requires-clause-run : goal.finished-requires-clause-run
finished-requires-clause-run g c =
    let s = c.in-Ok.made in
    run_of_stopped (g.G.Gate.is_open c.args.gate.now) c.args.module.now c.args.thread c.args.start.now c.in_ok-own.own c.in_ok-running.running c.make_steps.new.running s.calls.events c.args.steps s.count s.stop
    c.in_ok-running.ensures.ok c.in_ok-own.ensures c.in-Ok.ensures.stopped

pub finished-requires-clause-stopped : goal.finished-requires-clause-stopped
finished-requires-clause-stopped g c =
    let s = c.in-Ok.made in
    stop_of_stopped (g.G.Gate.is_open c.args.gate.now) c.args.module.now c.args.thread c.args.start.now c.in_ok-running.running c.make_steps.new.running s.calls.events c.args.steps s.count s.stop
    c.in_ok-running.ensures.ok c.in-Ok.ensures.stopped

pub returns-in-Ok-clause-end : goal.returns-in-Ok-clause-end
returns-in-Ok-clause-end g c =
    let s = c.in-Ok.made in
    end_of_stopped (g.G.Gate.is_open c.args.gate.now) c.args.module.now c.args.thread c.args.start.now c.in_ok-own.own c.in_ok-running.running c.make_steps.new.running s.calls.events c.args.steps s.count s.stop c.finished.result
    c.in_ok-running.ensures.ok c.in_ok-own.ensures c.in-Ok.ensures.stopped c.finished.ensures.given c.finished.ensures.end c.finished.ensures.fits
    (ap (λ (calls : Called). calls.drains) c.finished.ensures.calls ∙ c.in-Ok.ensures.undrained)

pub returns-in-Ok-clause-refused : goal.returns-in-Ok-clause-refused
returns-in-Ok-clause-refused g c =
    let s = c.in-Ok.made in
    refused_after g.S.Accesses.refuses (g.G.Gate.is_open c.args.gate.now) c.args.module.now c.args.thread c.args.start.now c.in_ok-own.own c.in_ok-running.running c.make_steps.new.running s.calls.events c.args.steps s.count s.stop c.finished.result
    c.in_ok-running.ensures.ok c.in_ok-own.ensures c.in-Ok.ensures.stopped c.finished.ensures.given (ap (λ (calls : Called). calls.events) c.finished.ensures.calls) c.in-Ok.ensures.refused
