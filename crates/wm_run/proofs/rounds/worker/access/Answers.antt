use Rattle.std.proofs.Common.{refl, rules}
use Rattle.wm_machine.specs.State.{config_of}
use Rattle.wm_replay.proofs.Needs.{access_of_need}
use Rattle.wm_run.proofs.Calling.{leads_by_call}
use Rattle.wm_run.proofs.Leading.{before_access}
use Rattle.wm_run.proofs.rounds.worker.access.Goals as goal

pub returns-in-Ok-advance-clause-made : goal.returns-in-Ok-advance-clause-made
returns-in-Ok-advance-clause-made g c = λ _ first n so.
    leads_by_call c.args.running.now c.args.thread first (config_of c.advance.new.self) c.args.calls.now c.reserve.new.self c.access.new.calls n c.args.op c.in-Ok.reply
    c.reserve.ensures.same c.in-Ok.ensures.called so c.requires.asks c.in-Ok.ensures.answers c.in-Ok-advance.ensures.ok

pub returns-then-not-before-clause-stopped : goal.returns-then-not-before-clause-stopped
returns-then-not-before-clause-stopped g c = (search rules, refl, (before_access c.args.running.now c.args.op c.requires.asks, search rules))

pub returns-in-Err : goal.returns-in-Err
returns-in-Err g c = record {
  same = refl;
  more = search rules;
  undrained = search rules;
  made = λ other. absurd (cc other);
  stopped = (search rules, refl, before_access c.args.running.now c.args.op c.requires.asks);
  refused = λ _. (c.args.op, c.in-Err.field-0, access_of_need c.args.running.now 0 c.args.op (c.requires.asks 0), c.in-Err.ensures.refused);
}
