use Rattle.std.proofs.Common.{◌||◌, ap, ◌∙◌}
use Rattle.wm_machine.specs.State.{config_of}
use Rattle.wm_run.specs.Stops.{is_own}
use Rattle.wm_run.proofs.Leading.{run_is, stands}
use Rattle.wm_run.proofs.rounds.worker.finished.Goals as goal

pub invariant_of-result : goal.invariant_of-result
invariant_of-result c =
    let m = c.args.module.now in
    let at = config_of c.args.running in
    let before = stands m c.args.thread c.args.start c.end_of-end.result c.args.made.calls.events c.args.made.count at c.requires.run in
    record {
      is_run = rw (c.of.ensures, c.end_of-end.ensures.end) (run_is m c.args.thread c.args.start c.args.made.calls.events c.args.made.count at c.requires.run);
      stopped = rw c.of.ensures (ap (λ b. is_own c.args.made.stop || b) before ∙ c.requires.stopped);
    }
