use Rattle.wm_run.proofs.Recordings.{drains_at}
use Rattle.wm_run.proofs.runner.drain_at.Goals as goal

pub returns : goal.returns
returns c =
    drains_at c.args.thread c.args.index c.in_ok-_drained._drained c.args.recorder.now c.step_drain_at.new.self
    c.recorded_log_is_valid.ensures.recording c.recorded_log_is_valid-2.ensures.recording c.in_ok-_drained.ensures.ok
