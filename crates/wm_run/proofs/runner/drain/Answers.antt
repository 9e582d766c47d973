use Rattle.wm_run.proofs.Recordings.{drains}
use Rattle.wm_run.proofs.runner.drain.Goals as goal

pub returns : goal.returns
returns c =
    drains c.args.thread c.in_ok-_drained._drained c.args.recorder.now c.step_drain.new.self
    c.recorded_log_is_valid.ensures.recording c.recorded_log_is_valid-2.ensures.recording c.in_ok-_drained.ensures.ok
