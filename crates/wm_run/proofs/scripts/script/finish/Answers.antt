use Rattle.std.proofs.Common.{◌≡◌, ◌∙◌, length, ap}
use Rattle.wm_memory.proofs.Listed.{length-by_thread}
use Rattle.wm_run.proofs.Logging.{logged_events}
use Rattle.wm_run.proofs.scripts.script.finish.Goals as goal

pub recorded_run-requires : goal.recorded_run-requires
recorded_run-requires c =
    let count : length c.args.recorder.events ≡ length c.args.starts.now = ap length c.recorded_log_is_valid.ensures.recording.events ∙ length-by_thread _ _ ∙ c.requires.threads in
    logged_events c.args.starts.now c.args.runners.now c.args.recorder c.in-Ok.logs c.requires.runners count c.in-Ok.ensures
