use Rattle.std.proofs.Common.{sym, ◌∙◌}
use Rattle.wm_recorder.specs.Recorder.{steps_of}
use Rattle.wm_run.proofs.TracedTurns.{is_absent}
use Rattle.wm_run.proofs.scripts.tracing.drain_ahead.Goals as goal

pub returns-in-None : goal.returns-in-None
returns-in-None c = is_absent (steps_of c.args.recorder.now) c.args.thread c.args.index (sym c.pending_key.ensures ∙ c.in-None.is)
