use Rattle.std.proofs.Common.{subst}
use Rattle.wm_memory.specs.Memory.{CannotLeave, MayLeave}
use Rattle.wm_run.proofs.TracedTurns.{is_drained, is_held}
use Rattle.wm_run.proofs.scripts.tracing.store_ahead.Goals as goal

pub returns-then-not-may_leave : goal.returns-then-not-may_leave
returns-then-not-may_leave c =
    is_held c.args.recorder.now c.args.thread c.args.index c.args.store c.recorded_log_is_valid.ensures.recording c.requires.there c.requires.listed
    (subst (CannotLeave c.args.thread c.args.index) c.memory.ensures c.if-not-may_leave.ensures)

pub returns : goal.returns
returns c =
    is_drained c.args.recorder.now c.args.thread c.args.index c.args.store c.recorded_log_is_valid.ensures.recording c.requires.there c.requires.listed
    (subst (MayLeave c.args.thread c.args.index) c.memory.ensures c.if-not-may_leave.ensures)
