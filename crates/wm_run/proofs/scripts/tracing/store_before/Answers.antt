use Rattle.std.proofs.Common.{◌∙◌, subst}
use Rattle.wm_memory.specs.Memory.{DrainsFirst, State}
use Rattle.wm_run.proofs.TracedTurns.{no_store_before, some_store_before}
use Rattle.wm_run.proofs.scripts.tracing.store_before.Goals as goal

pub returns-then-not-drains_first : goal.returns-then-not-drains_first
returns-then-not-drains_first c =
    no_store_before c.args.recorder.now c.args.thread c.args.op c.drains_first.result c.recorded_log_is_valid.ensures.recording
    (subst (λ (m : State). DrainsFirst c.args.thread c.args.op m c.drains_first.result) c.memory.ensures c.drains_first.ensures) c.if-not-drains_first.true

pub returns : goal.returns
returns c =
    c.pending_key.ensures
    ∙ some_store_before c.args.recorder.now c.args.thread c.args.op c.drains_first.result c.recorded_log_is_valid.ensures.recording
    (subst (λ (m : State). DrainsFirst c.args.thread c.args.op m c.drains_first.result) c.memory.ensures c.drains_first.ensures) c.if-not-drains_first.false
