use Rattle.std.proofs.Common.{◌≡◌, Some, ◌∙◌, slice_get, subst}
use Rattle.std.proofs.lemmas.Result.{IfOk-weaker}
use Rattle.wm_memory.specs.Memory.{Buffered, State}
use Rattle.wm_run.proofs.TracedTurns.{pending_of}
use Rattle.wm_run.proofs.scripts.tracing.pending_of.Goals as goal

pub returns : goal.returns
returns c =
    let t = c.args.thread in
    let shown = subst (λ (m : State). (b : Buffered) → slice_get m.buffers t ≡ Some b → c.stores.result.now ≡ b.stores) c.memory.ensures c.stores.ensures.waiting in
    IfOk-weaker c.keys_of.result _ _
    (λ keys are. are ∙ pending_of c.args.recorder.now t c.stores.result.now c.recorded_log_is_valid.ensures.recording c.requires.there shown)
    c.keys_of.ensures
