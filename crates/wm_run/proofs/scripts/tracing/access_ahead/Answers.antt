use Rattle.std.proofs.Common.{◌≡◌, ◌<◌, Some, sym, slice_get, subst, arith, length}
use Rattle.wm_memory.specs.Memory.{Buffered, State}
use Rattle.wm_memory.specs.Visibility.{events}
use Rattle.wm_recorder.specs.Recorder.{steps_of}
use Rattle.wm_replay.proofs.Needs.{access_of_need}
use Rattle.wm_run.specs.Runner.{runner_state, setting_of}
use Rattle.wm_run.specs.Traced.{accessed, full}
use Rattle.wm_run.proofs.Recordings.{is_full, not_full}
use Rattle.wm_run.proofs.TracedTurns.{access_told, key_is}
use Rattle.wm_run.proofs.scripts.tracing.access_ahead.Goals as goal

pub returns-then-order-ge-MAX_EVENTS : goal.returns-then-order-ge-MAX_EVENTS
returns-then-order-ge-MAX_EVENTS c limit below =
    let r = c.args.recorder.now in
    full c.args.op below (λ read. access_of_need c.args.runner.now.thread read c.args.op (sym (c.requires.needed read)))
    (is_full r c.recorded_log_is_valid.ensures.recording (rw c.order.ensures.value at c.if-order-ge-MAX_EVENTS.true))

pub returns : goal.returns
returns c limit below =
    let r = c.args.recorder.now in
    let t = c.args.number in
    let made = subst (λ (m : State). (b : Buffered) → slice_get m.buffers t ≡ Some b → c.accesses.result ≡ b.accesses) c.memory.ensures c.accesses.ensures.made in
    let few : length (events (steps_of r)) < 16384 =
    not_full r c.recorded_log_is_valid.ensures.recording (λ much. let fewer = rw c.order.ensures.value at c.if-order-ge-MAX_EVENTS.false in omega (arith, fewer, much)) in
    access_told (setting_of c.args.runner.now.thread.module r limit) (steps_of r) t (runner_state c.args.runner.now) c.args.op _ c.store_before-drained.result
    (accessed c.args.op below (λ read. access_of_need c.args.runner.now.thread read c.args.op (sym (c.requires.needed read))) few)
    (key_is c.args.runner.now.thread.module limit r t c.accesses.result c.args.op c.recorded_log_is_valid.ensures.recording c.requires.there made) c.store_before-drained.ensures
