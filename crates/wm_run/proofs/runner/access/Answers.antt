use Rattle.std.proofs.Common.{◌≡◌, ℕ, ◌+◌, ◌<◌, ◌≤◌, Some, length, refl, sym, ap, subst, ◌∙◌, arith}
use Rattle.wm_access.specs.AccessWidth.{bytes_of}
use Rattle.wm_machine.specs.State.{RepliesTo, config_of, value_or_zero}
use Rattle.wm_machine.specs.Step.{step, next_config}
use Rattle.wm_ast.specs.Module.{memory_size}
use Rattle.wm_memory.specs.Memory.{drains_first, ready}
use Rattle.wm_memory.specs.Visibility.{events}
use Rattle.wm_recorder.specs.Recorder.{initial_of, steps_of}
use Rattle.wm_recorder.specs.Transcript.{access_items}
use Rattle.wm_replay.proofs.Needs.{access_of_need, made_access}
use Rattle.wm_run.specs.Script.{access, full, value_read}
use Rattle.wm_run.specs.Runner.{setting_of}
use Rattle.wm_run.proofs.Accesses.{reply_value}
use Rattle.wm_run.proofs.InBounds.{in_bounds}
use Rattle.wm_run.proofs.Recordings.{is_full, not_full}
use Rattle.wm_run.proofs.Running.{runs_of_access}
use Rattle.wm_run.proofs.runner.access.Goals as goal

pub advance-requires : goal.advance-requires
advance-requires c = subst (λ need. RepliesTo need (Some c.in-Ok.reply)) (c.requires.needed 0) c.in-Ok.ensures.answers

pub returns-in-Ok-advance-clause-moves : goal.returns-in-Ok-advance-clause-moves
returns-in-Ok-advance-clause-moves c = (
  record {
    runs = runs_of_access c.args.thread.now c.args.op (sym (c.requires.needed 0));
    moves = c.in-Ok-advance.ensures.moves;
  },
  λ made limit below.
      let r = c.args.recorder.now in
      let thread = c.args.thread.now in
      let op = c.args.op in
      let g = setting_of thread.module r limit in
      let v = value_read g r.history c.args.number op in
      let asks = λ (read : ℕ). access_of_need thread read op (sym (c.requires.needed read)) in
      let brings : value_or_zero c.in-Ok.reply.read ≡ v =
      ap (λ given. value_or_zero given.read) c.in-Ok.ensures.ok.reply ∙ reply_value (initial_of r) (ready (steps_of r) c.args.number op) c.args.number op in
      let leads = made_access (step thread.module v (config_of thread)) op (config_of c.advance.new.self) (asks v)
      (subst (λ read. next_config (step thread.module read (config_of thread)) ≡ Some (config_of c.advance.new.self)) brings c.in-Ok-advance.ensures.ok) in
      let few : length (events (steps_of r)) < 16384 = not_full r c.recorded_log_is_valid.ensures.recording c.in-Ok.ensures.fault.2 in
      record {
        items = access_items (drains_first (steps_of r) c.args.number op) c.args.number op;
        steps = access (let lt : made < limit = omega (arith, below) in lt) few asks leads;
        adds = c.in-Ok.ensures.ok.adds;
      },
)

pub returns-in-Err-Full-clause-moves : goal.returns-in-Err-Full-clause-moves
returns-in-Err-Full-clause-moves c =
    let r = c.args.recorder.now in (
      refl,
      c.in-Err-Full.ensures.ok,
      λ made limit. full c.args.op (λ read. access_of_need c.args.thread.now read c.args.op (sym (c.requires.needed read)))
          (is_full r c.recorded_log_is_valid.ensures.recording (let fault = rw c.in-Err-Full.field-0-is at c.in-Err-Full.ensures.fault in fault.2)),
    )

pub unreachable-requires-in-Err-OutOfBounds : goal.unreachable-requires-in-Err-OutOfBounds
unreachable-requires-in-Err-OutOfBounds c =
    let op = c.args.op in
    let m = c.args.thread.now.module in
    let fault = rw c.in-Err-OutOfBounds.field-0-is at c.in-Err-OutOfBounds.ensures.fault in
    let within : op.address + bytes_of op.width ≤ memory_size m = in_bounds m 0 (config_of c.args.thread.now) op (access_of_need c.args.thread.now 0 op (sym (c.requires.needed 0))) in
    let past : length (initial_of c.args.recorder.now) < op.address + bytes_of op.width = fault.1 in
    let size : length (initial_of c.args.recorder.now) ≡ memory_size m = c.requires.memory.size in
    omega (arith, within, past, size)
