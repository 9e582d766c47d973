use Rattle.std.proofs.Common.{◌≡◌, ◌+◌, ◌<◌, ◌≤◌, List, ◌++◌, length, take, sym, ap, ◌∙◌, subst, arith}
use Rattle.wm_access.specs.AccessWidth.{bytes_of}
use Rattle.wm_event.specs.declared.event.EventId.{EventId}
use Rattle.wm_event.specs.Shape.{read_width}
use Rattle.wm_list.specs.Growing.{Grown}
use Rattle.wm_recorder.specs.Recorder.{Recording, IsRecording, StepsAccess, recording, initial_of, steps_of, threads_of}
use Rattle.wm_recorder.proofs.Recording.{records_valid, roomy_valid, same_recording, finds, recording_access, steps_access, has_number, lists_there, room_for_writers}
use Rattle.wm_recorder.proofs.recorder.Recorder.record.Goals as goal

pub reserve-requires : goal.reserve-requires
reserve-requires c = lists_there c.self.inside.memory c.self.inside.transcript c.args.thread c.self.invariant (subst (λ (r : Recording). c.args.thread < threads_of r) (sym c.self.view_is) c.requires.there)

pub make-requires : goal.make-requires
make-requires c = record {
  few = has_number (recording c.self.inside.memory c.self.inside.transcript) c.args.thread c.self.invariant (subst (λ (r : Recording). length r.order < 16384) (sym c.self.view_is) c.requires.few);
}

pub extend_within-requires : goal.extend_within-requires
extend_within-requires c =
    let room : length c.writers_read.result.now ≤ _ = room_for_writers c.self.inside.memory c.make.new.self c.self.inside.transcript c.args.thread c.args.op c.in-Ok.made.event c.in-Ok.made.writers c.writers_read.result.now c.self.invariant c.in-Ok.ensures.ok c.writers_read.ensures in
    rw (c.in_ok-writers.ensures) (omega (arith, room, c.bytes_read.ensures))

pub invariant_of-self-2 : goal.invariant_of-self-2
invariant_of-self-2 c =
    let same = same_recording c.self.inside.memory c.self.inside.transcript c.reserve.new.self c.in_ok-reserve.ensures.same in
    let i : IsRecording (recording c.self.inside.memory c.reserve.new.self) = subst (λ (r : Recording). IsRecording r) (sym same) c.self.invariant in
    let there : c.args.thread < length c.self.inside.memory.buffers = subst (λ (r : Recording). c.args.thread < threads_of r) (sym c.self.view_is) c.requires.there in
    let range : c.args.op.address + bytes_of c.args.op.width ≤ length c.self.inside.memory.cells.initial = subst (λ (r : Recording). c.args.op.address + bytes_of c.args.op.width ≤ length (initial_of r)) (sym c.self.view_is) c.requires.range in
    let few : length c.reserve.new.self.order.items < 16384 = subst (λ (r : Recording). length r.order < 16384) (sym (same ∙ c.self.view_is)) c.requires.few in
    let taken : c.into_list.result ≡ take (read_width c.in-Ok.made.event) c.in-Ok.made.writers =
    c.into_list.ensures ∙ (c.extend_within.ensures ∙ (ap (λ (l : List EventId). l ++ c.writers_read.result.now) (ap (λ (g : Grown EventId). g.items) c.in_ok-writers.ensures) ∙ c.writers_read.ensures)) in
    recording_access c.self.inside.memory c.make.new.self c.reserve.new.self c.add_access.new.self c.args.thread c.args.op c.in-Ok.made.event c.in-Ok.made.writers c.into_list.result c.drains_first-drained.result i
    (finds c.self.inside.memory c.reserve.new.self c.args.thread c.args.op i c.requires.op there range few)
    (sym (c.drains_first-drained.ensures (length c.self.inside.memory.buffers) c.self.inside.memory.cells.initial (steps_of (recording c.self.inside.memory c.reserve.new.self)) i.fits))
    c.in-Ok.ensures.ok taken c.add_access.ensures

pub returns-clause-valid : goal.returns-clause-valid
returns-clause-valid c = records_valid (recording c.make.new.self c.add_access.new.self) (invariant_of-self-2 c)

pub returns-in_err-reserve-clause-valid : goal.returns-in_err-reserve-clause-valid
returns-in_err-reserve-clause-valid c = roomy_valid c.self.inside.memory c.self.inside.transcript c.reserve.new.self c.reserve.ensures.same c.self.invariant

pub returns-in_err-writers-clause-valid : goal.returns-in_err-writers-clause-valid
returns-in_err-writers-clause-valid c = roomy_valid c.self.inside.memory c.self.inside.transcript c.reserve.new.self c.reserve.ensures.same c.self.invariant

pub returns-in-Err-clause-valid : goal.returns-in-Err-clause-valid
returns-in-Err-clause-valid c = rw (c.in-Err.ensures.ok) (roomy_valid c.self.inside.memory c.self.inside.transcript c.reserve.new.self c.reserve.ensures.same c.self.invariant)

pub returns-clause-ok : goal.returns-clause-ok
returns-clause-ok c =
    let same = same_recording c.self.inside.memory c.self.inside.transcript c.reserve.new.self c.in_ok-reserve.ensures.same in
    let i : IsRecording (recording c.self.inside.memory c.reserve.new.self) = subst (λ (r : Recording). IsRecording r) (sym same) c.self.invariant in
    let steps = steps_access c.self.inside.memory c.make.new.self c.reserve.new.self c.add_access.new.self c.args.thread c.args.op c.in-Ok.made.event c.in-Ok.made.writers c.into_list.result c.drains_first-drained.result c.reply.result i
    (c.drains_first-drained.ensures (length c.self.inside.memory.buffers) c.self.inside.memory.cells.initial (steps_of (recording c.self.inside.memory c.reserve.new.self)) i.fits)
    c.in-Ok.ensures.ok c.add_access.ensures c.reply.ensures in
    subst (λ (r : Recording). StepsAccess c.args.thread c.args.op r c.reply.result (recording c.make.new.self c.add_access.new.self)) (same ∙ c.self.view_is) steps
