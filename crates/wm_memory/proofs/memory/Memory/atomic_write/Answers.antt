use Rattle.std.proofs.Common.{refl, subst}
use Rattle.wm_access.specs.AccessWidth.{bytes_of}
use Rattle.wm_event.specs.declared.op.OpFields.{OpFields as Op}
use Rattle.wm_memory.specs.Table.{MakesRoom}
use Rattle.wm_memory.specs.Memory.{State}
use Rattle.wm_memory.proofs.Accesses.{atomic_after_room}
use Rattle.wm_memory.proofs.memory.Memory.atomic_write.Goals as goal

pub returns : goal.returns
returns c =
    let m : State = record { cells = c.self.inside.cells; buffers = c.self.inside.buffers.items } in
    let x : State = record { cells = c.make_room.new.self; buffers = c.self.inside.buffers.items } in
    rw (← c.self.view_is) (record { ok = atomic_after_room m x c.atomic.new.self c.args.thread c.args.op c.atomic.result.event c.atomic.result.writers c.requires.atomic (subst (λ (o : Op). MakesRoom o.address (bytes_of o.width) c.self.inside.cells c.make_room.new.self) c.fields-fields.ensures.value c.in_ok-make_room.ensures.ok) refl c.atomic.ensures.event })
