use Rattle.std.proofs.Common.{◌≡◌, ◌+◌, ◌<◌, ◌^◌, Some, slice_get, refl, subst, sym, arith}
use Rattle.wm_access.specs.AccessWidth.{bytes_of}
use Rattle.wm_event.specs.declared.op.OpFields.{OpFields as Op}
use Rattle.wm_memory.specs.Table.{MakesRoom}
use Rattle.wm_memory.specs.Memory.{State, Buffered}
use Rattle.wm_memory.proofs.Accesses.{store_with_room, store_when_full}
use Rattle.wm_memory.proofs.Waiting.{pending_waits, published_buffer}
use Rattle.wm_memory.proofs.memory.Memory.plain_store.Goals as goal

pub returns-then-pending-lt-MAX_PENDING : goal.returns-then-pending-lt-MAX_PENDING
returns-then-pending-lt-MAX_PENDING c =
    let m : State = record { cells = c.self.inside.cells; buffers = c.self.inside.buffers.items } in
    let x : State = record { cells = c.make_room.new.self; buffers = c.self.inside.buffers.items } in
    rw (← c.self.view_is) (record { ok = store_with_room m x c.store.new.self c.args.thread c.pending.result c.args.op c.store.result.event c.store.result.writers c.requires.store (subst (λ (o : Op). MakesRoom o.address (bytes_of o.width) c.self.inside.cells c.make_room.new.self) c.fields-fields.ensures.value c.in_ok-make_room.ensures.ok) refl c.pending.ensures.count c.if-pending-lt-MAX_PENDING.true c.store.ensures.event })

pub publish-requires : goal.publish-requires
publish-requires c =
    let x : State = record { cells = c.make_room.new.self; buffers = c.self.inside.buffers.items } in
    pending_waits c.args.thread c.pending.result x c.pending.ensures.count (λ z. omega (arith, z, c.if-pending-lt-MAX_PENDING.false))

pub store-requires-2-clause-few : goal.store-requires-2-clause-few
store-requires-2-clause-few c = λ b h. (
    let x : State = record { cells = c.make_room.new.self; buffers = c.self.inside.buffers.items } in
    let q = published_buffer c.args.thread 0 x c.publish.new.self c.publish.ensures b h in
    let few : (d : Buffered) → slice_get c.self.inside.buffers.items c.args.thread ≡ Some d → d.accesses + 1 < 2 ^ 32 = subst (λ (m : State). (d : Buffered) → slice_get m.buffers c.args.thread ≡ Some d → d.accesses + 1 < 2 ^ 32) (sym c.self.view_is) c.requires.few in
    omega (arith, q.1.accesses, few q.0 q.1.was))

pub store-requires-2-clause-room : goal.store-requires-2-clause-room
store-requires-2-clause-room c = λ b h. (
    let x : State = record { cells = c.make_room.new.self; buffers = c.self.inside.buffers.items } in
    let q = published_buffer c.args.thread 0 x c.publish.new.self c.publish.ensures b h in
    omega (arith, q.1.one_less, c.pending.ensures.count.0 q.0 q.1.was, c.pending.ensures.few))

pub returns : goal.returns
returns c =
    let m : State = record { cells = c.self.inside.cells; buffers = c.self.inside.buffers.items } in
    let x : State = record { cells = c.make_room.new.self; buffers = c.self.inside.buffers.items } in
    rw (← c.self.view_is) (record { ok = store_when_full m x c.publish.new.self c.store-2.new.self c.args.thread c.pending.result c.args.op c.store-2.result.event c.store-2.result.writers c.requires.store (subst (λ (o : Op). MakesRoom o.address (bytes_of o.width) c.self.inside.cells c.make_room.new.self) c.fields-fields.ensures.value c.in_ok-make_room.ensures.ok) refl c.pending.ensures.count (omega (arith, c.if-pending-lt-MAX_PENDING.false, c.pending.ensures.few)) c.publish.ensures c.store-2.ensures.event })
