use Rattle.std.proofs.Common.{subst, sym, Bool}
use Rattle.wm_memory.specs.Memory.{DrainsFirst}
use Rattle.wm_memory.proofs.Accesses.{room_first, full_first}
use Rattle.wm_memory.proofs.memory.Memory.drains_first.Goals as goal

pub returns-then-pending-ne-MAX_PENDING : goal.returns-then-pending-ne-MAX_PENDING
returns-then-pending-ne-MAX_PENDING c = room_first c.args.thread c.pending.result c.args.op c.args.self.now c.requires c.pending.ensures.count c.if-pending-ne-MAX_PENDING.true

pub returns : goal.returns
returns c = subst (λ (b : Bool). DrainsFirst c.args.thread c.args.op c.args.self.now b) (sym c.is_plain_store.ensures) (full_first c.args.thread c.pending.result c.args.op c.args.self.now c.requires c.pending.ensures.count c.if-pending-ne-MAX_PENDING.false)
