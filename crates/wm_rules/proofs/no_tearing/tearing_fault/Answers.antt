-- The bytes of a read, one after the other.
use Rattle.std.proofs.Common.{rules, arith}
use Rattle.wm_event.specs.LoggedRun.{execution}
use Rattle.wm_hb.proofs.Parts.{byte_found, bytes_none}
use Rattle.wm_rules.proofs.NoTearingLemmas.{tearing_byte, tearing_none}
use Rattle.wm_rules.proofs.no_tearing.tearing_fault.Goals as goal

pub returns-then-is_some : goal.returns-then-is_some
returns-then-is_some c = tearing_none (execution c.args.candidate.now) c.args.event.now c.only_writer.result (search rules) c.only_writer.ensures.only

pub returns-then-is_some-2 : goal.returns-then-is_some-2
returns-then-is_some-2 c =
    byte_found (execution c.args.candidate.now) 4 c.args.event.now.thread c.args.event.now.number c.loop-byte.byte c.tearing_fault_at-fault.result (search rules) (search rules) c.loop-byte.invariant

pub returns : goal.returns
returns c =
    bytes_none (execution c.args.candidate.now) 4 c.args.event.now.thread c.args.event.now.number c.loop-byte.byte
    (λ f u. let l = tearing_byte (execution c.args.candidate.now) c.args.event.now.thread c.args.event.now.number c.writers-writer-items.result.now (search rules) f u in omega arith)
    c.loop-byte.invariant
