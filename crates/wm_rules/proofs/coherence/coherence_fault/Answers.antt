-- The bytes of a read, one after the other.
use Rattle.std.proofs.Common.{rules, arith}
use Rattle.wm_event.specs.LoggedRun.{execution}
use Rattle.wm_hb.proofs.Parts.{byte_found, bytes_none}
use Rattle.wm_rules.proofs.CaseLemmas.{byte_more, coherence_byte}
use Rattle.wm_rules.proofs.coherence.coherence_fault.Goals as goal

pub returns-then-is_some : goal.returns-then-is_some
returns-then-is_some c = search (rules, byte_found)

pub loop-byte-preserved : goal.loop-byte-preserved
loop-byte-preserved c = search (rules, byte_more)

pub returns : goal.returns
returns c =
    bytes_none (execution c.args.relation.now) 3 c.args.event.now.thread c.args.event.now.number c.loop-byte.byte
    (λ f u. let l = coherence_byte (execution c.args.relation.now) c.args.event.now.thread c.args.event.now.number c.writers-writers.result.now (search rules) f u in omega arith)
    c.loop-byte.invariant
