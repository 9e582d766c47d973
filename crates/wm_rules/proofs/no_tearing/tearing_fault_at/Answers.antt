-- The fault at a byte.
use Rattle.std.proofs.Common.{Some, None}
use Rattle.wm_rules.proofs.NoTearingLemmas.{tearing_finds}
use Rattle.wm_rules.proofs.no_tearing.tearing_fault_at.Goals as goal

pub returns-in_default : goal.returns-in_default
returns-in_default c = tearing_finds c.args.candidate.now c.args.event.now c.args.byte c.args.writer c.first_tearing.ensures.order c.requires.listed c.requires.writer None c.in_default.ensures.first

pub returns : goal.returns
returns c = rw c.key.ensures (tearing_finds c.args.candidate.now c.args.event.now c.args.byte c.args.writer c.first_tearing.ensures.order c.requires.listed c.requires.writer (Some c.in-Some.other) c.in-Some.ensures.first)
