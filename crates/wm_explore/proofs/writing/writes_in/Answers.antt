use Rattle.std.proofs.Common.{◌+◌, inl, inr, sym, ◌∙◌, rules}
use Rattle.wm_explore.proofs.Ranges.{unwritten, unwritten_outside}
use Rattle.wm_explore.proofs.writing.writes_in.Goals as goal

pub returns-then-not-writes : goal.returns-then-not-writes
returns-then-not-writes c _ byte within = unwritten c.args.event.now (c.args.op.address + byte) (sym c.writes.ensures ∙ c.if-not-writes.true)

pub returns-then-first-from : goal.returns-then-first-from
returns-then-first-from c _ byte within = unwritten_outside c.args.event.now (c.args.op.address + byte) (inl (search rules))

pub returns : goal.returns
returns c not byte within = unwritten_outside c.args.event.now (c.args.op.address + byte) (inr (search rules))
