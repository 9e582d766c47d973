use Rattle.std.proofs.Common.{◌<◌, inr, subst}
use Rattle.wm_explore.proofs.past.can_begin.Goals as goal

pub returns-then-not-has_source : goal.returns-then-not-has_source
returns-then-not-has_source c _ = inr (inr (inr (c.loop-byte.byte, subst (λ n. c.loop-byte.byte < n) c.bytes-byte-end.ensures c.loop-byte-test.true, c.has_source.ensures c.if-not-has_source.true)))
