use Rattle.std.proofs.Common.{◌<◌, inr, subst}
use Rattle.wm_explore.proofs.past.can_take.Goals as goal

pub returns-then-not-has_source : goal.returns-then-not-has_source
returns-then-not-has_source c _ = inr (c.loop-other.other, subst (λ n. c.loop-other.other < n) c.bytes-other-end.ensures c.loop-other-test.true, c.has_source.ensures c.if-not-has_source.true)
