use Rattle.std.proofs.Common.{inr, refl}
use Rattle.wm_explore.proofs.past.gained_initially.Goals as goal

pub returns : goal.returns
returns c = inr (record { clock = λ a counts. absurd (c.unknown.ensures.counts.0 a counts); order = λ a counts. absurd (c.unknown.ensures.counts.1 a counts) }, refl)
