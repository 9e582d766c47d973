use Rattle.std.proofs.Common.{ℕ, ◌<◌}
use Rattle.wm_valid.specs.Valid.{GoodExport}
use Rattle.wm_valid.specs.Blame.{IsGoodAt}
use Rattle.wm_valid.proofs.sections.exports.Given as goal

abbrev pub invariant-loop-position : goal.invariant-loop-position
invariant-loop-position l = (k : ℕ) → k < l.position → IsGoodAt (GoodExport l.module) l.module.exports k
