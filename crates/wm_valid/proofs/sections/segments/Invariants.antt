use Rattle.std.proofs.Common.{ℕ, ◌<◌, get_or}
use Rattle.wm_ast.specs.declared.module.DataSegment.{DataSegment}
use Rattle.wm_valid.specs.Valid.{GoodData}
use Rattle.wm_valid.proofs.sections.segments.Given as goal

abbrev pub invariant-loop-one : goal.invariant-loop-one
invariant-loop-one l = (k : ℕ) (d : DataSegment) → k < l.one-index → GoodData l.module (get_or l.one-items k d)
