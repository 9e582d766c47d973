use Rattle.std.proofs.Common.{◌≡◌, length}
use Rattle.wm_closure.specs.Graph.{LowersSources}
use Rattle.wm_closure.proofs.lower_sources.Given as goal

abbrev pub invariant-loop-source : goal.invariant-loop-source
invariant-loop-source l = record {
  size : length l.rows ≡ length l.initial.rows;
  lowered : LowersSources l.width l.sources l.node l.source-index l.initial.rows l.rows;
}
