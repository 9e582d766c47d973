use Rattle.wm_hb.proofs.ReadsFromLaws.{HasRunsTo}
use Rattle.wm_hb.proofs.reads_from.writer_runs.Given as goal

abbrev pub invariant-loop-last : goal.invariant-loop-last
invariant-loop-last l = HasRunsTo l.writers l.runs l.first l.last
