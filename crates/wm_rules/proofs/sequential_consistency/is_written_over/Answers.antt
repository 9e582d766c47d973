-- The second case, where the writer is atomic and happens before the read.
use Rattle.std.proofs.Common.{rules}
use Rattle.wm_event.specs.Event.{key_of}
use Rattle.wm_event.specs.LoggedRun.{execution}
use Rattle.wm_rules.proofs.SequentialConsistencyLemmas.{written_over_if}
use Rattle.wm_rules.proofs.sequential_consistency.is_written_over.Goals as goal

pub returns-then-before : goal.returns-then-before
returns-then-before c =
    written_over_if (execution c.args.relation.now) c.args.writer c.args.other (key_of c.args.event.now) c.args.event.now c.in-Some.written.now c.before-then-before.result
    (search rules) (search rules) (search rules) (search rules) (search rules)
