-- The first case, where the writer synchronizes with the read.
use Rattle.std.proofs.Common.{rules}
use Rattle.wm_event.specs.Event.{key_of}
use Rattle.wm_event.specs.LoggedRun.{execution}
use Rattle.wm_rules.proofs.SequentialConsistencyLemmas.{synchronized_if}
use Rattle.wm_rules.proofs.sequential_consistency.is_synchronized.Goals as goal

pub returns-then-synchronizes : goal.returns-then-synchronizes
returns-then-synchronizes c =
    synchronized_if (execution c.args.candidate.now) c.args.writer c.args.other c.in-At.key (key_of c.args.event.now) c.args.event.now c.has_range.result
    c.in-At.is (search rules) c.has_range.ensures
