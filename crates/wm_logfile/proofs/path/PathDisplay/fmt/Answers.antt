use Rattle.std.proofs.Common.{rules, sym}
use Rattle.std.proofs.Output.{has_written_append, has_written_of_eq}
use Rattle.wm_logfile.proofs.Steps.{steps_text-take}
use Rattle.wm_logfile.proofs.path.PathDisplay.fmt.Goals as goal

pub loop-index-preserved : goal.loop-index-preserved
loop-index-preserved g c p =
    has_written_of_eq _ _ _ _ _ (sym (steps_text-take _ _ c.loop-index-test.true))
    (has_written_append _ _ _ _ _ _ (c.loop-index.invariant p) (search rules))
