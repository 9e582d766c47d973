use Rattle.std.proofs.Common.{◌∙◌}
use Rattle.wm_tests.proofs.tests.recordings.run_of.Goals as goal

pub new-log-requires : goal.new-log-requires
new-log-requires c = c.in_ok-parts.ensures.valid.log _ (c.in_ok-logs_of.ensures ∙ c.in_ok-parts.ensures.parts.events)
