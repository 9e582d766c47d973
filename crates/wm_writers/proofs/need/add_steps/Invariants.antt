use Rattle.std.proofs.Common.{◌≡◌, ◌++◌, drop}
use Rattle.wm_writers.specs.Needs.{step_needs}
use Rattle.wm_writers.proofs.need.add_steps.Given as goal

-- with those of the links to come they are all
abbrev pub invariant-loop-link : goal.invariant-loop-link
invariant-loop-link l = l.needs ++ step_needs l.writer (drop l.link-index l.link-items) ≡ l.fn.needs ++ step_needs l.chain.from l.chain.links
