-- Each case by its number.
use Rattle.wm_rules.proofs.sequential_consistency.overtakes.Goals as goal

pub returns-in-Synchronized : goal.returns-in-Synchronized
returns-in-Synchronized c = rw (c.in-Synchronized.is, ← c.candidate.ensures.value) c.is_synchronized.ensures

pub returns-in-WrittenOver : goal.returns-in-WrittenOver
returns-in-WrittenOver c = rw c.in-WrittenOver.is c.is_written_over.ensures
