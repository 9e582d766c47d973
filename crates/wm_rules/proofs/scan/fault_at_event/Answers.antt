-- Each rule by its number.
use Rattle.wm_rules.proofs.scan.fault_at_event.Goals as goal

pub returns-in-NoTearing : goal.returns-in-NoTearing
returns-in-NoTearing c = rw (c.in-NoTearing.is, ← c.candidate.ensures.value) c.tearing_fault.ensures
