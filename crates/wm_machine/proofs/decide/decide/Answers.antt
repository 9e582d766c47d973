use Rattle.wm_machine.proofs.decide.decide.Goals as goal

pub returns-in-If-clause-leads : goal.returns-in-If-clause-leads
returns-in-If-clause-leads c m func rest here outer = rw c.in-If.is (c.entered.ensures.leads m func rest here outer)
