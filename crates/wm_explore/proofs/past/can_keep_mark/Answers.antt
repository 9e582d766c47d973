use Rattle.wm_explore.proofs.past.can_keep_mark.Goals as goal

pub returns-in-Some : goal.returns-in-Some
returns-in-Some c broken = (c.in-Some.count, c.mark.ensures c.in-Some.count c.in-Some.is, c.can_take_new.ensures broken)
