use Rattle.wm_explore.proofs.turn.can_read.Goals as goal

pub returns-in-Some : goal.returns-in-Some
returns-in-Some c none = (c.in-Some.count, c.mark.ensures c.in-Some.count c.in-Some.is, c.has_new.ensures none)
