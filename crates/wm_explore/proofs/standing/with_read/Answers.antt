use Rattle.std.proofs.Common.{rules}
use Rattle.wm_explore.proofs.StandingLaw.{through_read}
use Rattle.wm_explore.proofs.standing.with_read.Goals as goal

pub returns-in-Some : goal.returns-in-Some
returns-in-Some c initial knows before x takes =
    through_read initial c.args.state.now c.args.next.now knows x takes c.args.place c.args.order c.joined.result c.in-Some.past.now (before x takes) c.requires.atomic c.requires.writing
    (c.is_read_before.ensures c.if-not-is_read_before.false) (search rules) c.joined.ensures
