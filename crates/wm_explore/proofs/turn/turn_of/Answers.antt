use Rattle.std.proofs.Common.{refl, subst}
use Rattle.wm_explore.specs.Turns.{EachEnds, FindsBound, FindsRead, FindsWrite}
use Rattle.wm_explore.proofs.Turning.{bounded, each_ends_in, reads, stuck, writes}
use Rattle.wm_explore.proofs.turn.turn_of.Goals as goal

pub returns-in-Some : goal.returns-in-Some
returns-in-Some c m are = bounded m c.args.state.now.log c.args.nexts.now are c.args.events c.in-Some.bound (subst (FindsBound c.args.state.now.log c.args.nexts.now c.args.events) c.in-Some.is c.met_bound.ensures)

pub returns-in-Some-first_write : goal.returns-in-Some-first_write
returns-in-Some-first_write c m are =
    writes m c.args.state.now.log c.args.nexts.now are c.args.state.now refl c.args.events c.in-Some-first_write.turn
    (subst (FindsBound c.args.state.now.log c.args.nexts.now c.args.events) c.in-None.is c.met_bound.ensures)
    (subst (FindsWrite c.args.nexts.now) c.in-Some-first_write.is c.first_write.ensures)

pub returns-in-Some-next_read : goal.returns-in-Some-next_read
returns-in-Some-next_read c m are =
    reads m c.args.state.now.log c.args.nexts.now are c.args.state.now refl c.args.events c.in-Some-next_read.turn
    (subst (FindsBound c.args.state.now.log c.args.nexts.now c.args.events) c.in-None.is c.met_bound.ensures)
    (subst (FindsRead c.args.state.now c.args.nexts.now) c.in-Some-next_read.is c.next_read.ensures)

pub returns-then-each_ends : goal.returns-then-each_ends
returns-then-each_ends c m are =
    each_ends_in m c.args.state.now.log c.args.nexts.now are (subst (EachEnds c.args.nexts.now) c.if-each_ends.true c.each_ends.ensures)

pub returns : goal.returns
returns c m are =
    stuck m c.args.state.now.log c.args.nexts.now are c.args.state.now refl c.args.events
    (subst (FindsBound c.args.state.now.log c.args.nexts.now c.args.events) c.in-None.is c.met_bound.ensures)
    (subst (FindsWrite c.args.nexts.now) c.in-None-first_write.is c.first_write.ensures)
    (subst (FindsRead c.args.state.now c.args.nexts.now) c.in-None-next_read.is c.next_read.ensures)
    (subst (EachEnds c.args.nexts.now) c.if-each_ends.false c.each_ends.ensures)
