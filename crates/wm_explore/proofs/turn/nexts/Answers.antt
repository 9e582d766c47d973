use Rattle.wm_replay.proofs.Logs.{places_in}
use Rattle.wm_explore.proofs.Items.{item_at}
use Rattle.wm_explore.proofs.Moving.{moves_so}
use Rattle.wm_explore.proofs.turn.nexts.Goals as goal

pub next_of_thread-requires-clause-places : goal.next_of_thread-requires-clause-places
next_of_thread-requires-clause-places c =
    let is = item_at c.args.state.now.log c.threads-stated-items.result.now c.loop-number.number c.stated-item.result c.threads-stated-items.ensures.value c.loop-number-test.true c.stated-item.is in
    places_in c.args.state.now.log c.loop-number.number c.stated-item.result c.threads-stated-items.ensures.keys is

pub next_of_thread-requires-clause-moved : goal.next_of_thread-requires-clause-moved
next_of_thread-requires-clause-moved c =
    let is = item_at c.args.state.now.log c.threads-stated-items.result.now c.loop-number.number c.stated-item.result c.threads-stated-items.ensures.value c.loop-number-test.true c.stated-item.is in
    moves_so c.args.module.now c.args.state.now c.loop-number.number c.stated-item.result is c.args.moved.now c.requires.moved
