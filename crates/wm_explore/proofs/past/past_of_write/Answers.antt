use Rattle.std.proofs.Common.{sym, subst}
use Rattle.wm_explore.specs.Past.{IsThreadPast}
use Rattle.wm_explore.proofs.PastLaw.{CountsToo, own_order, own_past, thread_order, thread_past}
use Rattle.wm_explore.proofs.past.past_of_write.Goals as goal

pub returns : goal.returns
returns c initial e named knows x takes =
    let s = c.args.state.now in
    let before = c.before_next-before.result in
    let past = subst (λ b. IsThreadPast s b before) (sym named) c.before_next-before.ensures in (
      own_past initial s e knows x takes before.clock c.with.result (thread_past initial s e knows x takes before past) (subst (CountsToo c.with.result before.clock) (sym named) c.with.ensures),
      own_order initial s e knows x takes before.order c.with-2.result (thread_order initial s e knows x takes before past) (subst (CountsToo c.with-2.result before.order) (sym named) c.with-2.ensures),
      tt,
    )
