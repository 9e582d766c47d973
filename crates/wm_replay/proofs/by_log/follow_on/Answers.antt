use Rattle.std.proofs.Common.{sym, subst}
use Rattle.wm_replay.specs.Positions.{HasCome}
use Rattle.wm_replay.proofs.Onward.{has_come}
use Rattle.wm_replay.proofs.by_log.follow_on.Goals as goal

pub followed_from-requires-clause-come : goal.followed_from-requires-clause-come
followed_from-requires-clause-come c =
    let f = c.args.followed in
    subst (HasCome f.thread.module c.args.number c.args.stated.now f.thread f.steps f.events) (sym c.into_vec.ensures)
    (has_come c.args.number c.args.stated.now c.args.limit f c.requires.first)
