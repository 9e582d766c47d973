use Rattle.std.proofs.Common.{subst}
use Rattle.std.specs.Prelude.{◌≤◌, length}
use Rattle.wm_replay.specs.Following.{FollowsLog}
use Rattle.wm_explore.proofs.Idling.{after_all}
use Rattle.wm_explore.proofs.idle.reached.Goals as goal

pub returns-else-followed-len-clause-after : goal.returns-else-followed-len-clause-after
returns-else-followed-len-clause-after c =
    let f = subst (FollowsLog c.args.module.now c.args.number c.args.stated.now 1000000) c.in-Ok.is c.in_ok-follow.ensures.runs in
    let all : length c.args.stated.now.events ≤ c.in-Ok.followed.events = subst (λ n. n ≤ c.in-Ok.followed.events) c.len.ensures c.if-followed-len.false in
    after_all c.args.module.now c.args.number c.args.stated.now 1000000 _ _ _ f.0 all
