use Rattle.std.proofs.Common.{sym, subst}
use Rattle.std.specs.Prelude.{IfSome}
use Rattle.wm_ast.specs.declared.module.Module.{Module}
use Rattle.wm_event.specs.Limits.{max_steps}
use Rattle.wm_replay.specs.Positions.{HasFollowed, IsFollowed}
use Rattle.wm_explore.proofs.moved.followed_by.Goals as goal

pub follow_on-requires : goal.follow_on-requires
follow_on-requires c =
    let m = c.args.module.now in
    let k = c.args.number in
    let t = c.args.stated.now in
    let f = c.in-Some.before in
    let is : HasFollowed m k t max_steps f = subst (λ o. IfSome o (HasFollowed m k t max_steps)) c.in-Some.is (c.in_ok-before.ensures m c.requires.recalls) in
    record { places = c.requires.places; first = subst (λ (x : Module). HasFollowed x k t max_steps f) (sym is.followed.runs.1) is }

pub returns-in-Some : goal.returns-in-Some
returns-in-Some c =
    let m = c.args.module.now in
    let k = c.args.number in
    let t = c.args.stated.now in
    let f = c.in-Some.before in
    let is : HasFollowed m k t max_steps f = subst (λ o. IfSome o (HasFollowed m k t max_steps)) c.in-Some.is (c.in_ok-before.ensures m c.requires.recalls) in
    subst (λ (x : Module). IsFollowed x k t max_steps c.in_ok-followed.followed) is.followed.runs.1 c.in_ok-followed.ensures
