use Rattle.std.proofs.Common.{subst, sym}
use Rattle.wm_replay.specs.Following.{FollowsLog}
use Rattle.wm_replay.specs.Comparison.{ComparesThread}
use Rattle.wm_replay.specs.Positions.{ArePositionsOf, HasPositions, unstarted, ran}
use Rattle.wm_replay.proofs.Logs.{unstarted_other}
use Rattle.wm_replay.proofs.compare.replay_thread.Goals as goal

pub returns-in-Err : goal.returns-in-Err
returns-in-Err c =
    let m = c.args.module.now in
    let k = c.args.number in
    let t = c.args.stated.now in
    let refused = subst (FollowsLog m k t t.steps) c.in-Err.is c.in_ok-fault.ensures.runs in
    record {
      compares = unstarted_other m k t c.in-Err.fault refused;
      positions = subst (ArePositionsOf m k t) (sym c.new.ensures) (unstarted refused.0);
    }

pub returns-in-Ok : goal.returns-in-Ok
returns-in-Ok c =
    let m = c.args.module.now in
    let k = c.args.number in
    let t = c.args.stated.now in
    let runs = subst (FollowsLog m k t t.steps) c.in-Ok.is c.in_ok-fault.ensures.runs in
    let positions = subst (HasPositions m k t) c.in-Ok.is c.in_ok-fault.ensures.positions in
    record {
      compares = subst (λ own. ComparesThread own k t c.difference_of-difference.result) runs.1 c.difference_of-difference.ensures;
      positions = ran runs.0 positions;
    }
