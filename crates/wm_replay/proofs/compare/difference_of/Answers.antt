use Rattle.std.proofs.Common.{refl, subst}
use Rattle.wm_replay.specs.Comparison.{IsDifference}
use Rattle.wm_replay.proofs.Differing.{no_run}
use Rattle.wm_replay.proofs.compare.difference_of.Goals as goal

pub returns-in-Some : goal.returns-in-Some
returns-in-Some c =
    let m = c.args.followed.now.thread.module in
    let k = c.args.number in
    let t = c.args.stated.now in
    let differs = subst (IsDifference m k t) c.in-Some.is c.differing_place.ensures in
    ((refl, differs), no_run m k t c.in-Some.place differs)
