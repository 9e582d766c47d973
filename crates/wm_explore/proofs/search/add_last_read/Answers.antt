use Rattle.std.proofs.Common.{inl, subst}
use Rattle.std.proofs.lemmas.Result.{on_ok_weaker}
use Rattle.wm_explore.specs.Past.{FindsPast}
use Rattle.wm_explore.proofs.search.add_last_read.Goals as goal

pub returns-in_ok-child-in-Some : goal.returns-in_ok-child-in-Some
returns-in_ok-child-in-Some c =
    let s = c.args.state in
    let initial = c.args.initial.now in
    on_ok_weaker c.add_permitted.result
    (λ adds.
    inl (
      c.in_ok-child-in-Some.child,
      record {
        is_child = c.in_ok-child-in-Some.ensures.child;
        finds = λ knows. c.in_ok-child-in-Some.ensures.pasts initial knows (subst (FindsPast initial s c.args.event) c.in-Some.is (c.past_of.ensures knows));
        known = c.in_ok-child-in-Some.ensures.known;
      },
      adds,
    )) c.add_permitted.ensures
