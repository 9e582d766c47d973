use Rattle.std.proofs.Common.{◌≡◌, length, rules, arith}
use Rattle.std.proofs.lemmas.List.{same_lists}
use Rattle.wm_explore.proofs.cache.same_events.Goals as goal

pub returns : goal.returns
returns c _ =
    let lengths : length c.args.events.now ≡ length c.args.others.now = search rules in
    same_lists c.args.events.now c.args.others.now lengths (λ k d lt. c.loop-index.invariant.same k d (omega (arith, lt, c.loop-index-test.false)))
