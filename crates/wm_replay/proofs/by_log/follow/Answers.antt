use Rattle.std.proofs.Common.{◌≡◌, Ok, refl, rules, sym, subst, arith}
use Rattle.wm_machine.specs.State.{config_of}
use Rattle.wm_replay.specs.Positions.{HasCome, begins}
use Rattle.wm_replay.specs.Replay.{start_of}
use Rattle.wm_replay.proofs.Positions.{no_positions}
use Rattle.wm_replay.proofs.by_log.follow.Goals as goal

pub followed_from-requires-clause-come : goal.followed_from-requires-clause-come
followed_from-requires-clause-come c =
    let thread = c.in-Ok.thread in
    let m = thread.module in
    let t = c.args.stated.now in
    let is_start : start_of m t ≡ Ok (config_of thread) = search rules in
    subst (HasCome m c.args.number t thread 0 0) (sym c.new.ensures.items) record {
      start = config_of thread;
      is_start = is_start;
      listed = omega arith;
      ran_so = refl;
      reached = begins is_start c.in-Ok.ensures.at_start;
      made_at = no_positions m c.args.number t;
    }
