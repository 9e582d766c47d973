use Rattle.std.proofs.Common.{◌≤◌, length, sym, subst, arith}
use Rattle.std.specs.Prelude.{IfSome}
use Rattle.wm_explore.specs.Idle.{IsAfter, OnlyRead, shortened}
use Rattle.wm_machine.specs.State.{config_of}
use Rattle.wm_replay.specs.Following.{HasPlaces, RunsByLog}
use Rattle.wm_explore.proofs.Idling.{after_all, after_same}
use Rattle.wm_explore.proofs.LeavingOut.{places_left}
use Rattle.wm_explore.proofs.idle.is_idle.Goals as goal

pub reached-requires : goal.reached-requires
reached-requires c =
    let events = c.args.stated.now.events in
    let i = c.args.stretch.first in
    let n = c.args.stretch.end in
    let lt = c.if-stretch.false in
    let few : n ≤ length events = (let count = c.len-2.ensures in let gt = c.if-stretch-len.false in omega (arith, count, gt)) in
    subst (HasPlaces c.args.number) (sym c.in_ok-shorter.ensures.events) (places_left c.args.number i n events (omega (arith, lt)) few c.requires.places)

pub returns : goal.returns
returns c idle =
    let t = c.args.stated.now in
    let i = c.args.stretch.first in
    let n = c.args.stretch.end in
    let k = c.args.number in
    let m = c.args.module.now in
    let now = c.args.now.now in
    let other = c.in-Some.other in
    let lt = c.if-stretch.false in
    let more = c.if-stretch-len.false in
    let count = c.len-2.ensures in
    let all = c.if-now-len.false in
    let listed = c.len.ensures in
    let runs : RunsByLog m k t 1000000 (config_of now.thread) now.steps now.events =
    subst (λ o. RunsByLog o k t 1000000 (config_of now.thread) now.steps now.events) c.requires.same c.requires.runs in
    let here : IsAfter m k t (config_of now.thread) now.steps = after_all m k t 1000000 _ _ _ runs (omega (arith, all, listed)) in
    let there : IsAfter m k c.in_ok-shorter.shorter (config_of other.thread) other.steps =
    subst (λ o. IfSome o (λ f. IsAfter m k c.in_ok-shorter.shorter (config_of f.thread) f.steps)) c.in-Some.is c.in_ok-reached.ensures.after in
    record {
      some = lt;
      listed = omega (arith, more, count);
      read = subst (λ es. OnlyRead es i n) c.as_slice.ensures (c.only_read.ensures c.if-not-only_read.false);
      config = config_of now.thread;
      count = now.steps;
      after = here;
      fewer = other.steps;
      without = subst (λ config. IsAfter m k (shortened i n other.steps t) config other.steps) (c.comes_there.ensures.there idle)
          (after_same m k (shortened i n other.steps t) c.in_ok-shorter.shorter (config_of other.thread) other.steps c.in_ok-shorter.ensures.start c.in_ok-shorter.ensures.events there);
      sooner = c.comes_there.ensures.sooner idle;
    }
