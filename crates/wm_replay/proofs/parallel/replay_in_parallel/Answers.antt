use Rattle.std.proofs.Common.{◌≡◌, ◌≤◌, ◌+◌, Ok, Some, ap, length, length-append, [], ◌∷◌, ◌++◌, refl, subst, sym, ◌∙◌, arith}
use Rattle.std.specs.Prelude.{slice_get}
use Rattle.std.proofs.lemmas.Iterator.Adapters.{YieldsList-from_vec}
use Rattle.std.proofs.lemmas.Iterator.Consumers.{YieldsList-end, YieldsList-turn}
use Rattle.std.proofs.lemmas.Option.{slice_get_read}
use Rattle.wm_replay.proofs.Comparisons.{all_run, differs, more, positions_kept, runs}
use Rattle.wm_replay.proofs.Logs.{RunsBelow}
use Rattle.wm_replay.proofs.parallel.replay_in_parallel.Goals as goal

pub returns-in-Some-difference : goal.returns-in-Some-difference
returns-in-Some-difference g c =
    let m = c.args.module.now in
    let log = c.args.log.now in
    let answers = c.in_ok-replayed-items.replayed-items.items in
    let given = c.into_iter-replayed-iterator.ensures.into_iter_gives in
    let k = length c.loop-replayed.yielded in
    let road = YieldsList-turn (YieldsList-from_vec _ given.0 (given.1 ∙ c.in_ok-replayed-items.replayed-items.ok.0)) c.loop-replayed.yielded c.loop-replayed.replayed-iterator c.loop-replayed.yielded_by c.next.result c.next.new.self c.in-Some.replayed c.in-Some.is c.next.ensures.steps in
    let at : slice_get answers k ≡ Some (Ok c.in_ok-difference.field-0) = slice_get_read answers (length answers) k c.in-Some.replayed refl road.0 road.1 ∙ ap Some c.in_ok-difference.was in
    record {
      answer = differs m log answers c.in_ok-replayed-items.ensures k c.in_ok-difference.field-0 at c.in-Some-difference.answer c.in-Some-difference.is c.loop-replayed.invariant.runs;
      positions = positions_kept m log answers c.in_ok-replayed-items.ensures k c.in_ok-difference.field-0 at c.in-Some-difference.answer c.push.new.self.items c.in-Some-difference.is;
    }

pub loop-replayed-preserved : goal.loop-replayed-preserved
loop-replayed-preserved g c =
    let m = c.args.module.now in
    let log = c.args.log.now in
    let answers = c.in_ok-replayed-items.replayed-items.items in
    let given = c.into_iter-replayed-iterator.ensures.into_iter_gives in
    let k = length c.loop-replayed.yielded in
    let road = YieldsList-turn (YieldsList-from_vec _ given.0 (given.1 ∙ c.in_ok-replayed-items.replayed-items.ok.0)) c.loop-replayed.yielded c.loop-replayed.replayed-iterator c.loop-replayed.yielded_by c.next.result c.next.new.self c.in-Some.replayed c.in-Some.is c.next.ensures.steps in
    let at : slice_get answers k ≡ Some (Ok c.in_ok-difference.field-0) = slice_get_read answers (length answers) k c.in-Some.replayed refl road.0 road.1 ∙ ap Some c.in_ok-difference.was in
    let table = c.loop-replayed.positions.items in
    let new = c.push.new.self.items in
    let more = more m log answers c.in_ok-replayed-items.ensures k c.in_ok-difference.field-0 at table new c.loop-replayed.invariant.count c.loop-replayed.invariant.each c.in_ok-push.ensures.items in
    let one : length (c.loop-replayed.yielded ++ c.in-Some.replayed ∷ []) ≡ k + 1 = length-append c.loop-replayed.yielded (c.in-Some.replayed ∷ []) in
    record {
      runs = subst (RunsBelow m log) (sym one) (runs m log answers c.in_ok-replayed-items.ensures k c.in_ok-difference.field-0 at c.in_default.is c.loop-replayed.invariant.runs);
      count = more.0 ∙ sym one;
      each = more.1;
    }

pub returns : goal.returns
returns g c =
    let m = c.args.module.now in
    let log = c.args.log.now in
    let answers = c.in_ok-replayed-items.replayed-items.items in
    let given = c.into_iter-replayed-iterator.ensures.into_iter_gives in
    let road = YieldsList-end (YieldsList-from_vec _ given.0 (given.1 ∙ c.in_ok-replayed-items.replayed-items.ok.0)) c.loop-replayed.yielded c.loop-replayed.replayed-iterator c.loop-replayed.yielded_by c.next.result c.next.new.self c.in-None.is c.next.ensures.steps in
    let all : length answers ≤ length c.loop-replayed.yielded = let same = road.1 in omega (arith, same) in
    record {
      answer = all_run m log answers (length c.loop-replayed.yielded) c.in_ok-replayed-items.ensures all c.loop-replayed.invariant.runs;
      positions = record {
        count = c.loop-replayed.invariant.count ∙ road.1 ∙ c.in_ok-replayed-items.ensures.size;
        each = c.loop-replayed.invariant.each;
      };
    }
