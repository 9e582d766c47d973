use Rattle.std.proofs.Common.{refl, length}
use Rattle.std.proofs.lemmas.Option.{slice_get_read}
use Rattle.wm_run.proofs.Strays.{all_below, all_least, no_stray, one_stray}
use Rattle.wm_run.proofs.rounds.ends.least_stray.Goals as goal

pub loop-end-preserved-then-thread-threads : goal.loop-end-preserved-then-thread-threads
loop-end-preserved-then-thread-threads c =
    let ends = c.args.ends.now in
    let at = slice_get_read ends (length ends) c.loop-end.end-index c.end-item.result refl c.loop-end-test.true c.end-item.is in
    record { strays = no_stray c.args.threads ends c.loop-end.end-index c.end-item.result c.loop-end.least at c.if-thread-threads.true c.loop-end.invariant.strays }

pub loop-end-preserved : goal.loop-end-preserved
loop-end-preserved c =
    let ends = c.args.ends.now in
    let at = slice_get_read ends (length ends) c.loop-end.end-index c.end-item.result refl c.loop-end-test.true c.end-item.is in
    record {
      strays = one_stray c.args.threads ends c.loop-end.end-index c.lesser.result c.end-item.result c.loop-end.least at c.if-thread-threads.false c.loop-end.invariant.strays
          c.lesser.ensures.at_most c.lesser.ensures.or_less c.lesser.ensures.one;
    }

pub returns-clause-none : goal.returns-clause-none
returns-clause-none c = all_below c.args.threads c.args.ends.now c.loop-end.end-index c.loop-end.least c.loop-end-test.false c.loop-end.invariant.strays

pub returns-clause-some : goal.returns-clause-some
returns-clause-some c = all_least c.args.threads c.args.ends.now c.loop-end.end-index c.loop-end.least c.loop-end-test.false c.loop-end.invariant.strays
