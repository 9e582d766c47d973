use Rattle.std.proofs.Common.{◌<◌, refl, arith}
use Rattle.wm_run.specs.Gathered.{Agrees}
use Rattle.wm_run.proofs.OneEach.{one_more_end}
use Rattle.wm_run.proofs.rounds.gathering.first_split.Goals as goal

pub returns-then-not-agrees-clause-some : goal.returns-then-not-agrees-clause-some
returns-then-not-agrees-clause-some c = record {
  there = omega (arith, c.loop-thread-test.true, c.requires.threads);
  split = (c.end_of.result.now, c.end_of.ensures, λ agree. absurd (cc (c.if-not-agrees.ensures.1 agree)));
  below = c.loop-thread.invariant.agree;
}

pub loop-thread-preserved : goal.loop-thread-preserved
loop-thread-preserved c =
    let one = c.requires.ends.each c.loop-thread.thread c.loop-thread-test.true in
    record {
      agree = one_more_end (λ _ x. Agrees c.args.recorder.now x) c.args.ends.now c.loop-thread.thread c.end_of.result.now one c.end_of.ensures (c.if-not-agrees.ensures.0 refl) c.loop-thread.invariant.agree;
    }

pub returns-clause-none : goal.returns-clause-none
returns-clause-none c = λ t e lt is. c.loop-thread.invariant.agree t e (let below : t < c.loop-thread.thread = omega (arith, lt, c.requires.threads, c.loop-thread-test.false) in below) is
