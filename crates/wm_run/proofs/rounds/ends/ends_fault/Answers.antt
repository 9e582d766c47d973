use Rattle.std.proofs.Common.{◌≡◌, ◌<◌, sym, ◌∙◌, inl, arith, below_more}
use Rattle.wm_run.specs.Ends.{ends_of}
use Rattle.wm_run.proofs.Strays.{one_each, stray_fault}
use Rattle.wm_run.proofs.rounds.ends.ends_fault.Goals as goal

pub returns-then-count_of-ne1-clause-some : goal.returns-then-count_of-ne1-clause-some
returns-then-count_of-ne1-clause-some c = record {
  below = λ k _ less. c.loop-thread.invariant.below k less;
  fault = inl (c.loop-thread-test.true, λ one. c.if-count_of-ne1.true (c.count_of.ensures ∙ one));
}

pub loop-thread-preserved : goal.loop-thread-preserved
loop-thread-preserved c = record {
  below = below_more (λ k. ends_of c.args.ends.now k ≡ 1) _ c.loop-thread.invariant.below (sym c.count_of.ensures ∙ c.if-count_of-ne1.false);
}

pub returns-clause-none : goal.returns-clause-none
returns-clause-none c =
    one_each c.args.threads c.args.ends.now c.least_stray.result (λ t lt. c.loop-thread.invariant.below t (let less : t < c.loop-thread.thread = omega (arith, lt, c.loop-thread-test.false) in less)) c.least_stray.ensures.none

pub returns-clause-some : goal.returns-clause-some
returns-clause-some c =
    stray_fault c.args.threads c.args.ends.now c.least_stray.result (λ t lt. c.loop-thread.invariant.below t (let less : t < c.loop-thread.thread = omega (arith, lt, c.loop-thread-test.false) in less)) c.least_stray.ensures.some
