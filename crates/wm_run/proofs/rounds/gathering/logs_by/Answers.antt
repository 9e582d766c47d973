use Rattle.std.proofs.Common.{◌≡◌, ◌++◌, ◌∷◌, [], rules, ◌∙◌, arith}
use Rattle.wm_run.proofs.Together.{logs_more}
use Rattle.wm_run.proofs.rounds.gathering.logs_by.Goals as goal

pub loop-thread-preserved : goal.loop-thread-preserved
loop-thread-preserved c =
    let one = c.requires.each c.loop-thread.thread c.loop-thread-test.true in
    let longer : c.push.new.self.items ≡ c.loop-thread.logs.items ++ c.in_ok-log_by.field-0 ∷ [] = search rules in
    record {
      count = search rules;
      each = rw longer (logs_more c.args.ends.now c.loop-thread.logs.items c.loop-thread.thread c.end_of.result.now c.in_ok-log_by.field-0 c.loop-thread.invariant.count one c.end_of.ensures c.in_ok-log_by.ensures c.loop-thread.invariant.each);
    }

pub returns : goal.returns
returns c =
    let all : c.loop-thread.thread ≡ c.args.threads = omega (arith, c.loop-thread-test.false, c.loop-thread.auto.thread-end) in
    rw c.from_vec.ensures (record {
      count = c.loop-thread.invariant.count ∙ all;
      each = rw all at (c.loop-thread.invariant.each);
    })
