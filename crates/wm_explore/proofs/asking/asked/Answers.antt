use Rattle.std.proofs.Common.{arith}
use Rattle.std.proofs.lemmas.Option.{slice_get_within}
use Rattle.wm_explore.proofs.asking.asked.Goals as goal

pub returns : goal.returns
returns c = record {
  only = c.loop-reader.invariant.only;
  all = λ i j le r w e f at_r at_w is_r is_w gives.
      let within = slice_get_within c.args.arrived.now i r at_r in
      c.loop-reader.invariant.all i j (omega (arith, within, c.loop-reader-test.false)) le r w e f at_r at_w is_r is_w gives;
}
