use Rattle.std.proofs.Common.{ℕ, ◌<◌, ◌≤◌, inl, inr, arith}
use Rattle.std.specs.Prelude.{◌⊎◌}
use Rattle.std.proofs.lemmas.Bool.{cases_lt}
use Rattle.std.proofs.lemmas.Option.{slice_get_within}
use Rattle.wm_explore.specs.Asking.{IsAsked}
use Rattle.wm_explore.proofs.asking.ask_back.Goals as goal

pub returns : goal.returns
returns c = (c.loop-writer.invariant.more, λ j le. by j le (cases_lt j c.loop-writer.writer))
  where
    by : (j : ℕ) → c.args.reader ≤ j → (j < c.loop-writer.writer) ⊎ (c.loop-writer.writer ≤ j) → IsAsked c.args.log.now c.args.arrived.now c.loop-writer.wanted c.args.reader j
    by j le (inl lt) = c.loop-writer.invariant.all j le lt
    by j le (inr over) = λ r w e f at_r at_w is_r is_w gives.
        let within = slice_get_within c.args.arrived.now j w at_w in
        absurd (omega (arith, over, within, c.loop-writer-test.false))
