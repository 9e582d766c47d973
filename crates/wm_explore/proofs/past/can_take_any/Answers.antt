use Rattle.std.proofs.Common.{◌≡◌, ℕ, ◌<◌, ◌≤◌, inl, inr, sym, subst, arith}
use Rattle.std.specs.Prelude.{◌⊎◌}
use Rattle.std.proofs.Math.Nat.{eq-or-lt_of_le}
use Rattle.wm_explore.specs.Past.{CannotTake}
use Rattle.wm_explore.proofs.past.can_take_any.Goals as goal

pub loop-byte-preserved : goal.loop-byte-preserved
loop-byte-preserved c = record {
  none = λ k lt. by k (eq-or-lt_of_le (let le : k ≤ c.loop-byte.byte = omega (arith, lt) in le));
}
  where
    by : (k : ℕ) → (k ≡ c.loop-byte.byte) ⊎ (k < c.loop-byte.byte) → CannotTake c.args.initial.now c.args.state.now c.args.before.now c.args.next.now k c.args.source
    by k (inl same) = subst (λ j. CannotTake c.args.initial.now c.args.state.now c.args.before.now c.args.next.now j c.args.source) (sym same) (c.can_take.ensures c.if-can_take.false)
    by k (inr before) = c.loop-byte.invariant.none k before

pub returns : goal.returns
returns c _ k lt =
    let all = c.loop-byte-test.false in
    let count = c.bytes-byte-end.ensures in
    c.loop-byte.invariant.none k (omega (arith, all, lt, count))
