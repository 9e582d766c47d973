use Rattle.std.proofs.Common.{◌≤◌, length, refl, subst, arith}
use Rattle.std.specs.Prelude.{All}
use Rattle.wm_writers.proofs.ListLemmas.{all-taken}
use Rattle.wm_witness.specs.Assumptions.{Holds}
use Rattle.wm_witness.specs.declared.assumption.Assumption.{Assumption}
use Rattle.wm_witness.specs.declared.assumption.Assumption.TheVariants.{Takes}
use Rattle.wm_witness.proofs.NewSplitLaw.{take-whole}
use Rattle.wm_witness.proofs.assumption.keeps.Goals as goal

abbrev none : Assumption
none = Takes (record { thread = 0; number = 0 }) (record { thread = 0; number = 0 })

pub loop-assumption-preserved : goal.loop-assumption-preserved
loop-assumption-preserved c =
    all-taken (Holds c.args.candidate.now) c.args.assumed.now c.loop-assumption.assumption-index none c.loop-assumption-test.true c.loop-assumption.invariant
    (c.if-not-holds.ensures refl)

pub returns : goal.returns
returns c = λ t.
    let over : length c.args.assumed.now ≤ c.loop-assumption.assumption-index = omega (arith, c.loop-assumption-test.false) in
    subst (All (Holds c.args.candidate.now)) (take-whole c.args.assumed.now c.loop-assumption.assumption-index over) c.loop-assumption.invariant
