use Rattle.std.proofs.Common.{subst}
use Rattle.std.specs.Prelude.{Bool, IsTrue, not}
use Rattle.wm_witness.proofs.TearingLaw.{unfit}
use Rattle.wm_witness.proofs.choice.is_unfit.Goals as goal

pub returns-then-not-fits : goal.returns-then-not-fits
returns-then-not-fits c = λ t.
    unfit c.args.start.now c.args.assumed.now c.args.event.now c.requires.event c.args.byte c.args.writer (subst (λ (b : Bool). IsTrue (not b)) c.fits.ensures t)
