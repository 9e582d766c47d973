use Rattle.std.proofs.Common.{◌∙◌}
use Rattle.wm_event.specs.LoggedRun.{execution}
use Rattle.wm_rules.specs.Late.{IsFaulty, late_number}
use Rattle.rayon.proofs.ToStd.{slice-AllZip}
use Rattle.wm_rules.proofs.scan.first_faulty.Goals as goal

pub returns : goal.returns
returns g c =
    let h = c.position_first.ensures in
    (h.1, slice-AllZip h.0 c.args.events.now (h.2 ∙ c.par_iter.ensures) (IsFaulty (execution c.args.relation.now) (late_number c.args.rule)) h.1 h.3, h.4)
