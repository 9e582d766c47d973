use Rattle.std.proofs.Common.{subst}
use Rattle.wm_event.specs.LoggedRun.{LoggedRun}
use Rattle.wm_races.specs.Classes.{HasClassSites}
use Rattle.wm_races.specs.Window.{HasBegins}
use Rattle.wm_races.proofs.scan.races.Goals as goal

pub report_races-requires-clause-class_sites : goal.report_races-requires-clause-class_sites
report_races-requires-clause-class_sites g c κs within = subst (λ (x : LoggedRun). HasClassSites x c.args.sites.now c.in_ok-table.table) c.candidate-candidate.ensures.value c.in_ok-table.ensures.sites

pub report_races-requires-clause-begins : goal.report_races-requires-clause-begins
report_races-requires-clause-begins g c κs within = subst (λ (x : LoggedRun). HasBegins x c.in_ok-begins.begins) c.candidate-candidate.ensures.value c.in_ok-begins.ensures
