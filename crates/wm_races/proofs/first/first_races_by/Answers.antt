use Rattle.std.proofs.Common.{subst, sym}
use Rattle.wm_event.specs.LoggedRun.{LoggedRun}
use Rattle.wm_races.specs.Classes.{HasClassSites, HasClasses}
use Rattle.wm_races.specs.Report.{HasSites}
use Rattle.wm_races.specs.Window.{HasBegins}
use Rattle.wm_races.proofs.OneSiteLaws.{has-one-site}
use Rattle.wm_races.proofs.first.first_races_by.Goals as goal

pub of_candidate-requires : goal.of_candidate-requires
of_candidate-requires g c =
    let run = c.args.before.now in
    subst (λ (x : LoggedRun). HasSites x.log c.args.sites.now) (sym c.candidate-candidate.ensures.value)
    (subst (HasSites run.log) (sym c.requires) (has-one-site run.log))

pub collect_races-requires-clause-begins : goal.collect_races-requires-clause-begins
collect_races-requires-clause-begins g c = subst (λ (x : LoggedRun). HasBegins x c.in_ok-begins.begins) c.candidate-candidate.ensures.value c.in_ok-begins.ensures

pub collect_races-requires-clause-classes : goal.collect_races-requires-clause-classes
collect_races-requires-clause-classes g c = subst (λ (x : LoggedRun). HasClasses x c.in_ok-table.table) c.candidate-candidate.ensures.value c.in_ok-table.ensures.classes

pub collect_races-requires-clause-sites : goal.collect_races-requires-clause-sites
collect_races-requires-clause-sites g c =
    (c.args.sites.now, subst (λ (x : LoggedRun). HasClassSites x c.args.sites.now c.in_ok-table.table) c.candidate-candidate.ensures.value c.in_ok-table.ensures.sites)
