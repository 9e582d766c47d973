use Rattle.std.proofs.Common.{◌≡◌, ap, ◌∙◌}
use Rattle.wm_event.specs.LoggedRun.{LoggedRun}
use Rattle.wm_races.specs.First.{one_site_table}
use Rattle.wm_races.proofs.first.first_races.Goals as goal

pub first_races_by-requires-after_bounds : goal.first_races_by-requires-after_bounds
first_races_by-requires-after_bounds g c κs within =
    let log : c.log.result.now ≡ c.args.before.now.log = c.log.ensures.value ∙ ap (λ (x : LoggedRun). x.log) c.candidate.ensures.value in
    c.as_slice.ensures.value ∙ c.in_ok-sites.ensures ∙ ap one_site_table log
