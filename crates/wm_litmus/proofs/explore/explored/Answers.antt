use Rattle.std.proofs.Common.{◌≤◌, get_or, length, rules, subst, sym}
use Rattle.std.specs.Prelude.{◌≢◌}
use Rattle.std.proofs.lemmas.Result.{IfOk-weaker}
use Rattle.wm_event.specs.Limits.{max_threads}
use Rattle.wm_event.proofs.FittingLemmas.{fits_log}
use Rattle.wm_explore.specs.Search.{Explores}
use Rattle.wm_run.specs.declared.fault.RunFault.TheVariants.{OutOfMemory}
use Rattle.wm_litmus.specs.Explore.AnswersExplore.{explored, refused}
use Rattle.wm_litmus.proofs.Covering.{finds_covered}
use Rattle.wm_litmus.proofs.explore.explored.Goals as goal

pub explore-requires : goal.explore-requires
explore-requires g c = (
  c.type_bounds.sync-R,
  subst (λ starts. length starts ≤ max_threads) (sym c.as_slice.ensures) c.in-Ok.ensures.planned.threads.few,
)

pub listed-requires : goal.listed-requires
listed-requires g c = λ k d within.
    let f = get_or c.in_ok-exploration.exploration.finished k d in
    let own = c.in-Ok.ensures.own in
    fits_log (record { log = f.log; witness = f.witness; initial = own.initial }) (c.in_ok-exploration.ensures.found k d within own.initial own.is_init).0.shaped

pub returns-in-Err : goal.returns-in-Err
returns-in-Err g c =
    let other : c.in-Err.fault ≢ OutOfMemory = search rules in
    IfOk-weaker c.refused_run.result _ _
    (λ answer prints module_bytes modules. refused c.args.module.now c.in-Err.fault modules other c.in-Err.ensures.refused prints.status_is prints.text_is) c.refused_run.ensures

pub returns : goal.returns
returns g c =
    let m = c.args.module.now in
    let words = c.args.words.now in
    let e = c.in_ok-exploration.exploration in
    let explores = subst (λ starts. Explores m starts words.events e) c.as_slice.ensures c.in_ok-exploration.ensures in
    let covers = c.coverage_of.ensures in
    let finds = finds_covered m words.plan.starts words.events e c.coverage_of.result explores covers in
    IfOk-weaker c.listed.result _ _
    (λ answer prints module_bytes modules. explored m e c.coverage_of.result prints.rows modules explores covers finds prints.are_rows prints.status_is prints.text_is) c.listed.ensures
