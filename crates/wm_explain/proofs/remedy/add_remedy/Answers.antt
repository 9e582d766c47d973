use Rattle.std.proofs.Common.{subst}
use Rattle.std.proofs.lemmas.Result.{on_ok_weaker}
use Rattle.wm_writers.specs.Answer.{IsAnswer, StaysIfOnly}
use Rattle.wm_explain.proofs.Adding.{pushed}
use Rattle.wm_explain.proofs.remedy.add_remedy.Goals as goal

pub returns-in_ok-push-in-Only : goal.returns-in_ok-push-in-Only
returns-in_ok-push-in-Only c known all =
    let run = c.args.candidate.now in
    let never = subst (StaysIfOnly run c.args.fault.now) c.in-Only.is known.stays in
    pushed run _ _ _ c.in_ok-push-in-Only.ensures.items (never known.breaks)
    (c.in_ok-add_prose-in-Only-2.ensures run (c.in_ok-add_prose-in-Only.ensures run all))

pub returns-in_ok-add_fits-in-Several : goal.returns-in_ok-add_fits-in-Several
returns-in_ok-add_fits-in-Several c known =
    let run = c.args.candidate.now in
    let answer = subst (IsAnswer run c.args.fault.now) c.in-Several.is known.answer in
    on_ok_weaker c.add_search.result
    (λ more all. more (c.in_ok-add_fits-in-Several.ensures run answer.0.sources (c.in_ok-add_prose-in-Several.ensures run all)))
    c.add_search.ensures

pub returns-in_ok-add_prose-in-Other : goal.returns-in_ok-add_prose-in-Other
returns-in_ok-add_prose-in-Other c known =
    on_ok_weaker c.add_search-in-Other.result
    (λ more all. more (c.in_ok-add_prose-in-Other.ensures c.args.candidate.now all))
    c.add_search-in-Other.ensures
