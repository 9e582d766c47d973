use Rattle.std.proofs.Common.{subst, List}
use Rattle.std.proofs.lemmas.List.{drop_more}
use Rattle.wm_event.specs.LoggedRun.{execution}
use Rattle.wm_hb.specs.Chain.{Leads}
use Rattle.wm_hb.specs.declared.chain.Link.{Link}
use Rattle.wm_explain.proofs.Adding.{pushed}
use Rattle.wm_explain.proofs.rule.add_links.Goals as goal

pub loop-link-preserved : goal.loop-link-preserved
loop-link-preserved c run to leads =
    let so-far = c.loop-link.invariant run to leads in
    let next = subst (λ (ls : List Link). Leads (execution run) c.loop-link.last ls to) (drop_more c.args.links.now c.loop-link.link-index _ c.loop-link-test.true) so-far.0 in
    (next.1, λ all. pushed run _ _ _ c.in_ok-push.ensures.items next.0 (so-far.1 all))
