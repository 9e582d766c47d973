use Rattle.std.proofs.Common.{refl, subst, sym, List}
use Rattle.std.proofs.lemmas.Result.{on_ok_weaker}
use Rattle.wm_event.specs.LoggedRun.{execution}
use Rattle.wm_event.specs.HappensBefore.{HappensBefore}
use Rattle.wm_hb.specs.Chain.{Leads}
use Rattle.wm_hb.specs.declared.chain.Link.{Link}
use Rattle.wm_explain.proofs.Adding.{chain_before, pushed}
use Rattle.wm_explain.proofs.rule.add_chain.Goals.{then-is_same+in_ok-push, else-is_same+in_ok-push-2}
use Rattle.wm_explain.proofs.rule.add_chain.Goals as goal

pub returns : goal.returns
returns c run chain =
    let leads = subst (λ (ls : List Link). Leads (execution run) c.args.chain.now.from ls c.args.chain.now.to) (sym c.as_slice.ensures) chain.leads in
    let before = chain_before (execution run) c.args.chain.now.from c.args.chain.now.links c.args.chain.now.to chain.leads chain.some in
    on_ok_weaker c.add_links.result
    (λ more all. more (elim c.if-is_same.branch [
      | then-is_same+in_ok-push w ↦ rw w.parts-is
          (pushed run _ _ _ w.in_ok-push.ensures.items (subst (HappensBefore (execution run) c.args.chain.now.from) (sym (w.if-is_same.ensures refl)) before) all)
      | else-is_same+in_ok-push-2 w ↦ rw w.parts-is (pushed run _ _ _ w.in_ok-push-2.ensures.items before all)
    ]))
    (c.add_links.ensures run c.args.chain.now.to leads)
