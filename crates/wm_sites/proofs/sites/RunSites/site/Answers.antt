use Rattle.std.proofs.Common.{◌≡◌, ◌∙◌, None, Option, sym, subst}
use Rattle.std.proofs.lemmas.Option.{same_Some}
use Rattle.std.proofs.lemmas.Result.{IfOk-weaker}
use Rattle.wm_races.specs.declared.site.Site.{Site}
use Rattle.wm_sites.specs.Sites.{IsMadeNowhere, IsNoOpcode}
use Rattle.wm_sites.proofs.sites.RunSites.site.Goals as goal

pub returns-in-Some-clause-none : goal.returns-in-Some-clause-none
returns-in-Some-clause-none c =
    let run = c.args.self.now in
    IfOk-weaker c.site.result (λ (found : Option Site). found ≡ None → IsNoOpcode run.map.module c.in-Some.position) (λ (found : Option Site). found ≡ None → IsMadeNowhere run.map.module run.positions.items c.args.key)
    (λ found nowhere none p at. subst (IsNoOpcode run.map.module) (same_Some c.in-Some.position p (sym c.in-Some.is ∙ c.position.ensures ∙ at)) (nowhere none)) c.site.ensures.none
