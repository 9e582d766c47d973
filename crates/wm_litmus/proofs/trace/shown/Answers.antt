use Rattle.std.proofs.Common.{◌≡◌, ◌++◌, codes, length, map, List, refl, sym, subst, ap, ap₂, ◌∙◌, [], ◌∷◌}
use Rattle.wm_sites.specs.Sites.{AreSitesOf, code_in}
use Rattle.wm_run.specs.declared.scripts.traced.TracedTurn.{TracedTurn}
use Rattle.wm_litmus.specs.Outcomes.{outcome_text}
use Rattle.wm_litmus.specs.Trace.{lines_text}
use Rattle.wm_litmus.proofs.TraceTexts.{ended_2}
use Rattle.wm_litmus.proofs.trace.shown.Goals as goal

pub returns : goal.returns
returns c =
    let run = c.args.traced.now.run in
    let turns = c.args.traced.now.turns in
    let sites = c.in_ok-sites.sites in
    let entries : c.as_slice-entries.result.now ≡ turns = c.as_slice-entries.ensures in
    record {
      sites = sites;
      count = c.in_ok-sites.ensures.count ∙ ap length entries;
      of_turns = subst (λ (turns : List TracedTurn). AreSitesOf (code_in c.args.code) (map (λ (entry : TracedTurn). entry.position) turns) sites) entries c.in_ok-sites.ensures.sites;
      status_is = refl;
      text_is = c.in_ok-text.ensures.ok
          ∙ ap₂ (λ lines outcome. lines ++ (codes "outcome " ++ (outcome ++ 10 ∷ []))) (c.in_ok-lines.ensures ∙ ap₂ (lines_text run) entries c.as_slice.ensures) c.in_ok-outcome.ensures
          ∙ sym (ended_2 (lines_text run turns sites) (codes "outcome ") (outcome_text run.log));
    }
