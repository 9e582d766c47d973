use Rattle.std.proofs.Common.{◌≡◌, List, map, refl, subst, sym, ap, ◌∙◌, true, false}
use Rattle.std.specs.Prelude.{All}
use Rattle.wm_event.specs.LoggedRun.{execution}
use Rattle.wm_hb.specs.declared.fault_chain.FaultChain.{FaultChain}
use Rattle.wm_writers.specs.Answer.{IsSource}
use Rattle.wm_writers.specs.Forced.{IsForced}
use Rattle.wm_writers.specs.Found.{HasForcedByte}
use Rattle.wm_writers.specs.Lasting.{FindsLasting, Lasts}
use Rattle.wm_writers.specs.Needs.{needs}
use Rattle.wm_writers.specs.declared.source.Source.{Source}
use Rattle.wm_writers.proofs.AnswerLaw.{all-forced, all-have}
use Rattle.wm_writers.proofs.ForcedLaw.{forced-fault-stays}
use Rattle.wm_writers.proofs.writers.writers_that_fit.Goals as goal

pub returns-then-is_forced-clause-answer : goal.returns-then-is_forced-clause-answer
returns-then-is_forced-clause-answer c =
    let run = c.args.candidate.now in
    let f = c.args.fault.now in
    let chains : List FaultChain = c.in-Some.chains in
    let sources : List Source = c.in_ok-sources.sources in
    let lasts : Lasts (execution run) f chains = subst (FindsLasting (execution run) f) c.in-Some.is c.in_ok-chains.ensures in
    let all : map (λ (s : Source). s.need) sources ≡ needs f chains = c.in_ok-sources.ensures.needs ∙ c.as_slice-2.ensures ∙ c.in_ok-needs.ensures ∙ ap (needs f) c.as_slice.ensures in
    let are : All (IsSource run) sources = c.in_ok-sources.ensures.sources in
    let have : All HasForcedByte sources = subst (All HasForcedByte) c.as_slice-3.ensures (c.if-is_forced.ensures.0 refl) in (
      record { lasts = lasts; needs = all; sources = are },
      subst (All (IsForced run)) all (all-forced run c.log-log.ensures.shape.keys sources are have),
    )

pub returns-then-is_forced-clause-stays : goal.returns-then-is_forced-clause-stays
returns-then-is_forced-clause-stays c breaks =
    let run = c.args.candidate.now in
    let f = c.args.fault.now in
    let chains : List FaultChain = c.in-Some.chains in
    let sources : List Source = c.in_ok-sources.sources in
    let lasts : Lasts (execution run) f chains = subst (FindsLasting (execution run) f) c.in-Some.is c.in_ok-chains.ensures in
    let all : map (λ (s : Source). s.need) sources ≡ needs f chains = c.in_ok-sources.ensures.needs ∙ c.as_slice-2.ensures ∙ c.in_ok-needs.ensures ∙ ap (needs f) c.as_slice.ensures in
    let are : All (IsSource run) sources = c.in_ok-sources.ensures.sources in
    let have : All HasForcedByte sources = subst (All HasForcedByte) c.as_slice-3.ensures (c.if-is_forced.ensures.0 refl) in
    let forced : All (IsForced run) (needs f chains) = subst (All (IsForced run)) all (all-forced run c.log-log.ensures.shape.keys sources are have) in
    forced-fault-stays run f chains c.log-log.ensures.shape breaks lasts forced

pub returns-clause-answer : goal.returns-clause-answer
returns-clause-answer c =
    let run = c.args.candidate.now in
    let f = c.args.fault.now in
    let chains : List FaultChain = c.in-Some.chains in
    let sources : List Source = c.in_ok-sources.sources in
    let lasts : Lasts (execution run) f chains = subst (FindsLasting (execution run) f) c.in-Some.is c.in_ok-chains.ensures in
    let all : map (λ (s : Source). s.need) sources ≡ needs f chains = c.in_ok-sources.ensures.needs ∙ c.as_slice-2.ensures ∙ c.in_ok-needs.ensures ∙ ap (needs f) c.as_slice.ensures in
    let are : All (IsSource run) sources = c.in_ok-sources.ensures.sources in (
      record { lasts = lasts; needs = all; sources = are },
      λ forced.
          let have = all-have run c.log-log.ensures.shape.keys sources are (subst (All (IsForced run)) (sym all) forced) in
          let clash : false ≡ true = c.if-is_forced.ensures.1 (subst (All HasForcedByte) (sym c.as_slice-3.ensures) have) in
          let no : ⊥ = cc in no,
    )
