-- What a search for witnesses that look back says of a log.
use Rattle.std.proofs.Common.{◌≡◌, ℕ, List, sym, ap, subst, ◌∙◌}
use Rattle.wm_event.specs.LoggedRun.{LoggedRun, execution}
use Rattle.wm_event.specs.Rules.{IsValid}
use Rattle.wm_event.specs.Shape.{IsWellShaped}
use Rattle.wm_event.specs.declared.event.EventKey.{EventKey}
use Rattle.wm_event.specs.declared.log.ThreadLog.{ThreadLog}
use Rattle.wm_event.specs.declared.witness.Witness.{Witness}
use Rattle.wm_explore.specs.Asking.{AskAll}
use Rattle.wm_explore.specs.Judging.{IsAllowedWith, LooksBack, run_with}
use Rattle.wm_explore.proofs.AskingLaw.{keeps_asked, looking_back}
use Rattle.wm_witness.specs.Always.{IsClosed, IsValidWith}
use Rattle.wm_witness.specs.Answer.{FoundKeeps, NoneKeeps}
use Rattle.wm_witness.specs.Assumptions.{Keeps}
use Rattle.wm_witness.specs.declared.answer.Answer.{Answer}
use Rattle.wm_witness.specs.declared.answer.Answer.TheVariants.{Found, NoWitness}
use Rattle.wm_witness.specs.declared.assumption.Assumption.{Assumption}

module _ (log copy : List ThreadLog) (arrived : List EventKey) (initial : List ℕ) (wanted given : List Assumption) (run : LoggedRun) (unknown : Witness) (answer : Answer) (run-is : run ≡ run_with copy initial unknown) (copied : copy ≡ log) (given-is : given ≡ wanted)
    (asks : AskAll log arrived wanted) where
  same : (w : Witness) → run_with run.log run.initial w ≡ run_with log initial w
  same w = ap (λ (r : LoggedRun). run_with r.log r.initial w) run-is ∙ ap (λ l. run_with l initial w) copied

  pub judged-found : (w : Witness) → answer ≡ Found w → FoundKeeps run given answer → IsAllowedWith log initial w × LooksBack (execution (run_with log initial w)) arrived
  judged-found w is found =
      let x = run_with log initial w in
      let h : IsValidWith run w × Keeps (run_with run.log run.initial w) given = subst (FoundKeeps run given) is found in
      let allowed : IsAllowedWith log initial w = subst (λ (y : LoggedRun). IsWellShaped y × IsValid (execution y)) (same w) h.0 in
      let keeps : Keeps x wanted = subst (λ (y : LoggedRun). Keeps y wanted) (same w) (subst (Keeps (run_with run.log run.initial w)) given-is h.1) in
      (allowed, looking_back x arrived wanted asks allowed.0 allowed.1 keeps)

  pub judged-none : answer ≡ NoWitness → NoneKeeps run given answer → (w : Witness) → IsAllowedWith log initial w → LooksBack (execution (run_with log initial w)) arrived → ⊥
  judged-none is none w allowed back =
      let x = run_with log initial w in
      let closed : IsClosed run given = subst (NoneKeeps run given) is none in
      let keeps : Keeps x given = subst (Keeps x) (sym given-is) (keeps_asked x arrived wanted asks back) in
      closed w (subst IsWellShaped (sym (same w)) allowed.0) (subst (λ (y : LoggedRun). IsValid (execution y)) (sym (same w)) allowed.1) (subst (λ (y : LoggedRun). Keeps y given) (sym (same w)) keeps)
