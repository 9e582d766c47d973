-- Completed logs get one verdict.
use Rattle.std.proofs.Common.{◌≡◌, ℕ, ◌<◌, ◌≤◌, ◌⊎◌, inl, inr, List, sym, ap, subst, ◌∙◌, arith}
use Rattle.std.specs.Prelude.{slice_get}
use Rattle.std.proofs.lemmas.Bool.{cases_lt}
use Rattle.std.proofs.lemmas.Option.{same_Some}
use Rattle.wm_ast.specs.declared.module.Module.{Module}
use Rattle.wm_event.specs.declared.log.ThreadLog.{ThreadLog}
use Rattle.wm_event.specs.Limits.{max_steps}
use Rattle.wm_event.specs.LoggedRun.{LoggedRun, execution}
use Rattle.wm_event.specs.Shape.{IsWellShaped}
use Rattle.wm_replay.specs.declared.answer.ReplayAnswer.{ReplayAnswer}
use Rattle.wm_replay.specs.declared.answer.ReplayAnswer.TheVariants.{Same, StartRefused, Differs}
use Rattle.wm_replay.specs.Comparison.{IsOther}
use Rattle.wm_replay.specs.Complete.{IsCompletion, IsFirstWithoutRun, IsWithoutRun, ending}
use Rattle.wm_check.specs.declared.verdict.Breach.TheVariants.{Replay, Rule}
use Rattle.wm_check.specs.declared.verdict.Certificate.{Certificate}
use Rattle.wm_check.specs.declared.verdict.Refusal.{Refusal}
use Rattle.wm_check.specs.declared.verdict.Verdict.{Verdict}
use Rattle.wm_check.specs.declared.verdict.Verdict.TheVariants.{Allowed, Refused, Broken}
use Rattle.wm_check.specs.Completed.{HasNoRun}
use Rattle.wm_check.specs.SameVerdict.{IsExact}
use Rattle.wm_check.specs.Verdicts.{IsRefusedFor}
use Rattle.wm_check.specs.Verified.{IsJudgedCompleted, JudgesRun, Verifies, with_log}
use Rattle.wm_check.proofs.Alone.{AreSpelledOnce, no_rule_fault, none_refused, one_run}
use Rattle.wm_check.proofs.FirstFaults.{one_rule_fault}
use Rattle.wm_check.proofs.OneCompletion.{has_run, one_completion}
use Rattle.wm_check.proofs.OnePlace.{one_place}
use Rattle.wm_check.proofs.SameEvents.{completed_shape}
use Rattle.wm_check.proofs.SameVerdict.{no_start, one_exact, same_fault, started_so}

-- ---- the first thread without a run

-- a thread differs for one reason
one_other : (m : Module) (k : ℕ) (t : ThreadLog) (a b : ReplayAnswer) → IsOther m k t a → IsOther m k t b → a ≡ b
one_other m k t Same b first second = absurd first
one_other m k t (StartRefused i f) Same first second = absurd second
one_other m k t (StartRefused i f) (StartRefused j g) first second =
    ap (λ n. StartRefused n f) (first.0 ∙ sym second.0) ∙ ap (λ h. StartRefused j h) (same_fault f g (sym first.1 ∙ second.1))
one_other m k t (StartRefused i f) (Differs j q) first second =
    let start = started_so m k t q second.1 in absurd (no_start f start.0 (sym first.1 ∙ start.1))
one_other m k t (Differs i p) Same first second = absurd second
one_other m k t (Differs i p) (StartRefused j g) first second =
    let start = started_so m k t p first.1 in absurd (no_start g start.0 (sym second.1 ∙ start.1))
one_other m k t (Differs i p) (Differs j q) first second =
    ap (λ n. Differs n p) (first.0 ∙ sym second.0) ∙ ap (λ x. Differs j x) (one_place m k t p q first.1 second.1)

earlier_run : (m : Module) (log : List ThreadLog) (k l : ℕ) (a b : ReplayAnswer) → IsFirstWithoutRun m log k a → IsFirstWithoutRun m log l b → k < l → ⊥
earlier_run m log k l a b first second earlier =
    let made = second.others k first.thread earlier first.is_thread in first.none made.0 made.1 made.2

same_thread : (m : Module) (log : List ThreadLog) (k l : ℕ) (a b : ReplayAnswer) → IsFirstWithoutRun m log k a → IsFirstWithoutRun m log l b → (k < l) ⊎ (l ≤ k) → (l < k) ⊎ (k ≤ l) → k ≡ l
same_thread m log k l a b first second (inl earlier) other = absurd (earlier_run m log k l a b first second earlier)
same_thread m log k l a b first second (inr late) (inl later) = absurd (earlier_run m log l k b a second first later)
same_thread m log k l a b first second (inr late) (inr early) = omega (arith, late, early)

one_without_run : (m : Module) (log : List ThreadLog) (k l : ℕ) (a b : ReplayAnswer) → IsFirstWithoutRun m log k a → IsFirstWithoutRun m log l b → a ≡ b
one_without_run m log k l a b first second =
    let same = same_thread m log k l a b first second (cases_lt k l) (cases_lt l k) in
    let thread = same_Some first.thread second.thread (sym first.is_thread ∙ ap (slice_get log) same ∙ second.is_thread) in
    let at_thread = subst (λ (n : ℕ). IsOther m n (ending first.thread max_steps first.thread.end) a) same first.other in
    one_other m l (ending second.thread max_steps second.thread.end) a b (subst (λ (t : ThreadLog). IsOther m l (ending t max_steps t.end) a) thread at_thread) second.other

same_answer : (m : Module) (log : List ThreadLog) (a b : ReplayAnswer) → IsWithoutRun m log a → IsWithoutRun m log b → a ≡ b
same_answer m log Same b first second = absurd first
same_answer m log (StartRefused k f) Same first second = absurd second
same_answer m log (Differs k p) Same first second = absurd second
same_answer m log (StartRefused k f) (StartRefused l g) first second = one_without_run m log k l (StartRefused k f) (StartRefused l g) first second
same_answer m log (StartRefused k f) (Differs l q) first second = one_without_run m log k l (StartRefused k f) (Differs l q) first second
same_answer m log (Differs k p) (StartRefused l g) first second = one_without_run m log k l (Differs k p) (StartRefused l g) first second
same_answer m log (Differs k p) (Differs l q) first second = one_without_run m log k l (Differs k p) (Differs l q) first second

-- ---- the rules

-- the memory rules give one verdict on a run of good shape
same_judged : (run : LoggedRun) → IsWellShaped run → (verdict other : Verdict) → JudgesRun run verdict → JudgesRun run other → verdict ≡ other
same_judged run shape (Allowed a) (Allowed b) first second =
    ap (λ (c : Certificate). Allowed c)
    (ap (λ n. record { threads = n; events = a.events }) (first.1.0 ∙ sym second.1.0) ∙ ap (λ n. record { threads = b.threads; events = n }) (first.1.1 ∙ sym second.1.1))
same_judged run shape (Allowed a) (Broken (Rule g)) first second = absurd (no_rule_fault (execution run) g g.rule first.0 second.holds)
same_judged run shape (Broken (Rule f)) (Allowed b) first second = absurd (no_rule_fault (execution run) f f.rule second.0 first.holds)
same_judged run shape (Broken (Rule f)) (Broken (Rule g)) first second = ap (λ h. Broken (Rule h)) (one_rule_fault run shape f g first second)
same_judged run shape (Refused r) other first second = absurd first
same_judged run shape (Broken (Replay a)) other first second = absurd first
same_judged run shape (Allowed a) (Refused r) first second = absurd second
same_judged run shape (Allowed a) (Broken (Replay b)) first second = absurd second
same_judged run shape (Broken (Rule f)) (Refused r) first second = absurd second
same_judged run shape (Broken (Rule f)) (Broken (Replay b)) first second = absurd second

module _ (once : AreSpelledOnce) (mb db : List ℕ) where
  judged_both : (verdict other : Verdict) → IsJudgedCompleted mb db verdict → IsJudgedCompleted mb db other → verdict ≡ other
  judged_both verdict other first second =
      let same = one_run once mb db first.«module» second.«module» first.run second.run first.candidate.is_run second.candidate.is_run in
      let of_module = subst (λ (m : Module). IsCompletion m first.run.log first.completed) same.0 first.completion in
      let of_run = subst (λ (r : LoggedRun). IsCompletion second.«module» r.log first.completed) same.1 of_module in
      let completed = one_completion second.«module» second.run.log first.completed second.completed of_run second.completion in
      let by_run = subst (λ (r : LoggedRun). JudgesRun (with_log r first.completed) verdict) same.1 first.judged in
      let judged = subst (λ (log : List ThreadLog). JudgesRun (with_log second.run log) verdict) completed by_run in
      same_judged (with_log second.run second.completed) (completed_shape second.«module» second.run second.completed second.completion second.candidate.shape) verdict other judged second.judged

  not_without_run : (verdict : Verdict) (answer : ReplayAnswer) → IsJudgedCompleted mb db verdict → HasNoRun mb db answer → ⊥
  not_without_run verdict answer first second =
      let same = one_run once mb db first.«module» second.«module» first.run second.run first.candidate.is_run second.candidate.is_run in
      let of_module = subst (λ (m : Module). IsCompletion m first.run.log first.completed) same.0 first.completion in
      has_run second.«module» second.run.log first.completed answer (subst (λ (r : LoggedRun). IsCompletion second.«module» r.log first.completed) same.1 of_module) second.first

  without_both : (a b : ReplayAnswer) → HasNoRun mb db a → HasNoRun mb db b → a ≡ b
  without_both a b first second =
      let same = one_run once mb db first.«module» second.«module» first.run second.run first.candidate.is_run second.candidate.is_run in
      let of_module = subst (λ (m : Module). IsWithoutRun m first.run.log a) same.0 first.first in
      same_answer second.«module» second.run.log a b (subst (λ (r : LoggedRun). IsWithoutRun second.«module» r.log a) same.1 of_module) second.first

  judged_refused : (verdict : Verdict) (reason : Refusal) → IsJudgedCompleted mb db verdict → IsRefusedFor mb db reason → ⊥
  judged_refused verdict reason judged refused = none_refused once mb db judged.«module» judged.run reason judged.candidate refused

  without_refused : (answer : ReplayAnswer) (reason : Refusal) → HasNoRun mb db answer → IsRefusedFor mb db reason → ⊥
  without_refused answer reason without refused = none_refused once mb db without.«module» without.run reason without.candidate refused

  pub one_verified : (verdict other : Verdict) → IsExact verdict → Verifies mb db verdict → Verifies mb db other → verdict ≡ other
  one_verified (Allowed a) (Allowed b) exact first second = judged_both (Allowed a) (Allowed b) first second
  one_verified (Allowed a) (Refused s) exact first second = absurd (judged_refused (Allowed a) s first second)
  one_verified (Allowed a) (Broken (Replay b)) exact first second = absurd (not_without_run (Allowed a) b first second)
  one_verified (Allowed a) (Broken (Rule g)) exact first second = judged_both (Allowed a) (Broken (Rule g)) first second
  one_verified (Refused r) (Allowed b) exact first second = absurd (judged_refused (Allowed b) r second first)
  one_verified (Refused r) (Refused s) exact first second = one_exact once mb db (Refused r) (Refused s) exact first second
  one_verified (Refused r) (Broken (Replay b)) exact first second = absurd (without_refused b r second first)
  one_verified (Refused r) (Broken (Rule g)) exact first second = absurd (judged_refused (Broken (Rule g)) r second first)
  one_verified (Broken (Replay a)) (Allowed b) exact first second = absurd (not_without_run (Allowed b) a second first)
  one_verified (Broken (Replay a)) (Refused s) exact first second = absurd (without_refused a s first second)
  one_verified (Broken (Replay a)) (Broken (Replay b)) exact first second = ap (λ x. Broken (Replay x)) (without_both a b first second)
  one_verified (Broken (Replay a)) (Broken (Rule g)) exact first second = absurd (not_without_run (Broken (Rule g)) a second first)
  one_verified (Broken (Rule f)) (Allowed b) exact first second = judged_both (Broken (Rule f)) (Allowed b) first second
  one_verified (Broken (Rule f)) (Refused s) exact first second = absurd (judged_refused (Broken (Rule f)) s first second)
  one_verified (Broken (Rule f)) (Broken (Replay b)) exact first second = absurd (not_without_run (Broken (Rule f)) b first second)
  one_verified (Broken (Rule f)) (Broken (Rule g)) exact first second = judged_both (Broken (Rule f)) (Broken (Rule g)) first second
