-- The verdict on a log and its completion is a check's verdict on the completed document.
use Rattle.std.proofs.Common.{◌≡◌, ℕ, List, subst}
use Rattle.wm_ast.specs.declared.module.Module.{Module}
use Rattle.wm_event.specs.declared.log.ThreadLog.{ThreadLog}
use Rattle.wm_event.specs.LoggedRun.{LoggedRun}
use Rattle.wm_logfile.specs.DocumentBytes.{IsDocumentOf}
use Rattle.wm_replay.specs.declared.answer.ReplayAnswer.{ReplayAnswer}
use Rattle.wm_replay.specs.Complete.{IsCompletion}
use Rattle.wm_check.specs.declared.verdict.Breach.TheVariants.{Replay, Rule}
use Rattle.wm_check.specs.declared.verdict.Verdict.{Verdict}
use Rattle.wm_check.specs.declared.verdict.Verdict.TheVariants.{Allowed, Refused, Broken}
use Rattle.wm_check.specs.Completed.{HasNoRun, IsCompletedTo}
use Rattle.wm_check.specs.Run.{IsCandidateOf}
use Rattle.wm_check.specs.Verdicts.{Says}
use Rattle.wm_check.specs.Verified.{Verifies, with_log}
use Rattle.wm_check.proofs.Alone.{AreSpelledOnce, none_refused, one_run}
use Rattle.wm_check.proofs.OneCompletion.{has_run, one_completion}
use Rattle.wm_check.proofs.SameEvents.{completed_shape}

-- the completed document is a candidate with the completed log
completed_candidate : (once : AreSpelledOnce) (mb db text : List ℕ) (to : IsCompletedTo mb db text) → IsDocumentOf text to.completed to.run.witness
    → (m : Module) (run : LoggedRun) (completed : List ThreadLog) → IsCandidateOf mb db m run → IsCompletion m run.log completed
    → IsCandidateOf mb text m (with_log run completed)
completed_candidate once mb db text to document m run completed is completion =
    let same = one_run once mb db to.«module» m to.run run to.candidate.is_run is.is_run in
    let of_module : IsCompletion m to.run.log to.completed = subst (λ (n : Module). IsCompletion n to.run.log to.completed) same.0 to.completion in
    let of_run : IsCompletion m run.log to.completed = subst (λ (r : LoggedRun). IsCompletion m r.log to.completed) same.1 of_module in
    let completions : to.completed ≡ completed = one_completion m run.log to.completed completed of_run completion in
    let by_run : IsDocumentOf text to.completed run.witness = subst (λ (r : LoggedRun). IsDocumentOf text to.completed r.witness) same.1 document in record {
      is_run = record {
        modules = is.is_run.modules;
        document = subst (λ (log : List ThreadLog). IsDocumentOf text log run.witness) completions by_run;
        initial = is.is_run.initial;
      };
      shape = completed_shape m run completed completion is.shape;
    }

without_run : (once : AreSpelledOnce) (mb db text : List ℕ) (to : IsCompletedTo mb db text) (answer : ReplayAnswer) → HasNoRun mb db answer → ⊥
without_run once mb db text to answer j =
    let same = one_run once mb db to.«module» j.«module» to.run j.run to.candidate.is_run j.candidate.is_run in
    let of_module = subst (λ (n : Module). IsCompletion n to.run.log to.completed) same.0 to.completion in
    has_run j.«module» j.run.log to.completed answer (subst (λ (r : LoggedRun). IsCompletion j.«module» r.log to.completed) same.1 of_module) j.first

pub as_check : AreSpelledOnce → (mb db text : List ℕ) (verdict : Verdict) (to : IsCompletedTo mb db text) → IsDocumentOf text to.completed to.run.witness
    → Verifies mb db verdict → Says mb text verdict
as_check once mb db text (Allowed certificate) to document j = record {
  «module» = j.«module»;
  run = with_log j.run j.completed;
  candidate = completed_candidate once mb db text to document j.«module» j.run j.completed j.candidate j.completion;
  threads_are_runs = j.completion.are_runs;
  execution_is_valid = j.judged.0;
  threads = j.judged.1.0;
  events = j.judged.1.1;
}
as_check once mb db text (Refused reason) to document refused = absurd (none_refused once mb db to.«module» to.run reason to.candidate refused)
as_check once mb db text (Broken (Replay answer)) to document j = absurd (without_run once mb db text to answer j)
as_check once mb db text (Broken (Rule fault)) to document j = record {
  «module» = j.«module»;
  run = with_log j.run j.completed;
  candidate = completed_candidate once mb db text to document j.«module» j.run j.completed j.candidate j.completion;
  threads_are_runs = j.completion.are_runs;
  first = j.judged;
}
