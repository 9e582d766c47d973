use Rattle.std.proofs.Common.{◌≡◌, ℕ, List, Option, None, subst, sym}
use Rattle.wm_ast.specs.declared.module.Module.{Module}
use Rattle.wm_event.specs.declared.log.ThreadLog.{ThreadLog}
use Rattle.wm_event.specs.declared.rule.Judgement.{Judgement}
use Rattle.wm_event.specs.declared.rule.Judgement.TheVariants as judgement
use Rattle.wm_event.specs.LoggedRun.{LoggedRun}
use Rattle.wm_event.specs.Shape.{IsWellShaped}
use Rattle.wm_logfile.specs.DocumentBytes.{IsDocumentOf}
use Rattle.wm_replay.specs.declared.answer.ReplayAnswer.{ReplayAnswer}
use Rattle.wm_replay.specs.Complete.{HasCompletion, IsCompletion}
use Rattle.wm_valid.specs.Valid.{IsInit}
use Rattle.wm_check.specs.declared.verdict.Verdict.{Verdict}
use Rattle.wm_check.specs.Run.{IsModuleOf}
use Rattle.wm_check.specs.Checked.{verdict_by}
use Rattle.wm_check.specs.Verified.{IsJudgedCompleted, JudgesRun, Verifies}
use Rattle.wm_check.proofs.JudgedRuns.{judges_run}
use Rattle.wm_check.proofs.SameEvents.{judged_completed}
use Rattle.wm_check.proofs.verified.verify_candidate.Goals as goal

-- a candidate that has a completion, with the verdict of the memory rules on its log
judged : (m : Module) (run : LoggedRun) (log : List ThreadLog) (answer : Option ReplayAnswer) (verdict : Verdict) → log ≡ run.log → HasCompletion m log answer
    → answer ≡ None → JudgesRun run verdict → (mb db : List ℕ) → IsModuleOf mb m → IsDocumentOf db run.log run.witness → IsInit m run.initial
    → IsWellShaped run → IsJudgedCompleted mb db verdict
judged m run log answer verdict same completes is judges mb db modules document initial shape =
    let of_log : HasCompletion m log None = subst (HasCompletion m log) is completes in
    let completed : List ThreadLog = of_log.0 in
    let completion : IsCompletion m run.log completed = subst (λ (l : List ThreadLog). IsCompletion m l completed) same of_log.1 in record {
      «module» = m;
      run = run;
      candidate = record {
        is_run = record { modules = modules; document = document; initial = initial };
        shape = shape;
      };
      completed = completed;
      completion = completion;
      judged = judged_completed m run completed verdict completion judges;
    }

-- what completes a candidate with the verdict by its judgement verifies it
verifies : (mb db : List ℕ) (log : List ThreadLog) (j : Judgement) → IsJudgedCompleted mb db (verdict_by log j) → Verifies mb db (verdict_by log j)
verifies mb db log judgement.Valid is = is
verifies mb db log (judgement.Broken fault) is = is

pub returns-in_ok-judgement-in-None : goal.returns-in_ok-judgement-in-None
returns-in_ok-judgement-in-None c = λ mb db is_module is_document is_init shape.
    let run = c.args.candidate.now in
    let j = c.in_ok-judgement-in-None.judgement in
    subst (Verifies mb db) (sym c.judged_verdict.ensures) (verifies mb db run.log j
    (judged c.args.module.now run c.log.result.now c.in_ok-answer.field-0 (verdict_by run.log j) c.log.ensures.value c.in_ok-answer.ensures
    c.in-None.is (judges_run run j c.in_ok-judgement-in-None.ensures.judged) mb db is_module is_document is_init shape))
