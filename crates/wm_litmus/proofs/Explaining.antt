-- An explanation of a verdict answers the bytes that the verdict is on.
use Rattle.std.proofs.Common.{◌≡◌, ℕ, List, string_bytes}
use Rattle.wm_check.specs.declared.verdict.Refusal.{Refusal}
use Rattle.wm_check.specs.declared.verdict.Refusal.TheVariants as refusal
use Rattle.wm_check.specs.declared.verdict.Verdict.{Verdict}
use Rattle.wm_check.specs.declared.verdict.Verdict.TheVariants.{Allowed, Refused, Broken}
use Rattle.wm_ast.specs.declared.module.Module.{Module}
use Rattle.wm_check.specs.declared.checker.CheckedLog.{CheckedLog}
use Rattle.wm_check.specs.declared.checker.CheckedLog.TheVariants as checked
use Rattle.wm_check.specs.Checked.{IsCheckOf, verdict_by, verdict_of}
use Rattle.wm_check.specs.Run.{IsModuleOf}
use Rattle.wm_rules.specs.Finding.{judgement_of}
use Rattle.wm_check.specs.Reading.{IsModuleRefusal}
use Rattle.wm_check.specs.Texts.{verdict_status}
use Rattle.wm_check.specs.Verdicts.{IsRefusedFor, Says}
use Rattle.wm_event.specs.declared.log.ThreadLog.{ThreadLog}
use Rattle.wm_event.specs.declared.rule.Judgement.{Judgement}
use Rattle.wm_event.specs.declared.rule.Judgement.TheVariants as judgement
use Rattle.wm_litmus.specs.declared.answer.Answer.{Answer}
use Rattle.wm_litmus.specs.Explanation.{AnswersExplain, AnswersGraph, AreStated, AreStatedBy, Explains, ExplainsChecked, HaveGrounds, Shows}
use Rattle.wm_litmus.specs.Explanation.AnswersGraph.{pictured, told}

-- bytes that spell no module are refused for that, whatever the document is
pub refused_for : (module_bytes document_bytes : List ℕ) (r : Refusal) → IsModuleRefusal module_bytes r → IsRefusedFor module_bytes document_bytes r
refused_for mb db (refusal.Decode fault) is = is
refused_for mb db (refusal.Valid fault) is = is
refused_for mb db (refusal.Document fault) is = absurd is
refused_for mb db (refusal.Shape fault) is = absurd is

-- ---- the command `explain`

-- what is refused needs no grounds
pub answers_explain : (module_bytes document_bytes : List ℕ) (r : Refusal) (answer : Answer) → Says module_bytes document_bytes (Refused r) → Explains (Refused r) answer
    → AnswersExplain module_bytes document_bytes answer.status (string_bytes answer.text)
answers_explain mb db r answer said explains = record {
  verdict = Refused r;
  says = said;
  reasons = explains.0;
  status_is = explains.1.status_is;
  text_is = explains.1.text_is;
  grounds = tt;
}

-- the grounds of a judgement are those of its verdict
by_judgement : (mb db : List ℕ) (log : List ThreadLog) (j : Judgement) (reasons : List ℕ) → AreStated mb db reasons → HaveGrounds mb db (verdict_by log j) reasons
by_judgement mb db log judgement.Valid reasons are = are
by_judgement mb db log (judgement.Broken fault) reasons are = are

grounds_of : (mb db : List ℕ) («module» : Module) (log : CheckedLog) (reasons : List ℕ) → IsModuleOf mb «module» → IsCheckOf «module» db log → AreStatedBy log reasons
    → HaveGrounds mb db (verdict_of log) reasons
grounds_of mb db «module» (checked.Refused r) reasons is-module is are = tt
grounds_of mb db «module» (checked.Misshapen m) reasons is-module is are = tt
grounds_of mb db «module» (checked.Differs run answer) reasons is-module is are = tt
grounds_of mb db «module» (checked.Judged run positions finding) reasons is-module is are =
    by_judgement mb db run.log (judgement_of finding) reasons (record {
      «module» = «module»;
      run = run;
      recorded = is.0 mb is-module;
      parts = are.0;
      text_is = are.1;
      hold = are.2 is.1.judged;
    })

pub checked_explains : (mb db : List ℕ) («module» : Module) (log : CheckedLog) (answer : Answer) → IsModuleOf mb «module» → IsCheckOf «module» db log → Says mb db (verdict_of log)
    → ExplainsChecked log answer → AnswersExplain mb db answer.status (string_bytes answer.text)
checked_explains mb db «module» log answer is-module is said explains = record {
  verdict = verdict_of log;
  says = said;
  reasons = explains.0;
  status_is = explains.1.status_is;
  text_is = explains.1.text_is;
  grounds = grounds_of mb db «module» log explains.0 is-module is explains.2;
}

-- ---- the command `graph`

pub answers_graph : (module_bytes document_bytes : List ℕ) (v : Verdict) (answer : Answer) → Says module_bytes document_bytes v → Shows v answer
    → AnswersGraph module_bytes document_bytes answer.status (string_bytes answer.text)
answers_graph mb db (Allowed certificate) answer said shows = pictured (Allowed certificate) said tt shows
answers_graph mb db (Refused r) answer said shows = told r said shows.status_is shows.text_is
answers_graph mb db (Broken breach) answer said shows = pictured (Broken breach) said tt shows

-- a picture with the status of the verdict by a judgement shows it
pub judged_shows : (log : List ThreadLog) (j : Judgement) (answer : Answer) → answer.status ≡ verdict_status (verdict_by log j) → Shows (verdict_by log j) answer
judged_shows log judgement.Valid answer is = is
judged_shows log (judgement.Broken fault) answer is = is
