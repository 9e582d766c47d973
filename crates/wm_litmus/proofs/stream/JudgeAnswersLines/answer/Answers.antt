use Rattle.std.proofs.Common.{string_bytes, subst, sym}
use Rattle.std.proofs.lemmas.Result.{IfOk-weaker}
use Rattle.wm_command.specs.declared.command.LineTask.{LineTask}
use Rattle.wm_litmus.specs.Stream.{AnswersLine, IsJudgeOf}
use Rattle.wm_litmus.specs.Stream.AnswersWitnessLine.{over}
use Rattle.wm_litmus.proofs.Streaming.{refused_line}
use Rattle.wm_litmus.proofs.stream.JudgeAnswersLines.answer.Goals as goal

pub returns-in_ok-verdict-in-Module : goal.returns-in_ok-verdict-in-Module
returns-in_ok-verdict-in-Module c =
    IfOk-weaker c.line_answer.result _ _
    (λ answer is asked module_bytes is_judge.
    let h = subst (IsJudgeOf asked module_bytes) c.in-Module.is is_judge in
    subst (λ (t : LineTask). AnswersLine t module_bytes c.args.line.now answer.status (string_bytes answer.text)) (sym h.0) (record {
      verdict = c.in_ok-verdict-in-Module.verdict;
      verifies = c.in_ok-verdict-in-Module.ensures module_bytes h.1;
      status_is = is.status_is;
      text_is = is.text_is;
    }))
    c.line_answer.ensures

pub returns-in-Search : goal.returns-in-Search
returns-in-Search c =
    IfOk-weaker c.line_witness.result _ _
    (λ answer says asked module_bytes is_judge.
    let h = subst (IsJudgeOf asked module_bytes) c.in-Search.is is_judge in
    subst (λ (t : LineTask). AnswersLine t module_bytes c.args.line.now answer.status (string_bytes answer.text)) (sym h.0) (over c.in-Search.module h.1 says))
    c.line_witness.ensures

pub returns-in-Refused : goal.returns-in-Refused
returns-in-Refused c =
    IfOk-weaker c.line_answer-in-Refused.result _ _
    (λ answer is asked module_bytes is_judge. refused_line asked module_bytes c.args.line.now c.in-Refused.verdict answer (subst (IsJudgeOf asked module_bytes) c.in-Refused.is is_judge) is)
    c.line_answer-in-Refused.ensures
