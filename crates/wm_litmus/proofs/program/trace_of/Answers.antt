use Rattle.std.proofs.Common.{◌≡◌, subst, string_bytes}
use Rattle.wm_litmus.specs.Trace.{AnswersTrace}
use Rattle.wm_litmus.specs.Drive.IsScriptAnswer.{no_script, played}
use Rattle.wm_litmus.proofs.program.trace_of.Goals as goal

pub returns-in_ok-answer-in-Ok-clause-answers : goal.returns-in_ok-answer-in-Ok-clause-answers
returns-in_ok-answer-in-Ok-clause-answers g c =
    let script = c.in-Ok.script in
    let answer = c.in_ok-answer-in-Ok.answer in
    let bytes = c.in_ok-bytes-in-Ok.bytes.items in
    let slice : c.as_slice.result.now ≡ bytes = c.as_slice.ensures.value in
    played script bytes c.in-Ok.ensures.spelled c.in_ok-bytes-in-Ok.ensures.known
    (subst (λ b. AnswersTrace b script.plan script.turns answer.status (string_bytes answer.text)) slice c.in_ok-answer-in-Ok.ensures)

pub returns-in_ok-answer-in-Err-clause-answers : goal.returns-in_ok-answer-in-Err-clause-answers
returns-in_ok-answer-in-Err-clause-answers g c =
    let prints = c.in_ok-answer-in-Err.ensures in
    no_script c.in-Err.fault prints.0 c.in-Err.ensures.fault prints.1.status_is prints.1.text_is
