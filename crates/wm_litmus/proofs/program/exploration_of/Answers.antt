use Rattle.std.proofs.Common.{◌≡◌, subst, string_bytes}
use Rattle.wm_litmus.specs.Explore.{AnswersExplore}
use Rattle.wm_litmus.specs.Explore.IsExplorationAnswer.{made, no_exploration}
use Rattle.wm_litmus.proofs.program.exploration_of.Goals as goal

pub returns-in_ok-answer-in-Ok-clause-answers : goal.returns-in_ok-answer-in-Ok-clause-answers
returns-in_ok-answer-in-Ok-clause-answers g c =
    let words = c.in-Ok.exploration in
    let answer = c.in_ok-answer-in-Ok.answer in
    let bytes = c.in_ok-bytes-in-Ok.bytes.items in
    let slice : c.as_slice.result.now ≡ bytes = c.as_slice.ensures.value in
    made words bytes c.in-Ok.ensures.spelled c.in_ok-bytes-in-Ok.ensures.known
    (subst (λ b. AnswersExplore c.args.listing b words answer.status (string_bytes answer.text)) slice c.in_ok-answer-in-Ok.ensures)

pub returns-in_ok-answer-in-Err-clause-answers : goal.returns-in_ok-answer-in-Err-clause-answers
returns-in_ok-answer-in-Err-clause-answers g c =
    let prints = c.in_ok-answer-in-Err.ensures in
    no_exploration c.in-Err.fault prints.0 c.in-Err.ensures.fault prints.1.status_is prints.1.text_is
