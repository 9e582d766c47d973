use Rattle.std.proofs.Common.{◌≡◌, subst, string_bytes}
use Rattle.wm_litmus.specs.Tasks.{AnswersDocumentTask}
use Rattle.wm_litmus.proofs.program.document_task_of.Goals as goal

pub returns-clause-answers : goal.returns-clause-answers
returns-clause-answers g c =
    let answer = c.in_ok-answer.answer in
    let read = c.in_ok-bytes in
    let slice : c.as_slice.result.now ≡ read.bytes.items = c.as_slice.ensures.value in
    record {
      bytes = read.bytes.items;
      read = read.ensures.known;
      answers = subst (λ bytes. AnswersDocumentTask c.args.task bytes answer.status (string_bytes answer.text)) slice c.in_ok-answer.ensures;
    }
