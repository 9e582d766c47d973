use Rattle.std.proofs.Common.{◌≡◌, subst, string_bytes}
use Rattle.wm_litmus.specs.Tasks.{AnswersRunTask}
use Rattle.wm_litmus.proofs.program.run_task_of.Goals as goal

pub returns-clause-answers : goal.returns-clause-answers
returns-clause-answers g c =
    let answer = c.in_ok-answer.answer in
    let task = c.args.task in
    let read = c.in_ok-read in
    let of_module : c.as_slice.result.now ≡ read.read.0.items = c.as_slice.ensures.value in
    let of_document : c.as_slice-2.result.now ≡ read.read.1.items = c.as_slice-2.ensures.value in
    record {
      module_bytes = read.read.0.items;
      module_read = read.ensures.modules;
      document_bytes = read.read.1.items;
      document_read = read.ensures.documents;
      answers =
          subst (λ bytes. AnswersRunTask task read.read.0.items bytes answer.status (string_bytes answer.text)) of_document
          (subst (λ bytes. AnswersRunTask task bytes c.as_slice-2.result.now answer.status (string_bytes answer.text)) of_module
          c.in_ok-answer.ensures);
    }
