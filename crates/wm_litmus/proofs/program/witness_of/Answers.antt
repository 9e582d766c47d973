use Rattle.std.proofs.Common.{◌≡◌, subst, string_bytes}
use Rattle.wm_litmus.specs.Replies.IsWitnessAnswer.{of_run, of_document, no_nodes}
use Rattle.wm_litmus.specs.Witness.{AnswersEventWitness, AnswersWitness}
use Rattle.wm_litmus.proofs.program.witness_of.Goals as goal

pub returns-in_ok-answer-in-Ok-OfRun-clause-answers : goal.returns-in_ok-answer-in-Ok-OfRun-clause-answers
returns-in_ok-answer-in-Ok-OfRun-clause-answers g c =
    let task = c.in-Ok-OfRun in
    let answer = c.in_ok-answer-in-Ok-OfRun.answer in
    let read = c.in_ok-read-in-Ok-OfRun in
    let spelled = rw task.field-0-is at task.ensures.task in
    let of_module : c.as_slice.result.now ≡ read.read.0.items = c.as_slice.ensures.value in
    let of_document_bytes : c.as_slice-in-Ok-OfRun.result.now ≡ read.read.1.items = c.as_slice-in-Ok-OfRun.ensures.value in
    of_run task.module task.document task.nodes read.read.0.items read.read.1.items spelled read.ensures.modules read.ensures.documents
    (subst (λ bytes. AnswersWitness task.nodes read.read.0.items bytes answer.status (string_bytes answer.text)) of_document_bytes
    (subst (λ bytes. AnswersWitness task.nodes bytes c.as_slice-in-Ok-OfRun.result.now answer.status (string_bytes answer.text)) of_module
    c.in_ok-answer-in-Ok-OfRun.ensures))

pub returns-in_ok-answer-in-Ok-OfDocument-clause-answers : goal.returns-in_ok-answer-in-Ok-OfDocument-clause-answers
returns-in_ok-answer-in-Ok-OfDocument-clause-answers g c =
    let task = c.in-Ok-OfDocument in
    let answer = c.in_ok-answer-in-Ok-OfDocument.answer in
    let read = c.in_ok-bytes-in-Ok-OfDocument in
    let spelled = rw task.field-0-is at task.ensures.task in
    let slice : c.as_slice-in-Ok-OfDocument.result.now ≡ read.bytes.items = c.as_slice-in-Ok-OfDocument.ensures.value in
    of_document task.document task.nodes read.bytes.items spelled read.ensures.known
    (subst (λ bytes. AnswersEventWitness task.nodes bytes answer.status (string_bytes answer.text)) slice c.in_ok-answer-in-Ok-OfDocument.ensures)

pub returns-in_ok-answer-in-Err-clause-answers : goal.returns-in_ok-answer-in-Err-clause-answers
returns-in_ok-answer-in-Err-clause-answers g c =
    let prints = c.in_ok-answer-in-Err.ensures in
    let fault = c.in-Err.ensures.fault in
    no_nodes fault.1 prints.1.status_is (rw fault.0 at prints.1.text_is)
