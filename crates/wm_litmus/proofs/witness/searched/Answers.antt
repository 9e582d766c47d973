use Rattle.std.proofs.Common.{◌≡◌, ◌∙◌, ap, ap₂, length, subst, sym, codes}
use Rattle.std.proofs.lemmas.Result.{IfOk-weaker}
use Rattle.std.specs.Fmt.{decimal}
use Rattle.serde_json.specs.Written.{compact_text}
use Rattle.wm_event.specs.Fitting.{FitsLog}
use Rattle.wm_event.specs.Shape.{event_count}
use Rattle.wm_event.proofs.FittingLemmas.{fits_log}
use Rattle.wm_logfile.specs.Document.{document_2}
use Rattle.wm_witness.specs.Answer.{FoundIsValid, NoneIsNever}
use Rattle.wm_writers.specs.Forced.{with_witness}
use Rattle.wm_litmus.specs.Prints.{ended}
use Rattle.wm_litmus.specs.Witness.{no_witness_text}
use Rattle.wm_litmus.specs.Witness.AnswersSearch.{found, none}
use Rattle.wm_litmus.proofs.Witnessing.{joined_4}
use Rattle.wm_litmus.proofs.witness.searched.Goals as goal

pub write_document-requires : goal.write_document-requires
write_document-requires c =
    let run = c.args.start.now in
    let is = subst (FoundIsValid run) c.in-Found.is c.in_ok-answer.ensures.found in
    subst (λ log. FitsLog log c.in-Found.witness) (sym c.log-log.ensures.value) (fits_log (with_witness run c.in-Found.witness) is.0)

pub returns-in_ok-text-in-Found : goal.returns-in_ok-text-in-Found
returns-in_ok-text-in-Found c =
    let run = c.args.start.now in
    let w = c.in-Found.witness in
    let is = subst (FoundIsValid run) c.in-Found.is c.in_ok-answer.ensures.found in
    IfOk-weaker c.of_line.result _ _
    (λ answer prints. found w is.0 is.1 prints.status_is
    (prints.text_is ∙ ap ended (c.in_ok-text-in-Found.ensures.text ∙ ap (λ log. compact_text (document_2 log w)) c.log-log.ensures.value)))
    c.of_line.ensures

pub returns-in_ok-line-in-NoWitness : goal.returns-in_ok-line-in-NoWitness
returns-in_ok-line-in-NoWitness c =
    let run = c.args.start.now in
    let is = subst (NoneIsNever run) c.in-NoWitness.is c.in_ok-answer.ensures.none in
    let threads : c.threads-threads.result.now ≡ run.log = c.threads-threads.ensures.value ∙ c.log-log.ensures.value in
    IfOk-weaker c.of_line-in-NoWitness.result _ _
    (λ answer prints. none is prints.status_is
    (prints.text_is
    ∙ ap ended
    (c.in_ok-line-in-NoWitness.ensures.ok
    ∙ sym (joined_4 (codes "no witness threads=") (decimal (length c.threads-threads.result.now)) (codes " events=") (decimal c.count_events-events.result))
    ∙ ap₂ no_witness_text (ap length threads) (c.count_events-events.ensures ∙ ap event_count threads))))
    c.of_line-in-NoWitness.ensures
