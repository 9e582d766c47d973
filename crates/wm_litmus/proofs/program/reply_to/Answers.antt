use Rattle.std.proofs.Common.{subst, string_bytes}
use Rattle.wm_litmus.specs.Drive.{AnswersDrive, IsScriptAnswer}
use Rattle.wm_litmus.specs.Trace.{AnswersTrace}
use Rattle.wm_litmus.specs.Rounds.{IsRoundsAnswer}
use Rattle.wm_litmus.specs.declared.explore.Listing.TheVariants.{Outcomes, Documents}
use Rattle.wm_litmus.specs.Explore.{IsExplorationAnswer}
use Rattle.wm_litmus.specs.Replies.IsAnswer.{document_task_of, drive_of, explore_of, help_of, no_command, run_of, run_task_of, trace_of, version_of, witness_of, witnesses_of}
use Rattle.wm_litmus.proofs.program.reply_to.Goals as goal

pub returns-in_ok-answer-in-Ok-OfRun-clause-answers : goal.returns-in_ok-answer-in-Ok-OfRun-clause-answers
returns-in_ok-answer-in-Ok-OfRun-clause-answers g c =
    let read = rw c.in-Ok-OfRun.field-0-is at c.in-Ok-OfRun.ensures.read in
    run_task_of c.in-Ok-OfRun.task c.in-Ok-OfRun.module c.in-Ok-OfRun.document read c.in_ok-answer-in-Ok-OfRun.ensures.answers

pub returns-in_ok-answer-in-Ok-OfDocument-clause-answers : goal.returns-in_ok-answer-in-Ok-OfDocument-clause-answers
returns-in_ok-answer-in-Ok-OfDocument-clause-answers g c =
    let read = rw c.in-Ok-OfDocument.field-0-is at c.in-Ok-OfDocument.ensures.read in
    document_task_of c.in-Ok-OfDocument.task c.in-Ok-OfDocument.document read c.in_ok-answer-in-Ok-OfDocument.ensures.answers

pub returns-in_ok-answer-in-Ok-Witness-clause-answers : goal.returns-in_ok-answer-in-Ok-Witness-clause-answers
returns-in_ok-answer-in-Ok-Witness-clause-answers g c =
    let read = rw c.in-Ok-Witness.field-0-is at c.in-Ok-Witness.ensures.read in
    witness_of c.in-Ok-Witness.words read c.in_ok-answer-in-Ok-Witness.ensures.answers

pub returns-in_ok-answer-in-Ok-Drive-clause-answers : goal.returns-in_ok-answer-in-Ok-Drive-clause-answers
returns-in_ok-answer-in-Ok-Drive-clause-answers g c =
    let read = rw c.in-Ok-Drive.field-0-is at c.in-Ok-Drive.ensures.read in
    let turns = c.in-Ok-Drive.turns in
    let answer = c.in_ok-answer-in-Ok-Drive.answer in
    let file = g.F.Files.content_of c.args.files.now c.in-Ok-Drive.module.now in
    drive_of c.in-Ok-Drive.module turns read (subst (λ starts. IsScriptAnswer AnswersDrive file turns.now starts answer.status (string_bytes answer.text)) c.starts_of-starts.ensures c.in_ok-answer-in-Ok-Drive.ensures.answers)

pub returns-in_ok-answer-in-Ok-Trace-clause-answers : goal.returns-in_ok-answer-in-Ok-Trace-clause-answers
returns-in_ok-answer-in-Ok-Trace-clause-answers g c =
    let read = rw c.in-Ok-Trace.field-0-is at c.in-Ok-Trace.ensures.read in
    let turns = c.in-Ok-Trace.turns in
    let answer = c.in_ok-answer-in-Ok-Trace.answer in
    let file = g.F.Files.content_of c.args.files.now c.in-Ok-Trace.module.now in
    trace_of c.in-Ok-Trace.module turns read (subst (λ starts. IsScriptAnswer AnswersTrace file turns.now starts answer.status (string_bytes answer.text)) c.starts_of-starts.ensures c.in_ok-answer-in-Ok-Trace.ensures.answers)

pub returns-in_ok-answer-in-Ok-Run-clause-answers : goal.returns-in_ok-answer-in-Ok-Run-clause-answers
returns-in_ok-answer-in-Ok-Run-clause-answers g c =
    let read = rw c.in-Ok-Run.field-0-is at c.in-Ok-Run.ensures.read in
    let rounds = c.in-Ok-Run.rounds in
    let answer = c.in_ok-answer-in-Ok-Run.answer in
    let file = g.F.Files.content_of c.args.files.now c.in-Ok-Run.module.now in
    run_of c.in-Ok-Run.module rounds read (subst (λ starts. IsRoundsAnswer file rounds.now starts answer.status (string_bytes answer.text)) c.starts_of-starts.ensures c.in_ok-answer-in-Ok-Run.ensures.answers)

pub returns-in_ok-answer-in-Ok-Explore-clause-answers : goal.returns-in_ok-answer-in-Ok-Explore-clause-answers
returns-in_ok-answer-in-Ok-Explore-clause-answers g c =
    let read = rw c.in-Ok-Explore.field-0-is at c.in-Ok-Explore.ensures.read in
    let events = c.in-Ok-Explore.events in
    let answer = c.in_ok-answer-in-Ok-Explore.answer in
    let file = g.F.Files.content_of c.args.files.now c.in-Ok-Explore.module.now in
    explore_of c.in-Ok-Explore.module events read (subst (λ starts. IsExplorationAnswer Outcomes file events.now starts answer.status (string_bytes answer.text)) c.starts_of-starts.ensures c.in_ok-answer-in-Ok-Explore.ensures.answers)

pub returns-in_ok-answer-in-Ok-Witnesses-clause-answers : goal.returns-in_ok-answer-in-Ok-Witnesses-clause-answers
returns-in_ok-answer-in-Ok-Witnesses-clause-answers g c =
    let read = rw c.in-Ok-Witnesses.field-0-is at c.in-Ok-Witnesses.ensures.read in
    let events = c.in-Ok-Witnesses.events in
    let answer = c.in_ok-answer-in-Ok-Witnesses.answer in
    let file = g.F.Files.content_of c.args.files.now c.in-Ok-Witnesses.module.now in
    witnesses_of c.in-Ok-Witnesses.module events read (subst (λ starts. IsExplorationAnswer Documents file events.now starts answer.status (string_bytes answer.text)) c.starts_of-starts.ensures c.in_ok-answer-in-Ok-Witnesses.ensures.answers)

pub returns-in_ok-help_answer-in-Ok-Help-clause-answers : goal.returns-in_ok-help_answer-in-Ok-Help-clause-answers
returns-in_ok-help_answer-in-Ok-Help-clause-answers g c =
    let prints = c.in_ok-help_answer-in-Ok-Help.ensures in
    help_of (rw c.in-Ok-Help.field-0-is at c.in-Ok-Help.ensures.read) prints.status_is prints.text_is

pub returns-in_ok-version_answer-in-Ok-Version-clause-answers : goal.returns-in_ok-version_answer-in-Ok-Version-clause-answers
returns-in_ok-version_answer-in-Ok-Version-clause-answers g c =
    let prints = c.in_ok-version_answer-in-Ok-Version.ensures in
    version_of (rw c.in-Ok-Version.field-0-is at c.in-Ok-Version.ensures.read) prints.status_is prints.text_is

pub returns-in_ok-refused_words-in-Err-Words-clause-answers :
    goal.returns-in_ok-refused_words-in-Err-Words-clause-answers
returns-in_ok-refused_words-in-Err-Words-clause-answers g c =
    let prints = c.in_ok-refused_words-in-Err-Words.ensures in
    let refused = c.in-Err-Words.ensures.refused in
    no_command (refused (cc c.in-Err-Words.field-0-is)) prints.status_is prints.text_is
