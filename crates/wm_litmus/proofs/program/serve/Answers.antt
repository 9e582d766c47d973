use Rattle.std.proofs.Common.{arith, map, string_bytes, subst}
use Rattle.wm_litmus.specs.Replies.{given}
use Rattle.wm_litmus.specs.Replies.WritesFront.{front}
use Rattle.wm_litmus.specs.Serving.{StreamsAll, StreamsFront}
use Rattle.wm_litmus.proofs.Statuses.{below_three}
use Rattle.wm_litmus.proofs.Streaming.{writes_all, writes_front}
use Rattle.wm_stream.specs.Output.{AppendsFront}
use Rattle.wm_litmus.proofs.program.serve.Goals as goal

pub returns-in-Ok-clause-status : goal.returns-in-Ok-clause-status
returns-in-Ok-clause-status g c =
    let answer = c.in-Ok-Answer.answer in
    omega (arith, below_three _ answer.status (string_bytes answer.text) (rw c.in-Ok-Answer.field-0-is at c.in-Ok-Answer.ensures.answers))

pub returns-in-Ok-clause-stopped : goal.returns-in-Ok-clause-stopped
returns-in-Ok-clause-stopped g c stopped =
    let answer = c.in-Ok-Answer.answer in
    absurd (omega (arith, stopped, below_three _ answer.status (string_bytes answer.text) (rw c.in-Ok-Answer.field-0-is at c.in-Ok-Answer.ensures.answers)))

pub returns-in-Ok-Answer-clause-stopped : goal.returns-in-Ok-Answer-clause-stopped
returns-in-Ok-Answer-clause-stopped g c _ =
    let answer = c.in-Ok-Answer.answer in
    let text = string_bytes answer.text in
    front answer.status text (rw c.in-Ok-Answer.field-0-is at c.in-Ok-Answer.ensures.answers)
    (subst (AppendsFront (g.O.Write.contents c.args.out.now) (g.O.Write.contents c.write_text.new.out)) c.as_str.ensures.value c.in-Err-write_text.ensures.stopped)

pub returns-in-Ok-stream_lines-clause-answers : goal.returns-in-Ok-stream_lines-clause-answers
returns-in-Ok-stream_lines-clause-answers g c _ =
    let name = c.in-Ok-Lines.module in
    let old = g.O.Write.contents c.args.out.now in
    let new = g.O.Write.contents c.stream_lines.new.out in
    let status = c.in-Ok-stream_lines.status in
    let kept = (rw c.in-Ok-Lines.field-0-is at c.in-Ok-Lines.ensures.kept) tt in
    let command = rw c.in-Ok-Lines.field-0-is at c.in-Ok-Lines.ensures.answers in
    let files_kept = subst (λ files. StreamsAll c.in-Ok-Lines.task (g.F.Files.content_of files name.now) (g.I.Read.remaining c.reply_to.new.input) old new status) kept.0 c.in-Ok-stream_lines.ensures.answered in
    writes_all (given (map (λ word. word.now) c.args.words.now) (g.F.Files.content_of c.args.files.now) (g.I.Read.remaining c.args.input.now)) c.in-Ok-Lines.task name old new command status
    (subst (λ input. StreamsAll c.in-Ok-Lines.task (g.F.Files.content_of c.args.files.now name.now) (g.I.Read.remaining input) old new status) kept.1 files_kept)

pub returns-in-Ok-Lines-clause-stopped : goal.returns-in-Ok-Lines-clause-stopped
returns-in-Ok-Lines-clause-stopped g c _ =
    let name = c.in-Ok-Lines.module in
    let old = g.O.Write.contents c.args.out.now in
    let new = g.O.Write.contents c.stream_lines.new.out in
    let kept = (rw c.in-Ok-Lines.field-0-is at c.in-Ok-Lines.ensures.kept) tt in
    let command = rw c.in-Ok-Lines.field-0-is at c.in-Ok-Lines.ensures.answers in
    let files_kept = subst (λ files. StreamsFront c.in-Ok-Lines.task (g.F.Files.content_of files name.now) (g.I.Read.remaining c.reply_to.new.input) old new) kept.0 c.in-Err-stream_lines.ensures.stopped in
    writes_front (given (map (λ word. word.now) c.args.words.now) (g.F.Files.content_of c.args.files.now) (g.I.Read.remaining c.args.input.now)) c.in-Ok-Lines.task name old new command
    (subst (λ input. StreamsFront c.in-Ok-Lines.task (g.F.Files.content_of c.args.files.now name.now) (g.I.Read.remaining input) old new) kept.1 files_kept)
