use Rattle.std.proofs.Common.{◌≡◌, ◌∙◌, ap, subst}
use Rattle.wm_stream.specs.declared.answer.LineStatus.{LineStatus}
use Rattle.wm_stream.specs.Answers.{status_code, worse}
use Rattle.wm_litmus.specs.Stream.{IsJudgeOf, status_of}
use Rattle.wm_stream.proofs.Answering.{on_err}
use Rattle.wm_litmus.proofs.Streaming.{streams_all, streams_front}
use Rattle.wm_litmus.proofs.program.stream_lines.Goals as goal

pub returns-in_err-status-clause-stopped : goal.returns-in_err-status-clause-stopped
returns-in_err-status-clause-stopped g c =
    let bytes = c.in_ok-bytes.bytes.items in
    let slice : c.as_slice.result.now ≡ bytes = c.as_slice.ensures.value in
    let is = subst (λ b. IsJudgeOf c.args.task b c.in_ok-judge.judge) slice c.in_ok-judge.ensures in
    on_err c.from_residual-in_err-status.result
    (streams_front c.args.task (g.F.Files.content_of c.args.files.now c.args.name.now) (g.I.Read.remaining c.args.input.now) (g.O.Write.contents c.args.out.now) (g.O.Write.contents c.answer_lines-answered.new.out)
    bytes c.in_ok-judge.judge c.in_ok-bytes.ensures.known is c.in_err-status.ensures.stopped)

pub returns-clause-answered : goal.returns-clause-answered
returns-clause-answered g c =
    let bytes = c.in_ok-bytes.bytes.items in
    let slice : c.as_slice.result.now ≡ bytes = c.as_slice.ensures.value in
    let is = subst (λ b. IsJudgeOf c.args.task b c.in_ok-judge.judge) slice c.in_ok-judge.ensures in
    let own = c.status-own.ensures in
    let code : c.code.result ≡ status_code (worse (status_of c.in_ok-judge.judge) c.in_ok-status.status) = c.code.ensures ∙ ap status_code (c.worse.ensures ∙ ap (λ (s : LineStatus). worse s c.in_ok-status.status) own) in
    streams_all c.args.task (g.F.Files.content_of c.args.files.now c.args.name.now) (g.I.Read.remaining c.args.input.now) (g.O.Write.contents c.args.out.now) (g.O.Write.contents c.answer_lines-answered.new.out)
    bytes c.in_ok-judge.judge c.in_ok-status.status c.code.result c.in_ok-bytes.ensures.known is c.in_ok-status.ensures.answered code
