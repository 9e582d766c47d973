use Rattle.std.proofs.Common.{◌<◌, length}
use Rattle.wm_stream.proofs.Streaming.{HasAnswered}
use Rattle.wm_stream.proofs.stream.answer_lines.Given as goal

abbrev pub invariant-loop : goal.invariant-loop
invariant-loop g l = record {
  room : 0 < length l.buffer.items;
  answered : HasAnswered (g.J.AnswersLines.says l.judge) l.limit (g.I.Read.remaining l.initial.input) (g.I.Read.remaining l.input) l.begun.items l.status
      (g.O.Write.contents l.initial.out) (g.O.Write.contents l.out);
}
