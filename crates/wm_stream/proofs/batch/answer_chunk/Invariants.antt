use Rattle.std.proofs.Common.{take}
use Rattle.wm_stream.specs.Answers.{AnswersTogether, texts_of}
use Rattle.wm_stream.proofs.batch.answer_chunk.Given as goal

-- the first lines are answered
abbrev pub invariant-loop-line : goal.invariant-loop-line
invariant-loop-line g l = AnswersTogether (g.J.AnswersLines.says l.judge) (texts_of (take l.line-index l.lines)) record { text = l.text; status = l.status }
