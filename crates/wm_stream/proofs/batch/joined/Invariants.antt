use Rattle.std.proofs.Common.{map, take}
use Rattle.wm_stream.specs.Answers.{Joins, answered}
use Rattle.wm_stream.proofs.batch.joined.Given as goal

-- the first answers are joined
abbrev pub invariant-loop-answer : goal.invariant-loop-answer
invariant-loop-answer l = Joins (map answered (take l.answer-index l.answers)) record { text = l.text; status = l.status }
