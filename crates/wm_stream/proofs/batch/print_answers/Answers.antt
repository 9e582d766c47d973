use Rattle.std.proofs.Common.{List, map, subst}
use Rattle.std.specs.Io.KnownBytes.{Appends}
use Rattle.wm_stream.specs.declared.answer.LineAnswer.{LineAnswer}
use Rattle.wm_stream.specs.Answers.{Joins, answered}
use Rattle.wm_stream.specs.Output.{AppendsFront}
use Rattle.wm_stream.proofs.Answering.{front_none, on_err}
use Rattle.wm_stream.proofs.Printing.{all_printed, some_printed, texts, together_of_chunks}
use Rattle.wm_stream.proofs.batch.print_answers.Goals as goal

pub returns-in_err-answers-clause-stopped : goal.returns-in_err-answers-clause-stopped
returns-in_err-answers-clause-stopped g c =
    on_err c.from_residual.result (front_none (g.J.AnswersLines.says c.args.judge.now) (texts c.args.lines.now) (g.O.Write.contents c.args.out.now))

pub returns-in_err-all-clause-stopped : goal.returns-in_err-all-clause-stopped
returns-in_err-all-clause-stopped g c =
    on_err c.from_residual-in_err-all.result (front_none (g.J.AnswersLines.says c.args.judge.now) (texts c.args.lines.now) (g.O.Write.contents c.args.out.now))

pub returns-in-Ok-clause-printed : goal.returns-in-Ok-clause-printed
returns-in-Ok-clause-printed g c =
    let old = g.O.Write.contents c.args.out.now in
    let new = g.O.Write.contents c.write_text.new.out in
    let all = c.in_ok-all.all in
    let joins = subst (λ (xs : List LineAnswer). Joins (map answered xs) all) c.as_slice.ensures.value c.in_ok-all.ensures in
    let says = g.J.AnswersLines.says c.args.judge.now in
    let lines = texts c.args.lines.now in
    all_printed says lines all old new (together_of_chunks says lines c.in_ok-answers.answers.items all c.in_ok-answers.ensures joins)
    (subst (Appends old new) c.as_str.ensures.value c.in-Ok.ensures.written)

pub returns-clause-stopped : goal.returns-clause-stopped
returns-clause-stopped g c =
    let old = g.O.Write.contents c.args.out.now in
    let new = g.O.Write.contents c.write_text.new.out in
    let all = c.in_ok-all.all in
    let joins = subst (λ (xs : List LineAnswer). Joins (map answered xs) all) c.as_slice.ensures.value c.in_ok-all.ensures in
    let says = g.J.AnswersLines.says c.args.judge.now in
    let lines = texts c.args.lines.now in
    some_printed says lines all old new (together_of_chunks says lines c.in_ok-answers.answers.items all c.in_ok-answers.ensures joins)
    (subst (AppendsFront old new) c.as_str.ensures.value c.in-Err.ensures.stopped)
