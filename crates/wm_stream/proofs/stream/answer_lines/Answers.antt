use Rattle.std.proofs.Common.{◌≡◌, ℕ, List, [], length, take, refl, ap, subst, ◌∙◌, arith}
use Rattle.wm_stream.specs.Answers.{Prints, PrintsFront, worse}
use Rattle.wm_stream.specs.Lines.{last_line}
use Rattle.wm_stream.specs.Stream.{AnswersPart, AnswersPartFirst}
use Rattle.wm_stream.proofs.Answering.{on_err}
use Rattle.wm_stream.proofs.Printing.{texts}
use Rattle.wm_stream.proofs.Streaming.{answers_all, answers_more, reads_nothing, starts, stops, stops_at_last, stops_within, whole_buffer}
use Rattle.wm_stream.proofs.stream.answer_lines.Goals as goal

take_none : (xs : List ℕ) → take 0 xs ≡ []
take_none xs = refl

pub returns-in_err-buffer-clause-stopped : goal.returns-in_err-buffer-clause-stopped
returns-in_err-buffer-clause-stopped g c =
    let says = g.J.AnswersLines.says c.args.judge.now in
    let had = g.I.Read.remaining c.args.input.now in
    let old = g.O.Write.contents c.args.out.now in
    on_err c.from_residual.result (stops says c.args.limit had had [] _ old old (starts says c.args.limit had old))

pub loop-init : goal.loop-init
loop-init g c =
    let says = g.J.AnswersLines.says c.args.judge.now in
    let had = g.I.Read.remaining c.args.input.now in
    let old = g.O.Write.contents c.args.out.now in
    record { room = grind (arith, c.in_ok-buffer.ensures.len, c.in_ok-buffer.buffer.ok); answered = rw c.new-begun.ensures.items (starts says c.args.limit had old) }

pub returns-in_err-count-clause-stopped : goal.returns-in_err-count-clause-stopped
returns-in_err-count-clause-stopped g c =
    on_err c.from_residual-in_err-count.result (stops (g.J.AnswersLines.says c.args.judge.now) c.args.limit (g.I.Read.remaining c.args.input.now) (g.I.Read.remaining c.loop.input)
    c.loop.begun.items c.loop.status (g.O.Write.contents c.args.out.now) (g.O.Write.contents c.loop.out) c.loop.invariant.answered)

pub returns-in_err-last-clause-stopped : goal.returns-in_err-last-clause-stopped
returns-in_err-last-clause-stopped g c =
    on_err c.from_residual-in_err-last.result (stops (g.J.AnswersLines.says c.args.judge.now) c.args.limit (g.I.Read.remaining c.args.input.now) (g.I.Read.remaining c.loop.input)
    c.loop.begun.items c.loop.status (g.O.Write.contents c.args.out.now) (g.O.Write.contents c.loop.out) c.loop.invariant.answered)

pub returns-in_err-print_answers-clause-stopped : goal.returns-in_err-print_answers-clause-stopped
returns-in_err-print_answers-clause-stopped g c =
    let says = g.J.AnswersLines.says c.args.judge.now in
    let had = g.I.Read.remaining c.args.input.now in
    let mid = g.I.Read.remaining c.loop.input in
    let left = g.I.Read.remaining c.read_part.new.input in
    let old = g.O.Write.contents c.args.out.now in
    let now = g.O.Write.contents c.loop.out in
    let part = take c.in_ok-count.count c.read_part.new.buffer in
    let read = c.in_ok-count.ensures.read in
    let none : part ≡ [] = ap (λ k. take k c.read_part.new.buffer) c.if-count-eq0.true ∙ take_none c.read_part.new.buffer in
    let answered = reads_nothing says c.args.limit had mid left c.loop.begun.items part c.loop.status old now c.loop.invariant.answered read.consumes none in
    let new = g.O.Write.contents c.print_answers.new.out in
    let last : texts c.as_slice-then-count-eq0.result.now ≡ last_line c.loop.begun.items = ap texts c.as_slice-then-count-eq0.ensures.value ∙ c.in_ok-last.ensures ∙ ap last_line c.as_slice.ensures.value in
    let front : PrintsFront says (last_line c.loop.begun.items) now new = subst (λ lines. PrintsFront says lines now new) last c.in_err-print_answers.ensures.stopped in
    on_err c.from_residual-in_err-print_answers.result
    (stops_at_last says c.args.limit had left c.loop.begun.items c.loop.status old now new c.requires answered (read.at_end c.if-count-eq0.true) front)

pub returns-then-count-eq0-clause-answered : goal.returns-then-count-eq0-clause-answered
returns-then-count-eq0-clause-answered g c =
    let says = g.J.AnswersLines.says c.args.judge.now in
    let had = g.I.Read.remaining c.args.input.now in
    let mid = g.I.Read.remaining c.loop.input in
    let left = g.I.Read.remaining c.read_part.new.input in
    let old = g.O.Write.contents c.args.out.now in
    let now = g.O.Write.contents c.loop.out in
    let part = take c.in_ok-count.count c.read_part.new.buffer in
    let read = c.in_ok-count.ensures.read in
    let none : part ≡ [] = ap (λ k. take k c.read_part.new.buffer) c.if-count-eq0.true ∙ take_none c.read_part.new.buffer in
    let answered = reads_nothing says c.args.limit had mid left c.loop.begun.items part c.loop.status old now c.loop.invariant.answered read.consumes none in
    let new = g.O.Write.contents c.print_answers.new.out in
    let last : texts c.as_slice-then-count-eq0.result.now ≡ last_line c.loop.begun.items = ap texts c.as_slice-then-count-eq0.ensures.value ∙ c.in_ok-last.ensures ∙ ap last_line c.as_slice.ensures.value in
    let prints : Prints says (last_line c.loop.begun.items) c.in_ok-print_answers.field-0 now new = subst (λ lines. Prints says lines c.in_ok-print_answers.field-0 now new) last c.in_ok-print_answers.ensures.printed in
    rw c.worse.ensures
    (answers_all says c.args.limit had left c.loop.begun.items c.loop.status c.in_ok-print_answers.field-0 old now new c.requires answered (read.at_end c.if-count-eq0.true) prints)

pub returns-in_err-answer_part-clause-stopped : goal.returns-in_err-answer_part-clause-stopped
returns-in_err-answer_part-clause-stopped g c =
    let says = g.J.AnswersLines.says c.args.judge.now in
    let had = g.I.Read.remaining c.args.input.now in
    let mid = g.I.Read.remaining c.loop.input in
    let left = g.I.Read.remaining c.read_part.new.input in
    let old = g.O.Write.contents c.args.out.now in
    let now = g.O.Write.contents c.loop.out in
    let new = g.O.Write.contents c.answer_part.new.out in
    let buffer = c.read_part.new.buffer in
    let part = take c.in_ok-count.count buffer in
    let begun = c.loop.begun.items in
    let whole : c.as_slice-in-loop.result.now ≡ buffer =
    c.as_slice-in-loop.ensures.value ∙ whole_buffer buffer c.loop.buffer.items c.loop.buffer.len (c.read_part.ensures.size ∙ c.as_mut_slice.ensures.len) in
    let first : AnswersPartFirst says c.args.limit begun part now new =
    subst (λ bytes. AnswersPartFirst says c.args.limit begun (take c.in_ok-count.count bytes) now new) whole c.in_err-answer_part.ensures.stopped in
    on_err c.from_residual-in_err-answer_part.result
    (stops_within says c.args.limit had mid left begun part c.loop.status old now new c.loop.invariant.answered c.in_ok-count.ensures.read.consumes first)

pub returns-in_err-lengthen-clause-stopped : goal.returns-in_err-lengthen-clause-stopped
returns-in_err-lengthen-clause-stopped g c =
    let says = g.J.AnswersLines.says c.args.judge.now in
    let had = g.I.Read.remaining c.args.input.now in
    let mid = g.I.Read.remaining c.loop.input in
    let left = g.I.Read.remaining c.read_part.new.input in
    let old = g.O.Write.contents c.args.out.now in
    let now = g.O.Write.contents c.loop.out in
    let new = g.O.Write.contents c.answer_part.new.out in
    let buffer = c.read_part.new.buffer in
    let part = take c.in_ok-count.count buffer in
    let begun = c.loop.begun.items in
    let whole : c.as_slice-in-loop.result.now ≡ buffer =
    c.as_slice-in-loop.ensures.value ∙ whole_buffer buffer c.loop.buffer.items c.loop.buffer.len (c.read_part.ensures.size ∙ c.as_mut_slice.ensures.len) in
    let next = c.answer_part.new.begun.items in
    let added = c.in_ok-answer_part.field-0 in
    let answers : AnswersPart says c.args.limit begun part next now new added =
    subst (λ bytes. AnswersPart says c.args.limit begun (take c.in_ok-count.count bytes) next now new added) whole c.in_ok-answer_part.ensures.answered in
    on_err c.from_residual-in_err-lengthen.result
    (stops says c.args.limit had left next (worse c.loop.status added) old new
    (answers_more says c.args.limit had mid left begun next part c.loop.status added old now new c.loop.invariant.answered c.in_ok-count.ensures.read.consumes answers))

pub loop-preserved : goal.loop-preserved
loop-preserved g c =
    let says = g.J.AnswersLines.says c.args.judge.now in
    let had = g.I.Read.remaining c.args.input.now in
    let mid = g.I.Read.remaining c.loop.input in
    let left = g.I.Read.remaining c.read_part.new.input in
    let old = g.O.Write.contents c.args.out.now in
    let now = g.O.Write.contents c.loop.out in
    let new = g.O.Write.contents c.answer_part.new.out in
    let buffer = c.read_part.new.buffer in
    let part = take c.in_ok-count.count buffer in
    let begun = c.loop.begun.items in
    let whole : c.as_slice-in-loop.result.now ≡ buffer =
    c.as_slice-in-loop.ensures.value ∙ whole_buffer buffer c.loop.buffer.items c.loop.buffer.len (c.read_part.ensures.size ∙ c.as_mut_slice.ensures.len) in
    let next = c.answer_part.new.begun.items in
    let added = c.in_ok-answer_part.field-0 in
    let answers : AnswersPart says c.args.limit begun part next now new added =
    subst (λ bytes. AnswersPart says c.args.limit begun (take c.in_ok-count.count bytes) next now new added) whole c.in_ok-answer_part.ensures.answered in
    record {
      room = grind (arith, c.loop.invariant.room, ap length (whole_buffer buffer c.loop.buffer.items c.loop.buffer.len (c.read_part.ensures.size ∙ c.as_mut_slice.ensures.len)) ∙ c.read_part.ensures.size ∙ ap length c.as_mut_slice.ensures.value, c.in_ok-lengthen.ensures);
      answered = rw c.worse-status.ensures
          (answers_more says c.args.limit had mid left begun next part c.loop.status added old now new c.loop.invariant.answered c.in_ok-count.ensures.read.consumes answers);
    }

pub returns-clause-stopped : goal.returns-clause-stopped
returns-clause-stopped g c =
    stops (g.J.AnswersLines.says c.args.judge.now) c.args.limit (g.I.Read.remaining c.args.input.now) (g.I.Read.remaining c.loop.input)
    c.loop.begun.items c.loop.status (g.O.Write.contents c.args.out.now) (g.O.Write.contents c.loop.out) c.loop.invariant.answered
