use Rattle.std.proofs.Common.{take, subst}
use Rattle.wm_stream.specs.Answers.{Prints, PrintsFront}
use Rattle.wm_stream.specs.Lines.{AreLines, EndsLine}
use Rattle.wm_stream.proofs.Answering.{front_of_whole_prints, on_err}
use Rattle.wm_stream.proofs.Printing.{texts}
use Rattle.wm_stream.proofs.Streaming.{part_lines, part_stops}
use Rattle.wm_stream.proofs.stream.answer_part.Goals as goal

pub returns-in_err-rest-clause-stopped : goal.returns-in_err-rest-clause-stopped
returns-in_err-rest-clause-stopped g c =
    on_err c.from_residual.result (part_stops (g.J.AnswersLines.says c.args.judge.now) c.args.limit c.args.begun.now.items c.args.part.now (g.O.Write.contents c.args.out.now))

pub returns-in_err-lines-clause-stopped : goal.returns-in_err-lines-clause-stopped
returns-in_err-lines-clause-stopped g c =
    on_err c.from_residual-in_err-lines.result (part_stops (g.J.AnswersLines.says c.args.judge.now) c.args.limit c.args.begun.now.items c.args.part.now (g.O.Write.contents c.args.out.now))

pub returns-in_err-status-clause-stopped : goal.returns-in_err-status-clause-stopped
returns-in_err-status-clause-stopped g c =
    let says = g.J.AnswersLines.says c.args.judge.now in
    let limit = c.args.limit in
    let begun = c.args.begun.now.items in
    let part = c.args.part.now in
    let line = c.end_line.new.begun.items in
    let rest = c.in-Some.rest in
    let ended = texts c.in_ok-lines.lines.ended.items in
    let left = c.in_ok-lines.lines.left.now in
    let old = g.O.Write.contents c.args.out.now in
    let new = g.O.Write.contents c.print_answers.new.out in
    let ends = subst (EndsLine limit begun part line) c.in-Some.is c.in_ok-rest.ensures in
    let are : AreLines limit line rest.now ended left = subst (λ first. AreLines limit first rest.now ended left) c.as_slice.ensures.value c.in_ok-lines.ensures in
    let front : PrintsFront says ended old new = subst (λ lines. PrintsFront says (texts lines) old new) c.as_slice-2.ensures.value c.in_err-status.ensures.stopped in
    on_err c.from_residual-in_err-status.result record { lines = ended; next = take limit left; are_lines = part_lines says limit begun line left part rest ended ends are; prints = front }

pub returns-in_err-begin_line-clause-stopped : goal.returns-in_err-begin_line-clause-stopped
returns-in_err-begin_line-clause-stopped g c =
    let says = g.J.AnswersLines.says c.args.judge.now in
    let limit = c.args.limit in
    let begun = c.args.begun.now.items in
    let part = c.args.part.now in
    let line = c.end_line.new.begun.items in
    let rest = c.in-Some.rest in
    let ended = texts c.in_ok-lines.lines.ended.items in
    let left = c.in_ok-lines.lines.left.now in
    let old = g.O.Write.contents c.args.out.now in
    let new = g.O.Write.contents c.print_answers.new.out in
    let status = c.in_ok-status.status in
    let ends = subst (EndsLine limit begun part line) c.in-Some.is c.in_ok-rest.ensures in
    let are : AreLines limit line rest.now ended left = subst (λ first. AreLines limit first rest.now ended left) c.as_slice.ensures.value c.in_ok-lines.ensures in
    let prints : Prints says ended status old new = subst (λ lines. Prints says (texts lines) status old new) c.as_slice-2.ensures.value c.in_ok-status.ensures.printed in
    on_err c.from_residual-in_err-begin_line.result
    record { lines = ended; next = take limit left; are_lines = part_lines says limit begun line left part rest ended ends are; prints = front_of_whole_prints says ended status old new prints }

pub returns-clause-answered : goal.returns-clause-answered
returns-clause-answered g c =
    let says = g.J.AnswersLines.says c.args.judge.now in
    let limit = c.args.limit in
    let begun = c.args.begun.now.items in
    let part = c.args.part.now in
    let line = c.end_line.new.begun.items in
    let rest = c.in-Some.rest in
    let ended = texts c.in_ok-lines.lines.ended.items in
    let left = c.in_ok-lines.lines.left.now in
    let old = g.O.Write.contents c.args.out.now in
    let new = g.O.Write.contents c.print_answers.new.out in
    let status = c.in_ok-status.status in
    let ends = subst (EndsLine limit begun part line) c.in-Some.is c.in_ok-rest.ensures in
    let are : AreLines limit line rest.now ended left = subst (λ first. AreLines limit first rest.now ended left) c.as_slice.ensures.value c.in_ok-lines.ensures in
    let prints : Prints says ended status old new = subst (λ lines. Prints says (texts lines) status old new) c.as_slice-2.ensures.value c.in_ok-status.ensures.printed in
    rw c.in_ok-begin_line.ensures record { lines = ended; are_lines = part_lines says limit begun line left part rest ended ends are; prints = prints }
