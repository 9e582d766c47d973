use Rattle.std.proofs.Common.{string_bytes, subst, sym, arith}
use Rattle.wm_litmus.specs.LineWitness.{AnswersLineWitness}
use Rattle.wm_litmus.proofs.Statuses.{of_line_witness}
use Rattle.wm_litmus.proofs.line_witness.line_witness.Goals as goal

pub status_by-requires : goal.status_by-requires
status_by-requires c =
    let answer = c.in_ok-answer.answer in
    let few = of_line_witness answer.status (string_bytes answer.text) c.args.module.now c.args.line.now c.in_ok-answer.ensures in
    omega (arith, few)

pub returns : goal.returns
returns c =
    let answer = c.in_ok-answer.answer in
    subst (λ status. AnswersLineWitness c.args.module.now c.args.line.now status (string_bytes answer.text)) (sym c.status_by.ensures) c.in_ok-answer.ensures
