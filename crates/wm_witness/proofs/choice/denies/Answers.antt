use Rattle.std.proofs.Common.{sym, ◌∙◌}
use Rattle.wm_witness.proofs.ChoiceLaw.{takes-none-at}
use Rattle.wm_witness.proofs.choice.denies.Goals as goal

pub returns-then-eq-3 : goal.returns-then-eq-3
returns-then-eq-3 c = λ t x holds from.
    takes-none-at x c.args.assumption.now c.in-TakesNone.other c.in-TakesNone.writer c.args.reader c.in-At.key c.args.id c.args.byte c.in-TakesNone.is c.in-At.is (sym c.if-eq-3.ensures) (sym c.eq-then-eq-3.ensures ∙ t) holds from
