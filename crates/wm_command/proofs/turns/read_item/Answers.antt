use Rattle.std.proofs.Common.{None, Some, ◌∙◌, ap, refl, sym, lit<}
use Rattle.wm_command.proofs.Parting.{cut_once}
use Rattle.wm_command.proofs.Spelling.{item_alone, item_pair, repeated_some}
use Rattle.wm_command.specs.Turns.{repeated}
use Rattle.wm_command.proofs.turns.read_item.Goals as goal

pub returns-in_err-read_turn-in-None : goal.returns-in_err-read_turn-in-None
returns-in_err-read_turn-in-None c =
    rw c.from_residual.ensures (item_alone c.args.word.now None (cut_once 42 c.args.word.now None c.in-None.ensures.cases (lit< tt)) (sym c.in_err-read_turn-in-None.was ∙ c.read_turn.ensures))

pub returns-in_ok-read_turn-in-None : goal.returns-in_ok-read_turn-in-None
returns-in_ok-read_turn-in-None c =
    item_alone c.args.word.now (Some c.in_ok-read_turn-in-None.field-0) (cut_once 42 c.args.word.now None c.in-None.ensures.cases (lit< tt)) (sym c.in_ok-read_turn-in-None.was ∙ c.read_turn.ensures)

pub returns-in_err-turn-in-Some : goal.returns-in_err-turn-in-Some
returns-in_err-turn-in-Some c =
    let cut = cut_once 42 c.args.word.now (Some (c.in-Some.turn, c.in-Some.times)) c.in-Some.ensures.cases (lit< tt) in
    rw c.from_residual-in_err-turn-in-Some.ensures
    (item_pair c.args.word.now c.in-Some.turn.now c.in-Some.times.now None _ cut (sym c.in_err-turn-in-Some.was ∙ c.read_turn-in-Some.ensures) refl)

pub returns-in_err-times-in-Some : goal.returns-in_err-times-in-Some
returns-in_err-times-in-Some c =
    let cut = cut_once 42 c.args.word.now (Some (c.in-Some.turn, c.in-Some.times)) c.in-Some.ensures.cases (lit< tt) in
    rw c.from_residual-in_err-times-in-Some.ensures
    (item_pair c.args.word.now c.in-Some.turn.now c.in-Some.times.now (Some c.in_ok-turn-in-Some.turn) None cut
    (sym c.in_ok-turn-in-Some.was ∙ c.read_turn-in-Some.ensures) (sym c.in_err-times-in-Some.was ∙ c.small_decimal.ensures))

pub returns-then-times-eq0 : goal.returns-then-times-eq0
returns-then-times-eq0 c =
    let cut = cut_once 42 c.args.word.now (Some (c.in-Some.turn, c.in-Some.times)) c.in-Some.ensures.cases (lit< tt) in
    item_pair c.args.word.now c.in-Some.turn.now c.in-Some.times.now (Some c.in_ok-turn-in-Some.turn) (Some c.in_ok-times-in-Some.times) cut
    (sym c.in_ok-turn-in-Some.was ∙ c.read_turn-in-Some.ensures) (sym c.in_ok-times-in-Some.was ∙ c.small_decimal.ensures)
    ∙ ap (λ times. repeated (Some c.in_ok-turn-in-Some.turn) (Some times)) c.if-times-eq0.true

pub returns-else-times-eq0 : goal.returns-else-times-eq0
returns-else-times-eq0 c =
    let cut = cut_once 42 c.args.word.now (Some (c.in-Some.turn, c.in-Some.times)) c.in-Some.ensures.cases (lit< tt) in
    item_pair c.args.word.now c.in-Some.turn.now c.in-Some.times.now (Some c.in_ok-turn-in-Some.turn) (Some c.in_ok-times-in-Some.times) cut
    (sym c.in_ok-turn-in-Some.was ∙ c.read_turn-in-Some.ensures) (sym c.in_ok-times-in-Some.was ∙ c.small_decimal.ensures)
    ∙ repeated_some c.in_ok-turn-in-Some.turn c.in_ok-times-in-Some.times c.if-times-eq0.false
