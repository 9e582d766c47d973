use Rattle.std.proofs.Common.{None, Some, ◌∙◌, sym, lit<}
use Rattle.std.proofs.lemmas.Str.Pattern.{strip_prefix_char}
use Rattle.wm_command.proofs.Spelling.{turn_drain, turn_step}
use Rattle.wm_command.proofs.turns.read_turn.Goals as goal

pub returns-in_err-small_decimal-in-None : goal.returns-in_err-small_decimal-in-None
returns-in_err-small_decimal-in-None c =
    let other = strip_prefix_char 100 c.args.word.now None c.in-None.ensures.cases (lit< tt) in
    c.from_residual.ensures ∙ sym (turn_step c.args.word.now None other (sym c.in_err-small_decimal-in-None.was ∙ c.small_decimal.ensures))

pub returns-in_ok-small_decimal-in-None : goal.returns-in_ok-small_decimal-in-None
returns-in_ok-small_decimal-in-None c =
    let other = strip_prefix_char 100 c.args.word.now None c.in-None.ensures.cases (lit< tt) in
    sym (turn_step c.args.word.now (Some c.in_ok-small_decimal-in-None.field-0) other (sym c.in_ok-small_decimal-in-None.was ∙ c.small_decimal.ensures))

pub returns-in-Some : goal.returns-in-Some
returns-in-Some c =
    let stripped = strip_prefix_char 100 c.args.word.now (Some c.in-Some.drain) c.in-Some.ensures.cases (lit< tt) in
    c.read_drain.ensures ∙ sym (turn_drain c.args.word.now c.in-Some.drain.now stripped)
