use Rattle.std.proofs.Common.{◌∙◌, sym}
use Rattle.wm_command.proofs.Digits.{number_below_others, parsed}
use Rattle.wm_command.proofs.number.decimal.Goals as goal

pub returns-then-not-is_digits : goal.returns-then-not-is_digits
returns-then-not-is_digits c = sym (number_below_others 18446744073709551616 c.args.word.now (sym c.is_digits.ensures ∙ c.if-not-is_digits.true))

pub returns : goal.returns
returns c = c.ok.ensures.value ∙ parsed c.args.word.now _ c.parse.ensures.value.0 (sym c.is_digits.ensures ∙ c.if-not-is_digits.false)
