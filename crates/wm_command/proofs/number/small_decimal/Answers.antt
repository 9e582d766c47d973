use Rattle.std.proofs.Common.{None, Some, ◌∙◌, sym}
use Rattle.wm_command.proofs.Digits.{fitted, small_as}
use Rattle.wm_command.proofs.number.small_decimal.Goals as goal

pub returns-in_err-decimal : goal.returns-in_err-decimal
returns-in_err-decimal c = c.from_residual.ensures ∙ sym (small_as c.args.word.now None (sym c.in_err-decimal.was ∙ c.decimal.ensures))

pub returns : goal.returns
returns c =
    let number = c.in_ok-decimal.field-0 in
    c.ok.ensures.value ∙ fitted 4294967296 number c.try_from.result c.try_from.ensures
    ∙ sym (small_as c.args.word.now (Some number) (sym c.in_ok-decimal.was ∙ c.decimal.ensures))
