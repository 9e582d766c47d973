use Rattle.std.proofs.Common.{◌≡◌, ◌<◌, length, get_or, ap, ◌∙◌, subst, arith}
use Rattle.std.specs.Char.{digit_value}
use Rattle.std.specs.Str.Parse.{digits_value, AllDigits}
use Rattle.std.proofs.lemmas.List.{take_all}
use Rattle.std.proofs.lemmas.Bool.Decides.{nat_tests}
use Rattle.std.proofs.lemmas.Int.Digits.{digits_value_more}
use Rattle.wm_logfile.proofs.Digits.{number_of-digits, one_more_digit}
use Rattle.wm_logfile.proofs.quick.number_of_digits.Goals as goal

pub loop-byte-preserved : goal.loop-byte-preserved
loop-byte-preserved c =
    let ds = c.args.bytes.now in
    let digit : digit_value (get_or ds c.loop-byte.byte-index 0) ≡ c.from.result = grind (arith, nat_tests) in
    let small : c.from.result < 10 = grind (arith, nat_tests) in (
      omega (arith, digits_value_more 10 ds _ c.loop-byte-test.true, c.loop-byte.invariant.0),
      one_more_digit ds _ c.loop-byte-test.true c.loop-byte.invariant.1 (rw digit small),
      omega (arith, small),
    )

pub returns : goal.returns
returns c =
    let ds = c.args.bytes.now in
    let all = take_all c.loop-byte.byte-index ds c.loop-byte-test.false in
    let some : 0 < length ds = grind (arith, nat_tests) in
    number_of-digits ds c.loop-byte.number (subst (AllDigits 10) all c.loop-byte.invariant.1) some (c.loop-byte.invariant.0 ∙ ap (digits_value 10) all) c.loop-byte.invariant.2
