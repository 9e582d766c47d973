use Rattle.std.proofs.Common.{◌≡◌, ◌^◌, ◌<◌, take}
use Rattle.std.specs.Str.Parse.{AllDigits, digits_value}
use Rattle.wm_logfile.proofs.quick.number_of_digits.Given as goal

abbrev pub invariant-loop-byte : goal.invariant-loop-byte
invariant-loop-byte l =
    (l.number ≡ digits_value 10 (take l.byte-index l.bytes)) × AllDigits 10 (take l.byte-index l.bytes) × (l.number < 2 ^ 64)
