-- A text of digits alone writes the number that its digits give.
use Rattle.std.proofs.Common.{◌≡◌, ℕ, ◌+◌, ◌<◌, ◌^◌, false, List, [], ◌∷◌, ◌++◌, length, get_or, take, Some, refl, sym, ap, ◌∙◌, arith}
use Rattle.std.proofs.lemmas.List.{append-nil, take_more}
use Rattle.std.specs.Char.{digit_value}
use Rattle.std.specs.Str.Parse.{AllDigits, digits_value}
use Rattle.fast_float.specs.Text.{Parts, scan, IsWellFormed}
use Rattle.fast_float.proofs.Writing.{scan-text_of}
use Rattle.serde_json.specs.Data.{unsigned}
use Rattle.serde_json.specs.Read.{number_of}
use Rattle.wm_logfile.proofs.Taking.{natural}

-- a numeral that is these digits
abbrev numeral : List ℕ → Parts
numeral ds = record { whole = ds; point = false; fraction = []; exponent_negative = false; exponent = []; len = length (ds ++ []) }

scan-digits : (ds : List ℕ) → AllDigits 10 ds → scan ds ≡ numeral ds
scan-digits ds all =
    let formed : IsWellFormed (numeral ds) = record { whole_digits = all; fraction_digits = tt; exponent_digits = tt; no_point = λ _. refl; no_exponent = λ _. refl; len_is = refl } in
    ap scan (sym (append-nil ds)) ∙ scan-text_of (numeral ds) formed

begins_with_digit : (ds : List ℕ) → AllDigits 10 ds → get_or ds 0 0 ≡ 45 → ⊥
begins_with_digit [] all minus = omega arith
begins_with_digit (d ∷ ds) all minus = let digit : digit_value d < 10 = all.0 in let is : d ≡ 45 = minus in grind arith

pub number_of-digits : (ds : List ℕ) (n : ℕ) → AllDigits 10 ds → 0 < length ds → n ≡ digits_value 10 ds → n < 2 ^ 64 → number_of ds ≡ Some (unsigned n)
number_of-digits ds n all some is fits =
    let value : n ≡ digits_value 10 (ds ++ []) = is ∙ ap (digits_value 10) (sym (append-nil ds)) in
    natural ds (numeral ds) (Some n) (sym (scan-digits ds all)) (begins_with_digit ds all) (((some, refl, refl), rw (← value) fits), value)

digit_at_end : (ds : List ℕ) (d : ℕ) → AllDigits 10 ds → digit_value d < 10 → AllDigits 10 (ds ++ (d ∷ []))
digit_at_end [] d all digit = (digit, tt)
digit_at_end (e ∷ ds) d all digit = (all.0, digit_at_end ds d all.1 digit)

pub one_more_digit : (ds : List ℕ) (i : ℕ) → i < length ds → AllDigits 10 (take i ds) → digit_value (get_or ds i 0) < 10 → AllDigits 10 (take (i + 1) ds)
one_more_digit ds i inside all digit = rw (take_more ds i 0 inside) (digit_at_end (take i ds) (get_or ds i 0) all digit)
