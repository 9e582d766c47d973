-- The numbers that words spell, and the pieces of a word.
use Rattle.std.specs.Prelude.{ℕ, List, Option, Some, None, ◌&&◌, ◌==◌, nat_lt, if◌then◌else◌, length}
use Rattle.std.specs.Char.{is_ascii_digit}
use Rattle.std.specs.List.{list_all, slice_split}
use Rattle.std.specs.Str.Parse.{digits_value}

-- the pieces of a word that the character of this code separates
unfoldable pub pieces : ℕ → List ℕ → List (List ℕ)
pieces code word = slice_split (λ byte. byte == code) word

-- the number that a word spells: one or more decimal digits, and nothing else. Leading zeros are allowed, a sign is not
unfoldable pub number_of : List ℕ → Option ℕ
number_of word = if nat_lt 0 (length word) && list_all is_ascii_digit word then Some (digits_value 10 word) else None

-- the number, if it is below the limit
abbrev pub below : ℕ → Option ℕ → Option ℕ
below limit None = None
below limit (Some number) = if nat_lt number limit then Some number else None

abbrev pub number_below : ℕ → List ℕ → Option ℕ
number_below limit word = below limit (number_of word)
