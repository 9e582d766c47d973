-- The start that a word spells.
use Rattle.std.specs.Prelude.{ℕ, ◌^◌, List, [], ◌∷◌, Option, None}
use Rattle.std.specs.Option.{option_map}
use Rattle.wm_event.specs.declared.log.Start.{Start}
use Rattle.wm_command.specs.Each.{each}
use Rattle.wm_command.specs.Numbers.{number_below, pieces}

abbrev pub argument_of : List ℕ → Option ℕ
argument_of word = number_below (2 ^ 64) word

abbrev pub start_with : List ℕ → List ℕ → Start
start_with name args = record { name = name; args = args }

-- a start, by the pieces between colons: the name of an export, and then the arguments
abbrev pub start_of_pieces : List (List ℕ) → Option Start
start_of_pieces [] = None
start_of_pieces (name ∷ arguments) = option_map (start_with name) (each argument_of arguments)

unfoldable pub start_of : List ℕ → Option Start
start_of word = start_of_pieces (pieces 58 word)

-- the starts of the threads, a word each
abbrev pub starts_of : List (List ℕ) → Option (List Start)
starts_of words = each start_of words
