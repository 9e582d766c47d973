-- The number of nodes of a search.
use Rattle.std.specs.Prelude.{ℕ, ◌^◌, List, Option}
use Rattle.wm_command.specs.Numbers.{number_below}
use Rattle.wm_command.specs.Words.{not_zero}

-- how many nodes a word allows: 1 to 4,294,967,295
abbrev pub nodes_of : List ℕ → Option ℕ
nodes_of word = not_zero (number_below (2 ^ 32) word)
