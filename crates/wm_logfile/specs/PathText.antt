-- How a path prints: each index after a slash, and a single slash for the whole.
use Rattle.std.specs.Prelude.{ℕ, List, [], ◌∷◌, ◌++◌, codes}
use Rattle.std.specs.Fmt.{decimal}

abbrev pub steps_text : List ℕ → List ℕ
steps_text [] = []
steps_text (index ∷ rest) = codes "/" ++ (decimal index ++ steps_text rest)

abbrev pub path_text : List ℕ → List ℕ
path_text [] = codes "/"
path_text (index ∷ rest) = steps_text (index ∷ rest)
