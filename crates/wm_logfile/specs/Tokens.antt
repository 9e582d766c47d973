-- The tokens of a value, for the clauses of the writers.
use Rattle.std.specs.Prelude.{◌≡◌, List, [], ◌∷◌, ◌++◌}
use Rattle.json.specs.Token.{Token}
use Rattle.json.specs.Tree.{json_tokens}
use Rattle.json.specs.Written.{Written}
use Rattle.serde_json.specs.Data.{Data}
use Rattle.serde_json.specs.Written.{outline}

abbrev pub tokens_of : Data → List Token
tokens_of d = json_tokens (outline d)

-- the tokens of values, one after the other
abbrev pub cells_tokens : List Data → List Token
cells_tokens [] = []
cells_tokens (d ∷ ds) = tokens_of d ++ cells_tokens ds

-- these tokens were written after the others
abbrev pub Adds : Written → Written → List Token → Type 0
Adds old new ts = (new.before ≡ old.before) × (new.tokens ≡ old.tokens ++ ts)
