-- The tokens that a reader of a text has left.
use Rattle.std.specs.Prelude.{◌≡◌, ◌⊎◌, ◌∷◌, ℕ, List, drop, Bool, true, false}
use Rattle.json.specs.Token.{Token}
use Rattle.json.specs.Lex.{after_comma, after_value, between, fresh, lex, punctuate}
use Rattle.wm_logfile.specs.declared.quick.reader.Place.{Place}
use Rattle.wm_logfile.specs.declared.quick.reader.Place.TheVariants.{Fresh, AfterValue, AfterComma}

abbrev pub tokens_left : Place → List ℕ → List Token
tokens_left Fresh text = punctuate fresh (lex between text)
tokens_left AfterValue text = punctuate after_value (lex between text)
tokens_left AfterComma text = punctuate after_comma (lex between text)

-- a value may come next
abbrev pub begins_at : Place → Bool
begins_at Fresh = true
begins_at AfterValue = false
begins_at AfterComma = true

-- a list may end
abbrev pub closes_at : Place → Bool
closes_at Fresh = true
closes_at AfterValue = true
closes_at AfterComma = false

-- a comma or the end of a list is next
abbrev pub EndsItem : List ℕ → Type 0
EndsItem text = (text ≡ 44 ∷ drop 1 text) ⊎ (text ≡ 93 ∷ drop 1 text)
