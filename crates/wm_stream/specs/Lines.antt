-- The lines of a text.
use Rattle.std.specs.Prelude.{◌≡◌, ℕ, ◌-◌, List, [], ◌∷◌, ◌++◌, Option, None, Some, length, map, nat_eq, take, if◌then◌else◌}
use Rattle.std.specs.Borrow.{Bor}

-- what comes after the last newline is also a line, if it is not empty
abbrev pub last_line : List ℕ → List (List ℕ)
last_line [] = []
last_line (byte ∷ bytes) = (byte ∷ bytes) ∷ []

-- the lines of a text that comes after these first bytes of a line: a newline, which is 10, ends each
abbrev pub lines_after : List ℕ → List ℕ → List (List ℕ)
lines_after begun [] = last_line begun
lines_after begun (byte ∷ bytes) = if nat_eq byte 10 then begun ∷ lines_after [] bytes else lines_after (begun ++ byte ∷ []) bytes

-- the lines of a text
abbrev pub lines_of : List ℕ → List (List ℕ)
lines_of = lines_after []

-- the first `limit` bytes of each line
abbrev pub cut_lines : ℕ → List ℕ → List (List ℕ)
cut_lines limit bytes = map (take limit) (lines_of bytes)

-- extended by more bytes, up to the limit
abbrev pub extended : ℕ → List ℕ → List ℕ → List ℕ
extended limit bytes more = bytes ++ take (limit - length bytes) more

-- these bytes are complete lines, and `line` begins after them; only the first `limit` bytes of each are kept
pub record Splits (limit : ℕ) (bytes : List ℕ) (lines : List (List ℕ)) (begun : List ℕ) : Type 0 where
  pub line : List ℕ
  pub kept : begun ≡ take limit line
  pub splits : (rest : List ℕ) → cut_lines limit (bytes ++ rest) ≡ lines ++ map (take limit) (lines_after line rest)

-- whatever came before, one more part ends these lines, and begins another line
abbrev pub SplitsOn : ℕ → List ℕ → List ℕ → List (List ℕ) → List ℕ → Type 0
SplitsOn limit begun part lines next =
    (bytes : List ℕ) (before : List (List ℕ)) → Splits limit bytes before begun → Splits limit (bytes ++ part) (before ++ lines) next

-- a newline of the part ends the line that has begun, and this comes after it; or the part has no newline and continues
-- the line
abbrev pub EndsLine : ℕ → List ℕ → List ℕ → List ℕ → Option (Bor (List ℕ)) → Type 0
EndsLine limit begun part line None = SplitsOn limit begun part [] line
EndsLine limit begun part line (Some rest) = (head : List ℕ) × (part ≡ head ++ rest.now) × SplitsOn limit begun head (line ∷ []) []

-- `first`, and then the lines that a part ends if it follows a newline; `left` begins the next line
abbrev pub AreLines : ℕ → List ℕ → List ℕ → List (List ℕ) → List ℕ → Type 0
AreLines limit first part lines left = (more : List (List ℕ)) × (lines ≡ first ∷ more) × SplitsOn limit [] part more (take limit left)
