-- The table of the outcomes of rounds.
use Rattle.std.specs.Prelude.{◌≡◌, ◌<◌, ◌-◌, ℕ, List, ◌++◌, codes, length, map, replicate}
use Rattle.std.specs.Cmp.Lexicographic.{slice_cmp}
use Rattle.std.specs.Fmt.{decimal}
use Rattle.std.specs.List.{All, Contains, count_by, flat_map}
use Rattle.std.specs.List.Sorted.{IsStrictlySortedBy}
use Rattle.std.specs.Ordering.{nat_cmp}
use Rattle.std.specs.Str.{bytes_eq}
use Rattle.wm_litmus.specs.Prints.{ended}

-- a row: an outcome, and how often it occurred
pub record Row : Type 0 where
  pub outcome : List ℕ
  pub count : ℕ

abbrev pub outcomes_of : List Row → List (List ℕ)
outcomes_of rows = map (λ (row : Row). row.outcome) rows

-- how often an outcome is among those that occurred
abbrev pub times : List ℕ → List (List ℕ) → ℕ
times outcome came = count_by (λ other. bytes_eq outcome other) came

-- the rows of the outcomes that occurred: sorted by the bytes of the outcome, each once, with how often it occurred,
-- without omissions
pub record IsTable (came : List (List ℕ)) (rows : List Row) : Type 0 where
  pub sorted : IsStrictlySortedBy (slice_cmp nat_cmp) (outcomes_of rows)
  pub counted : All (λ (row : Row). (0 < row.count) × (row.count ≡ times row.outcome came)) rows
  pub whole : All (Contains (outcomes_of rows)) came

-- a number in 8 places, with spaces before it
abbrev pub count_text : ℕ → List ℕ
count_text count = replicate (8 - length (decimal count)) 32 ++ decimal count

-- a line: the count, two spaces, and the outcome
abbrev pub row_text : Row → List ℕ
row_text row = ended (count_text row.count ++ codes "  " ++ row.outcome)

-- the text is the table of the outcomes that occurred
pub record IsTableText (came : List (List ℕ)) (text : List ℕ) : Type 0 where
  pub rows : List Row
  pub table : IsTable came rows
  pub text_is : text ≡ flat_map row_text rows
