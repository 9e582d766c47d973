-- The map that counts outcomes.
use Rattle.std.specs.Prelude.{◌≡◌, ◌+◌, ◌-◌, ◌<◌, ◌^◌, ℕ, zero, suc, List, [], ◌∷◌, ◌++◌, Option, Some, None, String, false, length, string_bytes}
use Rattle.std.specs.Fmt.{decimal, format_spec, padded_integral}
use Rattle.std.specs.BTreeMap.{BTreeMap, IsOrdered, get_by_text}
use Rattle.std.specs.String.{string_cmp}
use Rattle.std.specs.declared.alloc.Global.{Global}
use Rattle.wm_litmus.specs.Table.{Row, times}

-- an outcome that hasn't occurred has no entry
abbrev pub entry_of : ℕ → Option ℕ
entry_of zero = None
entry_of (suc count) = Some (suc count)

-- the next count of an entry
abbrev pub next_count : Option ℕ → ℕ
next_count None = 1
next_count (Some count) = count + 1

-- the map counts the outcomes that occurred
pub record Counts (came : List (List ℕ)) (counts : BTreeMap (String Global) ℕ) : Type 0 where
  pub ordered : IsOrdered string_cmp counts
  pub entries_are : (outcome : List ℕ) → get_by_text counts outcome ≡ entry_of (times outcome came)

-- for any outcomes that occurred and are counted, this is how often one of them has occurred, including the next time
abbrev pub IsNextCount : BTreeMap (String Global) ℕ → List ℕ → ℕ → Type 0
IsNextCount counts outcome n = (came : List (List ℕ)) → Counts came counts → length came + 1 < 2 ^ 64 → n ≡ next_count (get_by_text counts outcome)

-- the map counts one more of this outcome
abbrev pub CountsOneMore : List ℕ → BTreeMap (String Global) ℕ → BTreeMap (String Global) ℕ → Type 0
CountsOneMore outcome old new = (came : List (List ℕ)) → Counts came old → length came + 1 < 2 ^ 64 → Counts (came ++ outcome ∷ []) new

-- a count in 8 places, as the standard library prints it
abbrev pub padded_text : ℕ → List ℕ
padded_text count = padded_integral (format_spec 32 3 0 8 (2 ^ 64 - 1)) false [] (decimal count)

-- an entry, as a row
abbrev pub row_of : String Global × ℕ → Row
row_of entry = record { outcome = string_bytes entry.0; count = entry.1 }
