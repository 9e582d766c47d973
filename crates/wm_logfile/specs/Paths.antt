-- The paths of the items of a list.
use Rattle.std.specs.Prelude.{◌&&◌, ◌^◌, ℕ, List, [], ◌∷◌, ◌++◌, length, nat_lt, if◌then◌else◌}

-- The path of the item at that index. A path has at most eight indices, each of 32 bits, and is unchanged if another
-- doesn't fit; no value of the format is nested deeper, and no text within the limit has a longer list.
unfoldable pub child : List ℕ → ℕ → List ℕ
child path index = if nat_lt (length path) 8 && nat_lt index (2 ^ 32) then path ++ index ∷ [] else path
