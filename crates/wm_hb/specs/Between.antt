-- The writes of a byte between two places of the order.
use Rattle.std.specs.Prelude.{◌≡◌, ℕ, ◌<◌, ◌&&◌, List, Bool, true, false, not, ltb, slice_get, Some}
use Rattle.std.specs.List.Sorted.{IsPartitionPoint}
use Rattle.wm_event.specs.declared.writes.ByteWrite.{ByteWrite}

-- from one place up to but not including another
abbrev pub stands_between : ℕ → ℕ → ByteWrite → Bool
stands_between start end write = not (ltb write.place start) && ltb write.place end

-- how many of the writes come before the place; they are the first ones
abbrev pub IsCountBelow : ℕ → List ByteWrite → ℕ → Type 0
IsCountBelow place writes count = IsPartitionPoint (λ (b : ByteWrite). ltb b.place place ≡ true) (λ (b : ByteWrite). ltb b.place place ≡ false) writes count

-- each write's place is before the places of the writes after it
abbrev pub Rises : List ByteWrite → Type 0
Rises writes = (i j : ℕ) (a b : ByteWrite) → i < j → slice_get writes i ≡ Some a → slice_get writes j ≡ Some b → a.place < b.place
