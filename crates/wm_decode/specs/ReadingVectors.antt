-- Reading vectors, names, and values with their size before them.
use Rattle.std.specs.Prelude.{ℕ, zero, suc, ◌+◌, ◌-◌, ◌^◌, List, [], ◌∷◌, length, take, drop, Result, Ok, Err, nat_lt, ◌==◌, if◌then◌else◌}
use Rattle.std.specs.Str.{is_utf8}
use Rattle.wm_decode.specs.declared.fault.FaultKind.TheVariants.{BadName, SectionSize}
use Rattle.wm_decode.specs.Stop.{Stop, stop, ended, before, map_stop}
use Rattle.wm_decode.specs.Reading.{◌>>=◌, faulted_at, unsigned_at}

abbrev pub u32_at : List ℕ → Result (ℕ × List ℕ) Stop
u32_at bytes = unsigned_at (2 ^ 32 - 1) bytes

-- as many bytes as the size states; if there are fewer, reading stops this way
unfoldable pub own_bytes_at : Stop → List ℕ → Result (List ℕ × List ℕ) Stop
own_bytes_at short bytes = do
  count ← u32_at bytes
  if nat_lt (length count.1) count.0 then Err short else Ok (take count.0 count.1, drop count.0 count.1)

abbrev pub byte_vector_at : List ℕ → Result (List ℕ × List ℕ) Stop
byte_vector_at bytes = own_bytes_at ended bytes

-- a name; a fault of the name is at its first byte
unfoldable pub name_at : List ℕ → Result (List ℕ × List ℕ) Stop
name_at bytes = do
  text ← faulted_at bytes (byte_vector_at bytes)
  if is_utf8 text.0 then Ok text else Err (stop BadName (length bytes))

module _ {X : Type 0} (item_at : List ℕ → Result (X × List ℕ) Stop) where
  unfoldable pub items_at : ℕ → List ℕ → Result (List X × List ℕ) Stop
  items_at zero bytes = Ok ([], bytes)
  items_at (suc n) bytes = do
    first ← item_at bytes
    others ← items_at n first.1
    Ok (first.0 ∷ others.0, others.1)

  unfoldable pub vector_at : List ℕ → Result (List X × List ℕ) Stop
  vector_at bytes = do
    count ← u32_at bytes
    items_at count.0 count.1

  -- a value that takes up all of these bytes, before the others
  unfoldable pub filled_at : List ℕ × List ℕ → Result (X × List ℕ) Stop
  filled_at content = do
    value ← map_stop (before (length content.1)) (item_at content.0)
    if length value.1 == 0 then Ok (value.0, content.1) else Err (stop SectionSize (length value.1 + length content.1))

  -- a value that takes up as many bytes as the size states
  unfoldable pub sized_at : List ℕ → Result (X × List ℕ) Stop
  sized_at bytes = do
    content ← byte_vector_at bytes
    filled_at content

-- this number of steps from a state, each of which reads what comes after the last
module _ {S : Type 0} (step : S → List ℕ → Result (S × List ℕ) Stop) where
  unfoldable pub more_at : ℕ → S → List ℕ → Result (S × List ℕ) Stop
  more_at zero state bytes = Ok (state, bytes)
  more_at (suc n) state bytes = step state bytes >>= λ x. more_at n x.0 x.1
