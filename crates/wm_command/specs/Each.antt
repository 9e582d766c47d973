-- The values of all items of a list.
use Rattle.std.specs.Prelude.{List, [], ◌∷◌, Option, Some, None}

-- one more value before the others, if all exist
abbrev pub before : {A : Type 0} → Option A → Option (List A) → Option (List A)
before (Some value) (Some values) = Some (value ∷ values)
before _ _ = None

-- the value of each item, if each has one
abbrev pub each : {A B : Type 0} → (A → Option B) → List A → Option (List B)
each value [] = Some []
each value (item ∷ items) = before (value item) (each value items)
