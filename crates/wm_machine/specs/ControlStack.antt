-- How a stack of values under marks represents the operands of each block.
use Rattle.std.specs.Prelude.{ℕ, List, [], ◌∷◌, take, drop, reverse, ◌≤◌, ◌<◌, ◌+◌, ◌^◌, All, ⊤}
use Rattle.wm_machine.specs.declared.value.TypedValue.{TypedValue}
use Rattle.wm_machine.specs.declared.control_stack.ControlFrame.{ControlFrame}
use Rattle.wm_machine.specs.Nest.{Nest, Position}

-- the enclosing blocks, whose operands are these values
abbrev pub places_of : List ControlFrame → List TypedValue → List Position
places_of [] values = []
places_of (l ∷ ls) values =
    record { operands = reverse (drop l.base values); block = l.block; at = l.at } ∷ places_of ls (take l.base values)

abbrev pub nest_of : ControlFrame → List ControlFrame → List TypedValue → Nest
nest_of l ls values = record {
  operands = reverse (drop l.base values);
  block = l.block;
  at = l.at;
  outer = places_of ls (take l.base values);
}

-- each block's values begin below those of the blocks in it
abbrev pub Bases : ℕ → List ControlFrame → Type 0
Bases top [] = ⊤
Bases top (l ∷ ls) = (l.base ≤ top) × Bases l.base ls

-- the instruction after each of them has a position too
abbrev pub AreFollowed : List ControlFrame → Type 0
AreFollowed ls = All (λ l. l.at + 1 < 2 ^ 64) ls
