-- The turns that a word spells.
use Rattle.std.specs.Prelude.{ℕ, suc, ◌^◌, ◌==◌, List, [], ◌∷◌, Option, Some, None, if◌then◌else◌, replicate, take, flat_map}
use Rattle.std.specs.Option.{option_map}
use Rattle.wm_run.specs.declared.turn.Turn.{Turn}
use Rattle.wm_run.specs.declared.turn.Turn.TheVariants.{Step, Drain, DrainAt}
use Rattle.wm_command.specs.Each.{each}
use Rattle.wm_command.specs.Limits.{kept_turns}
use Rattle.wm_command.specs.Numbers.{number_below, pieces}

-- a thread or a count: a 32-bit number
abbrev pub small : List ℕ → Option ℕ
small word = number_below (2 ^ 32) word

abbrev pub drain_at : Option ℕ → Option ℕ → Option Turn
drain_at (Some thread) (Some index) = Some (DrainAt thread index)
drain_at _ _ = None

-- a drain, by the pieces between slashes: `N` drains the oldest store of thread N, `N/I` the store with I older ones
abbrev pub drain_of : List (List ℕ) → Option Turn
drain_of (thread ∷ []) = option_map Drain (small thread)
drain_of (thread ∷ index ∷ []) = drain_at (small thread) (small index)
drain_of _ = None

-- a turn: `N` is a step of thread N, and what begins with a `d` is a drain
abbrev pub turn_of : List ℕ → Option Turn
turn_of [] = None
turn_of (first ∷ rest) = if first == 100 then drain_of (pieces 47 rest) else option_map Step (small (first ∷ rest))

-- the turn repeated this number of times, at least once
abbrev pub repeated : Option Turn → Option ℕ → Option (List Turn)
repeated (Some turn) (Some (suc times)) = Some (replicate (suc times) turn)
repeated _ _ = None

-- an item, by the pieces between stars: a turn, or a turn and how often it is taken
abbrev pub item_of : List (List ℕ) → Option (List Turn)
item_of (turn ∷ []) = repeated (turn_of turn) (Some 1)
item_of (turn ∷ times ∷ []) = repeated (turn_of turn) (small times)
item_of _ = None

abbrev pub item_turns : List ℕ → Option (List Turn)
item_turns item = item_of (pieces 42 item)

-- the turns of a word: those of its items between commas, one item's after the other's
unfoldable pub turns_of : List ℕ → Option (List Turn)
turns_of word = option_map (flat_map (λ turns. turns)) (each item_turns (pieces 44 word))

-- of the turns, one more than a script may have is kept, so that the script is refused for them
abbrev pub kept : List Turn → List Turn
kept turns = take kept_turns turns
