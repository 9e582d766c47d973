-- The blocks that a call is in, the innermost first. Operands are listed from the top.
use Rattle.std.specs.Prelude.{ℕ, zero, suc, List, [], ◌∷◌, ◌++◌, take, drop, Bool, true, false, Option, Some, None}
use Rattle.wm_machine.specs.declared.value.TypedValue.{TypedValue}

pub record Position : Type 0 where
  pub operands : List TypedValue
  pub block : ℕ
  pub at : ℕ

pub record Nest : Type 0 where
  pub operands : List TypedValue
  pub block : ℕ
  pub at : ℕ
  pub outer : List Position

-- at the start of a block, which is the only one
abbrev pub at_begin : ℕ → Nest
at_begin block = record { operands = []; block = block; at = 0; outer = [] }

-- at the start of a block within the innermost one, after the topmost operands were popped
abbrev pub entered : ℕ → ℕ → Nest → Nest
entered popped block n =
    record { operands = []; block = block; at = 0; outer = record { operands = drop popped n.operands; block = n.block; at = n.at } ∷ n.outer }

-- the enclosing block, after operands of the inner one were added to its own
abbrev pub joined : List TypedValue → List Position → Option Nest
joined operands [] = None
joined operands (p ∷ ps) =
    Some record { operands = operands ++ p.operands; block = p.block; at = p.at; outer = ps }

abbrev pub closed : Nest → Option Nest
closed n = joined n.operands n.outer

abbrev pub carried_top : Bool → List TypedValue → List TypedValue
carried_top true operands = take 1 operands
carried_top false operands = []

abbrev pub given_up : Bool → Nest → Option Nest
given_up carry n = joined (carried_top carry n.operands) n.outer

-- the block this number of labels further out, which takes over what is carried
abbrev pub after_branch : ℕ → List TypedValue → List Position → Option Nest
after_branch label values [] = None
after_branch zero values (p ∷ ps) =
    Some record { operands = values ++ p.operands; block = p.block; at = p.at; outer = ps }
after_branch (suc label) values (p ∷ ps) = after_branch label values ps

abbrev pub unwound : ℕ → Bool → Nest → Option Nest
unwound label carry n = after_branch label (carried_top carry n.operands) n.outer
