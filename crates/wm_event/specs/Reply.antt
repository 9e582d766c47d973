-- The contents of a reply.
use Rattle.std.specs.Prelude.{ℕ, Bool, true, false, Option, Some, None, ⊤}
use Rattle.wm_access.specs.AccessWidth.{Fits}
use Rattle.wm_access.specs.declared.AccessWidth.{AccessWidth}

-- a value read exactly if one is wanted, and it fits the width
abbrev pub ReadAnswers : Bool → AccessWidth → Option ℕ → Type 0
ReadAnswers true width None = ⊥
ReadAnswers true width (Some v) = Fits width v
ReadAnswers false width None = ⊤
ReadAnswers false width (Some v) = ⊥
