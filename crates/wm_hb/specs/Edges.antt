-- The first edge that the order doesn't agree with.
use Rattle.std.specs.Prelude.{[], ◌∷◌}
use Rattle.wm_event.specs.declared.rule.RuleFault.{RuleFault}
use Rattle.wm_event.specs.Execution.{Execution}
use Rattle.wm_event.specs.Faults.{Breaks, rank}
use Rattle.wm_event.specs.First.{IsFirst, Under}

-- it is the first of all faults of the second rule
abbrev pub IsFirstBroken : Execution → RuleFault → Type 0
IsFirstBroken x f = IsFirst (rank x) (Under (rank x) (Breaks x) (2 ∷ [])) f
