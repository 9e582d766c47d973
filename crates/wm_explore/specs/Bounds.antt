-- What a bound leaves open.
use Rattle.std.specs.Prelude.{ℕ, List, Option, None, Some, ⊤}
use Rattle.wm_event.specs.declared.log.ThreadLog.{ThreadLog}
use Rattle.wm_explore.specs.declared.bound.Bound.{Bound}
use Rattle.wm_explore.specs.declared.bound.Bound.TheVariants.{Graphs, Nodes, Steps, Events}
use Rattle.wm_explore.specs.Executions.{IsWithin}

-- the bound excuses that an execution with these threads isn't among what was found
abbrev pub Excuses : ℕ → Bound → List ThreadLog → Type 0
Excuses events Graphs log = ⊤
Excuses events Nodes log = ⊤
Excuses events (Steps thread) log = IsWithin events log → ⊥
Excuses events (Events thread) log = IsWithin events log → ⊥

abbrev pub IsExcused : ℕ → Option Bound → List ThreadLog → Type 0
IsExcused events None log = ⊥
IsExcused events (Some bound) log = Excuses events bound log
