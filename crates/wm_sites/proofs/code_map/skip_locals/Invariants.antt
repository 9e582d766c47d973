use Rattle.std.proofs.Common.{ℕ, ◌-◌, List}
use Rattle.wm_module_bytes.specs.Reading.{Next}
use Rattle.wm_sites.specs.Bodies.{LocalsText}
use Rattle.wm_sites.proofs.LocalsSteps.{LocalsAhead}
use Rattle.wm_sites.proofs.code_map.skip_locals.Given as goal

abbrev pub invariant-loop-declaration : goal.invariant-loop-declaration
invariant-loop-declaration l = (text : List ℕ) → Next l.fn.reader text → LocalsText text → LocalsAhead l.fn.reader l.reader text (l.count - l._declaration)
