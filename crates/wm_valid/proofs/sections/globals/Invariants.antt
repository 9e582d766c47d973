use Rattle.std.proofs.Common.{ℕ, ◌<◌, get_or}
use Rattle.wm_ast.specs.declared.module.Global.{Global}
use Rattle.wm_valid.specs.Valid.{GoodGlobal}
use Rattle.wm_valid.proofs.sections.globals.Given as goal

abbrev pub invariant-loop-global : goal.invariant-loop-global
invariant-loop-global l = (k : ℕ) (d : Global) → k < l.global-index → GoodGlobal (get_or l.global-items k d)
