use Rattle.std.proofs.Common.{ℕ, ◌<◌, All, get_or}
use Rattle.wm_ast.specs.declared.module.Func.{Func}
use Rattle.wm_explore.specs.Uniform.{KeepsWidth}
use Rattle.wm_explore.proofs.uniform.funcs_keep_width.Given as goal

abbrev pub invariant-loop-func : goal.invariant-loop-func
invariant-loop-func l = (k : ℕ) (d : Func) → k < l.func-index → All (All (KeepsWidth l.width)) (get_or l.funcs k d).blocks
