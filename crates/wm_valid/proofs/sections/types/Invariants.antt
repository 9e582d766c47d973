use Rattle.std.proofs.Common.{ℕ, ◌<◌, get_or}
use Rattle.wm_ast.specs.declared.module.Func.{Func}
use Rattle.wm_valid.specs.Blame.{HasType}
use Rattle.wm_valid.proofs.sections.types.Given as goal

abbrev pub invariant-loop-func : goal.invariant-loop-func
invariant-loop-func l = (k : ℕ) (d : Func) → k < l.func-index → HasType l.module (get_or l.func-items k d)
