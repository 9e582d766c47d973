use Rattle.std.proofs.Common.{ℕ, ◌<◌, get_or}
use Rattle.wm_ast.specs.declared.module.Func.{Func}
use Rattle.wm_valid.specs.Typing.{TypedFunc}
use Rattle.wm_valid.proofs.valid.funcs.Given as goal

abbrev pub invariant-loop-number : goal.invariant-loop-number
invariant-loop-number l = (i : ℕ) (d : Func) → i < l.number → TypedFunc l.module (get_or l.one-items i d)
