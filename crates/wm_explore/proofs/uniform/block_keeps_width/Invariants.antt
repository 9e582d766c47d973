use Rattle.std.proofs.Common.{ℕ, ◌<◌, get_or}
use Rattle.wm_ast.specs.declared.instr.Instr.{Instr}
use Rattle.wm_explore.specs.Uniform.{KeepsWidth}
use Rattle.wm_explore.proofs.uniform.block_keeps_width.Given as goal

abbrev pub invariant-loop-instr : goal.invariant-loop-instr
invariant-loop-instr l = (k : ℕ) (d : Instr) → k < l.instr-index → KeepsWidth l.width (get_or l.block k d)
