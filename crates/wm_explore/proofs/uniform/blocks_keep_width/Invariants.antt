use Rattle.std.proofs.Common.{ℕ, ◌<◌, List, All, get_or}
use Rattle.wm_ast.specs.declared.instr.Instr.{Instr}
use Rattle.wm_explore.specs.Uniform.{KeepsWidth}
use Rattle.wm_explore.proofs.uniform.blocks_keep_width.Given as goal

abbrev pub invariant-loop-block : goal.invariant-loop-block
invariant-loop-block l = (k : ℕ) (d : List Instr) → k < l.block-index → All (KeepsWidth l.width) (get_or l.blocks k d)
