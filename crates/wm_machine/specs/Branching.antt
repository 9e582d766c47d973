-- The effect of a branch instruction.
use Rattle.std.specs.Prelude.{ℕ, ◌≡◌, List, Bool, true, false, drop}
use Rattle.wm_ast.specs.declared.instr.Instr.{Instr}
use Rattle.wm_ast.specs.declared.instr.Instr.TheVariants as instr
use Rattle.wm_ast.specs.declared.module.Module.{Module}
use Rattle.wm_machine.specs.declared.branching.Branching.{Branching}
use Rattle.wm_machine.specs.declared.branching.Branching.TheVariants as branching
use Rattle.wm_machine.specs.declared.value.TypedValue.{TypedValue}
use Rattle.wm_machine.specs.Step.{act, continue_with}
use Rattle.wm_machine.specs.Term.{Leaves, Reduced, Stuck, Vars}

-- the branch instructions
abbrev pub is_branch : Instr → Bool
is_branch (instr.Br l) = true
is_branch (instr.BrIf l) = true
is_branch (instr.BrTable ls l) = true
is_branch _ = false

-- how many operands it pops
abbrev pub popped_by : Branching → ℕ
popped_by branching.Stuck = 0
popped_by branching.NotTaken = 1
popped_by (branching.To label popped) = popped

-- its effect on the innermost place
abbrev pub branched : Vars → List TypedValue → List Instr → Branching → Reduced
branched vars operands rest branching.Stuck = Stuck
branched vars operands rest branching.NotTaken = continue_with vars (drop 1 operands) rest
branched vars operands rest (branching.To label popped) = Leaves label (drop popped operands)

-- it has the effect of the instruction
abbrev pub BranchesAs : Instr → List TypedValue → Branching → Type 0
BranchesAs i operands b = (m : Module) (depth read func : ℕ) (vars : Vars) (rest : List Instr)
    → act m depth read func vars operands i rest ≡ branched vars operands rest b
