use Rattle.wm_machine.proofs.branching.branching_of.Goals as goal

pub returns-in-BrIf-clause-means : goal.returns-in-BrIf-clause-means
returns-in-BrIf-clause-means c = rw c.in-BrIf.is c.branch_if.ensures.means

pub returns-in-BrTable-clause-means : goal.returns-in-BrTable-clause-means
returns-in-BrTable-clause-means c = rw c.in-BrTable.is c.branch_by_table.ensures.means
