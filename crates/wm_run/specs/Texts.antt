-- How faults print.
use Rattle.std.specs.Prelude.{ℕ, List, ◌++◌, codes}
use Rattle.std.specs.Fmt.{decimal}
use Rattle.wm_machine.specs.Texts.{start_fault_text}
use Rattle.wm_run.specs.declared.fault.PlanFault.{PlanFault}
use Rattle.wm_run.specs.declared.fault.PlanFault.TheVariants.{Threads, Steps, Turns, Turn}
use Rattle.wm_run.specs.declared.fault.RunFault.{RunFault}
use Rattle.wm_run.specs.declared.fault.RunFault.TheVariants.{Start, Split, Plan, OutOfMemory, Ends, Foreign}

abbrev pub plan_fault_text : PlanFault → List ℕ
plan_fault_text Threads = codes "Threads"
plan_fault_text Steps = codes "Steps"
plan_fault_text Turns = codes "Turns"
plan_fault_text (Turn t) = codes "Turn " ++ decimal t

abbrev pub run_fault_text : RunFault → List ℕ
run_fault_text (Start t fault) = codes "start " ++ (start_fault_text fault ++ (codes " thread " ++ decimal t))
run_fault_text (Split t) = codes "split thread " ++ decimal t
run_fault_text (Plan fault) = codes "plan " ++ plan_fault_text fault
run_fault_text OutOfMemory = codes "out of memory"
run_fault_text (Ends t) = codes "ends thread " ++ decimal t
run_fault_text Foreign = codes "foreign"
