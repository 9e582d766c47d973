-- How each fault is printed.
use Rattle.std.specs.Prelude.{ℕ, List, codes}
use Rattle.wm_recorder.specs.declared.access_fault.AccessFault.{AccessFault}
use Rattle.wm_recorder.specs.declared.access_fault.AccessFault.TheVariants.{NoThread, OutOfBounds, OutOfMemory, Full}

abbrev pub access_fault_text : AccessFault → List ℕ
access_fault_text NoThread = codes "NoThread"
access_fault_text OutOfBounds = codes "OutOfBounds"
access_fault_text OutOfMemory = codes "OutOfMemory"
access_fault_text Full = codes "Full"
