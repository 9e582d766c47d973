-- How each fault is printed.
use Rattle.std.specs.Prelude.{ℕ, List, codes}
use Rattle.wm_memory.specs.declared.memory.MemFault.{MemFault}
use Rattle.wm_memory.specs.declared.memory.MemFault.TheVariants.{NoThread, OutOfBounds, OutOfMemory}

abbrev pub mem_fault_text : MemFault → List ℕ
mem_fault_text NoThread = codes "NoThread"
mem_fault_text OutOfBounds = codes "OutOfBounds"
mem_fault_text OutOfMemory = codes "OutOfMemory"
