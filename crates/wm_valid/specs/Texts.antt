-- How faults print.
use Rattle.std.specs.Prelude.{ℕ, List, ◌++◌, codes}
use Rattle.std.specs.Fmt.{decimal}
use Rattle.wm_valid.specs.declared.fault.FaultKind.{FaultKind}
use Rattle.wm_valid.specs.declared.fault.FaultKind.TheVariants as kind
use Rattle.wm_valid.specs.declared.fault.Location.{Location}
use Rattle.wm_valid.specs.declared.fault.Location.TheVariants.{Module, Instr}
use Rattle.wm_valid.specs.declared.fault.ValidFault.{ValidFault}
use Rattle.wm_valid.specs.declared.fault.ValidFault.TheVariants.{At, OutOfMemory}

abbrev pub kind_text : FaultKind → List ℕ
kind_text kind.BadType = codes "BadType"
kind_text kind.Index = codes "Index"
kind_text kind.Label = codes "Label"
kind_text kind.Alignment = codes "Alignment"
kind_text kind.DataOutOfRange = codes "DataOutOfRange"
kind_text kind.MemoryAbsent = codes "MemoryAbsent"
kind_text kind.MemoryLimits = codes "MemoryLimits"

abbrev pub place_text : Location → List ℕ
place_text Module = codes "in module"
place_text (Instr func instr) = codes "in function " ++ (decimal func ++ (codes " instruction " ++ decimal instr))

abbrev pub fault_text : ValidFault → List ℕ
fault_text (At kind place) = kind_text kind ++ codes " " ++ place_text place
fault_text OutOfMemory = codes "OutOfMemory"
