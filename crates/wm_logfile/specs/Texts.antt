-- How a fault of a document prints.
use Rattle.std.specs.Prelude.{ℕ, List, ◌++◌, codes}
use Rattle.wm_logfile.specs.PathText.{path_text}
use Rattle.wm_logfile.specs.declared.fault.DocFault.{DocFault}
use Rattle.wm_logfile.specs.declared.fault.DocFault.TheVariants.{NotJson, BadShape, BadVersion, NumberRange, TooLarge, OutOfMemory, Misplaced}

abbrev pub doc_fault_text : DocFault → List ℕ
doc_fault_text NotJson = codes "NotJson"
doc_fault_text (BadShape path) = codes "BadShape at " ++ path_text path
doc_fault_text BadVersion = codes "BadVersion"
doc_fault_text (NumberRange path) = codes "NumberRange at " ++ path_text path
doc_fault_text TooLarge = codes "TooLarge"
doc_fault_text OutOfMemory = codes "OutOfMemory"
doc_fault_text Misplaced = codes "Misplaced"
