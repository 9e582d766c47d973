-- How faults print.
use Rattle.std.specs.Prelude.{ℕ, ◌/◌, ◌%◌, List, ◌++◌, codes, false}
use Rattle.std.specs.Fmt.{decimal, digits}
use Rattle.wm_decode.specs.declared.fault.Feature.{Feature}
use Rattle.wm_decode.specs.declared.fault.Feature.TheVariants as feature
use Rattle.wm_decode.specs.declared.fault.Limit.{Limit}
use Rattle.wm_decode.specs.declared.fault.Limit.TheVariants as limit
use Rattle.wm_decode.specs.declared.fault.FaultKind.{FaultKind}
use Rattle.wm_decode.specs.declared.fault.FaultKind.TheVariants as kind
use Rattle.wm_decode.specs.declared.fault.DecodeFault.{DecodeFault}
use Rattle.wm_decode.specs.declared.fault.DecodeFault.TheVariants.{At, OutOfMemory}

abbrev pub feature_text : Feature → List ℕ
feature_text feature.Wait = codes "Wait"
feature_text feature.Notify = codes "Notify"
feature_text feature.Fence = codes "Fence"
feature_text feature.Growth = codes "Growth"
feature_text feature.NarrowCmpxchg = codes "NarrowCmpxchg"
feature_text feature.Floats = codes "Floats"
feature_text feature.Table = codes "Table"
feature_text feature.Start = codes "Start"
feature_text feature.Import = codes "Import"
feature_text feature.UnsharedMemory = codes "UnsharedMemory"
feature_text feature.SeveralMemories = codes "SeveralMemories"
feature_text feature.MultiValue = codes "MultiValue"
feature_text feature.SignExtension = codes "SignExtension"
feature_text feature.PrefixFC = codes "PrefixFC"
feature_text feature.PassiveData = codes "PassiveData"
feature_text feature.DataMemoryIndex = codes "DataMemoryIndex"
feature_text feature.Simd = codes "Simd"
feature_text feature.References = codes "References"
feature_text feature.Reserved = codes "Reserved"
feature_text feature.ConstExpression = codes "ConstExpression"

abbrev pub limit_text : Limit → List ℕ
limit_text limit.ModuleBytes = codes "ModuleBytes"
limit_text limit.Pages = codes "Pages"
limit_text limit.Functions = codes "Functions"
limit_text limit.Locals = codes "Locals"
limit_text limit.Nesting = codes "Nesting"

-- a byte as two hexadecimal digits
abbrev pub hex_text : ℕ → List ℕ
hex_text byte = digits 16 false (byte / 16) ++ digits 16 false (byte % 16)

abbrev pub kind_text : FaultKind → List ℕ
kind_text kind.Magic = codes "Magic"
kind_text kind.Version = codes "Version"
kind_text kind.Truncated = codes "Truncated"
kind_text kind.BadNumber = codes "BadNumber"
kind_text kind.BadName = codes "BadName"
kind_text kind.SectionOrder = codes "SectionOrder"
kind_text kind.SectionSize = codes "SectionSize"
kind_text kind.CountMismatch = codes "CountMismatch"
kind_text (kind.UnknownOpcode byte) = codes "UnknownOpcode " ++ hex_text byte
kind_text (kind.Unsupported feature) = codes "Unsupported " ++ feature_text feature
kind_text (kind.Limit limit) = codes "Limit " ++ limit_text limit
kind_text kind.DuplicateExport = codes "DuplicateExport"

abbrev pub fault_text : DecodeFault → List ℕ
fault_text (At kind offset) = kind_text kind ++ codes " at " ++ decimal offset
fault_text OutOfMemory = codes "OutOfMemory"
