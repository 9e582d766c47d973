-- The cases of V1 and V5 by their numbers.
use Rattle.std.specs.Prelude.{ℕ}
use Rattle.wm_rules.specs.declared.cases.OvertakingCase.{OvertakingCase}
use Rattle.wm_rules.specs.declared.cases.OvertakingCase.TheVariants.{Synchronized, WrittenOver, ReadPast}
use Rattle.wm_rules.specs.declared.cases.ValueCase.{ValueCase}
use Rattle.wm_rules.specs.declared.cases.ValueCase.TheVariants.{OwnWrite, NotWritten, OtherValue}

abbrev pub value_number : ValueCase → ℕ
value_number OwnWrite = 1
value_number NotWritten = 2
value_number OtherValue = 3

abbrev pub overtaking_number : OvertakingCase → ℕ
overtaking_number Synchronized = 1
overtaking_number WrittenOver = 2
overtaking_number ReadPast = 3
