-- What a memory instruction asks for, as in the code.
use Rattle.std.specs.Prelude.{List, drop}
use Rattle.wm_machine.specs.declared.value.TypedValue.{TypedValue}
use Rattle.wm_machine.specs.declared.memory.Request.{Request}
use Rattle.wm_machine.specs.Accesses.{Asked}

abbrev pub asked_by : List TypedValue → Request → Asked
asked_by operands r = record { kind = r.kind; base = r.base; below = drop r.popped operands }
