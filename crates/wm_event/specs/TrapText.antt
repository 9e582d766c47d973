-- How a trap prints.
use Rattle.std.specs.Prelude.{ℕ, List, codes}
use Rattle.wm_event.specs.declared.log.TrapKind.{TrapKind}
use Rattle.wm_event.specs.declared.log.TrapKind.TheVariants.{Unreachable, DivideByZero, Overflow, OutOfBounds, Unaligned, Exhausted}

abbrev pub trap_text : TrapKind → List ℕ
trap_text Unreachable = codes "unreachable"
trap_text DivideByZero = codes "divide-by-zero"
trap_text Overflow = codes "overflow"
trap_text OutOfBounds = codes "out-of-bounds"
trap_text Unaligned = codes "unaligned"
trap_text Exhausted = codes "exhausted"
