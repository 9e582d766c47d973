use Rattle.std.proofs.Common.{◌≤◌, ℕ, List, length}
use Rattle.wm_module_bytes.specs.Reading.{IsNumber, Next}
use Rattle.wm_module_bytes.proofs.NumberSteps.{Partly}
use Rattle.wm_module_bytes.proofs.byte_reader.ByteReader.skip_number.Given as goal

abbrev pub invariant-loop-count : goal.invariant-loop-count
invariant-loop-count l = (text : List ℕ) → Next l.fn.self text → IsNumber text → length text ≤ 10 → Partly l.fn.self l.self text l._count
