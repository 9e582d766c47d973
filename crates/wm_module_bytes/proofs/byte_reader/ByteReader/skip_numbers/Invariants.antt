use Rattle.std.proofs.Common.{ℕ, ◌-◌, List}
use Rattle.wm_module_bytes.specs.Reading.{AreNumbers, Next}
use Rattle.wm_module_bytes.proofs.NumbersSteps.{NumbersPartly}
use Rattle.wm_module_bytes.proofs.byte_reader.ByteReader.skip_numbers.Given as goal

abbrev pub invariant-loop-number : goal.invariant-loop-number
invariant-loop-number l = (text : List ℕ) → Next l.fn.self text → AreNumbers l.count text → NumbersPartly l.fn.self l.self text (l.count - l._number)
