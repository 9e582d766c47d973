use Rattle.std.proofs.Common.{◌≡◌, ◌+◌, ◌*◌, ◌^◌, ◌<◌, ◌≤◌, ℕ, List, length}
use Rattle.wm_module_bytes.specs.Reading.{IsNumber, Next, value_of}
use Rattle.wm_module_bytes.proofs.NumberSteps.{Partly}
use Rattle.wm_module_bytes.proofs.byte_reader.ByteReader.number.Given as goal

abbrev pub invariant-loop-count : goal.invariant-loop-count
invariant-loop-count l = record {
  scale : l.scale ≡ 128 ^ l._count;
  small : l.number < l.scale;
  read : (text : List ℕ) → Next l.fn.self text → IsNumber text → length text ≤ 5
      → (part : Partly l.fn.self l.self text l._count) × (value_of text ≡ l.number + l.scale * value_of part.todo);
}
