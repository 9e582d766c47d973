use Rattle.std.proofs.lemmas.Bool.{lt-ltb, le-ltb}
use Rattle.wm_decode.specs.Opcodes.{opcode_at}
use Rattle.wm_decode.proofs.opcode.opcode_of.Goals as goal

pub returns-then-code-lt40 : goal.returns-then-code-lt40
unfolding opcode_at
returns-then-code-lt40 c = rw (lt-ltb _ _ c.if-code-lt40.true) c.control.ensures

pub returns-then-code-lt65 : goal.returns-then-code-lt65
unfolding opcode_at
returns-then-code-lt65 c = rw (le-ltb _ _ c.if-code-lt40.false, lt-ltb _ _ c.if-code-lt65.true) c.memory.ensures

pub returns-then-code-lt69 : goal.returns-then-code-lt69
unfolding opcode_at
returns-then-code-lt69 c =
    rw (le-ltb _ _ c.if-code-lt40.false, le-ltb _ _ c.if-code-lt65.false, lt-ltb _ _ c.if-code-lt69.true) c.other.ensures

pub returns-then-code-lt103 : goal.returns-then-code-lt103
unfolding opcode_at
returns-then-code-lt103 c =
    rw (
      le-ltb _ _ c.if-code-lt40.false,
      le-ltb _ _ c.if-code-lt65.false,
      le-ltb _ _ c.if-code-lt69.false,
      lt-ltb _ _ c.if-code-lt103.true,
    ) c.comparison.ensures

pub returns-then-code-lt121 : goal.returns-then-code-lt121
unfolding opcode_at
returns-then-code-lt121 c =
    rw (
      le-ltb _ _ c.if-code-lt40.false,
      le-ltb _ _ c.if-code-lt65.false,
      le-ltb _ _ c.if-code-lt69.false,
      le-ltb _ _ c.if-code-lt103.false,
      lt-ltb _ _ c.if-code-lt121.true,
    ) c.arithmetic_32.ensures

pub returns-then-code-lt139 : goal.returns-then-code-lt139
unfolding opcode_at
returns-then-code-lt139 c =
    rw (
      le-ltb _ _ c.if-code-lt40.false,
      le-ltb _ _ c.if-code-lt65.false,
      le-ltb _ _ c.if-code-lt69.false,
      le-ltb _ _ c.if-code-lt103.false,
      le-ltb _ _ c.if-code-lt121.false,
      lt-ltb _ _ c.if-code-lt139.true,
    ) c.arithmetic_64.ensures

pub returns-else-code-lt139 : goal.returns-else-code-lt139
unfolding opcode_at
returns-else-code-lt139 c =
    rw (
      le-ltb _ _ c.if-code-lt40.false,
      le-ltb _ _ c.if-code-lt65.false,
      le-ltb _ _ c.if-code-lt69.false,
      le-ltb _ _ c.if-code-lt103.false,
      le-ltb _ _ c.if-code-lt121.false,
      le-ltb _ _ c.if-code-lt139.false,
    ) c.other-else-code-lt139.ensures
