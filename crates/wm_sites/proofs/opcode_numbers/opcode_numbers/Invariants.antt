use Rattle.std.proofs.Common.{reverse}
use Rattle.wm_sites.specs.Numbering.{AreBelow, HasNumbers, HasPlaces}
use Rattle.wm_sites.proofs.AllNumbered.{AreNotedOrLeft}
use Rattle.wm_sites.proofs.Unnumbered.{IsNumberedOn}
use Rattle.wm_sites.proofs.opcode_numbers.opcode_numbers.Given as goal

-- the table has numbers of opcodes; what is left, from the top of the stack on, has the numbers from the next on; and each opcode has a number or is left
abbrev pub invariant-loop-number : goal.invariant-loop-number
invariant-loop-number l = record {
  noted : HasNumbers l.blocks l.numbers.items;
  left : IsNumberedOn l.blocks l.number (reverse l.open_blocks.items);
  places : HasPlaces l.blocks l.numbers.items;
  below : AreBelow l.number l.numbers.items;
  all : AreNotedOrLeft l.blocks l.number l.numbers.items (reverse l.open_blocks.items);
}
