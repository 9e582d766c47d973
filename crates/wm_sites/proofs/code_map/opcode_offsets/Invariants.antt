use Rattle.std.proofs.Common.{◌≡◌, ℕ, length}
use Rattle.wm_sites.specs.Bodies.{OpcodeFollows}
use Rattle.wm_sites.proofs.OpcodeSteps.{OpcodeAhead}
use Rattle.wm_sites.proofs.code_map.opcode_offsets.Given as goal

-- each opcode is ahead or was noted
abbrev pub invariant-loop-opcode : goal.invariant-loop-opcode
invariant-loop-opcode l = record {
  count : length l.offsets.items ≡ l._opcode;
  each : (n offset : ℕ) (o : OpcodeFollows l.bytes l.body n offset) → OpcodeAhead o l.reader l._opcode l.offsets.items;
}
