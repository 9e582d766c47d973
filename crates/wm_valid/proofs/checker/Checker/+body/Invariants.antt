use Rattle.std.proofs.Common.{◌≡◌, ◌+◌, ◌-◌, ◌*◌, length, drop, take}
use Rattle.wm_valid.specs.Implements.{Counted, Reaches}
use Rattle.wm_valid.proofs.BodyLaws.{SoFar}
use Rattle.wm_valid.proofs.checker.Checker.+body.Given as goal

abbrev pub decreases-block : goal.decreases-block
decreases-block l = 4 * (length l.self.now.blocks - l.number) + 3

abbrev pub decreases-instr : goal.decreases-instr
decreases-instr l = 4 * (length l.self.now.blocks - l.number) + 2

abbrev pub decreases-else_part : goal.decreases-else_part
decreases-else_part l = 4 * (length l.self.now.blocks - l.number) + 1

abbrev pub decreases-nested : goal.decreases-nested
decreases-nested l = 4 * (length l.self.now.blocks - l.number)

abbrev pub invariant-block-loop-instr : goal.invariant-block-loop-instr
invariant-block-loop-instr l = record {
  so : SoFar l.self l.number l.labels l.instr-items (drop l.instr-index l.instr-items) l.stack;
  same : l.labels ≡ l.fn.labels;
  counted : Counted l.self.blocks (take l.instr-index l.instr-items) l.fn.position l.position;
  reaches : Reaches l.self l.number l.fn.labels (take l.instr-index l.instr-items) l.stack;
}
