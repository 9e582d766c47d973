use Rattle.std.proofs.Common.{ℕ, ◌<◌, List, ap, arith, length, refl, subst, sym}
use Rattle.wm_replay.proofs.LogPositions.{one_more}
use Rattle.wm_sites.proofs.OpcodeSteps.{OpcodeAhead, opcode_last, opcode_more, opcode_none}
use Rattle.wm_sites.proofs.code_map.opcode_offsets.Goals as goal

pub loop-opcode-init : goal.loop-opcode-init
loop-opcode-init c =
    let none = c.new-offsets.ensures.items in
    record {
      count = ap (λ (xs : List ℕ). length xs) none;
      each = λ n offset o.
          subst (OpcodeAhead o c.skip_locals.new.reader 0) (sym none)
          (opcode_none o (record { bytes = c.args.bytes; at = c.args.body }) c.skip_locals.new.reader refl refl c.skip_locals.result c.skip_locals.ensures);
    }

pub loop-opcode-preserved : goal.loop-opcode-preserved
loop-opcode-preserved c =
    let l = c.loop-opcode in
    record {
      count = one_more l._opcode l.offsets.items c.push.new.self.items l.reader.at l.invariant.count c.in_ok-push.ensures.items;
      each = λ n offset o.
          opcode_more o l.reader l._opcode l.offsets.items (l.invariant.each n offset o) c.skip_instruction.new.reader c.skip_instruction.result c.skip_instruction.ensures c.push.new.self.items l.invariant.count
          c.in_ok-push.ensures.items;
    }

pub returns-in_default-skip_instruction : goal.returns-in_default-skip_instruction
returns-in_default-skip_instruction c n offset o below =
    let l = c.loop-opcode in
    opcode_last o l.reader l._opcode l.offsets.items (l.invariant.each n offset o) c.skip_instruction.new.reader c.skip_instruction.result c.skip_instruction.ensures c.push.new.self.items l.invariant.count
    c.in_ok-push.ensures.items c.in_default-skip_instruction.is

pub returns : goal.returns
returns c n offset o below =
    let l = c.loop-opcode in
    let passed : n < l._opcode = omega arith in (l.invariant.each n offset o).is_noted passed
