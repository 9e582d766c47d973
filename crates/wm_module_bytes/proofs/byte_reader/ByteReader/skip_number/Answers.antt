use Rattle.std.proofs.Common.{◌∙◌, sym, refl}
use Rattle.wm_module_bytes.proofs.NumberSteps.{last_read, more_read, no_byte}
use Rattle.wm_module_bytes.proofs.byte_reader.ByteReader.skip_number.Goals as goal

pub returns-in_err-byte : goal.returns-in_err-byte
returns-in_err-byte c text next is short = absurd (no_byte (c.loop-count.invariant text next is short) (sym c.byte.ensures.byte ∙ c.in_err-byte.was))

pub returns-then-branch-lt128 : goal.returns-then-branch-lt128
returns-then-branch-lt128 c text next is short =
    let part = c.loop-count.invariant text next is short in
    record {
      gives = refl;
      moves = (last_read c.args.self.now c.loop-count.self c.byte.new.self text c.loop-count._count c.in_ok-byte.field-0 part (sym c.byte.ensures.byte ∙ c.in_ok-byte.was) c.in_ok-byte.ensures.moves c.if-branch-lt128.true).0;
    }

pub loop-count-preserved : goal.loop-count-preserved
loop-count-preserved c text next is short =
    let part = c.loop-count.invariant text next is short in
    (more_read c.args.self.now c.loop-count.self c.byte.new.self text c.loop-count._count c.in_ok-byte.field-0 part (sym c.byte.ensures.byte ∙ c.in_ok-byte.was) c.in_ok-byte.ensures.moves c.if-branch-lt128.false).0
