use Rattle.std.proofs.Common.{◌∙◌, Some, sym, refl, ap, arith}
use Rattle.wm_module_bytes.specs.Reading.{value_of}
use Rattle.wm_module_bytes.proofs.NumberSteps.{last_read, more_read, no_byte, partly_none}
use Rattle.wm_module_bytes.proofs.Values.{digit_added, scale_exact, scale_more, small_more, value_last, value_more, value_none}
use Rattle.wm_module_bytes.proofs.byte_reader.ByteReader.number.Goals as goal

pub loop-count-init : goal.loop-count-init
loop-count-init c = record {
  scale = refl;
  small = omega arith;
  read = λ text next is short. let none = partly_none c.args.self.now text next is in (none.0, value_none text none.0.todo none.1);
}

pub returns-in_err-byte : goal.returns-in_err-byte
returns-in_err-byte c text next is short = absurd (no_byte (c.loop-count.invariant.read text next is short).0 (sym c.byte.ensures.byte ∙ c.in_err-byte.was))

pub returns-then-byte-lt128 : goal.returns-then-byte-lt128
returns-then-byte-lt128 c text next is short =
    let b = c.in_ok-byte.byte in
    let l = c.loop-count in
    let part = l.invariant.read text next is short in
    let read = last_read c.args.self.now l.self c.byte.new.self text l._count b part.0 (sym c.byte.ensures.byte ∙ c.in_ok-byte.was) c.in_ok-byte.ensures.moves c.if-byte-lt128.true in
    let added = digit_added l.number l.scale l._count b c.from.result c.saturating_mul.result c.saturating_add-number.result l.invariant.scale c.loop-count-test.true l.invariant.small c.from.ensures c.saturating_mul.ensures
    c.saturating_add-number.ensures in
    record {
      gives = ap Some (sym (value_last l.number l.scale b c.saturating_add-number.result (value_of text) part.0.todo part.1 read.1 added));
      moves = read.0;
    }

pub loop-count-preserved : goal.loop-count-preserved
loop-count-preserved c =
    let b = c.in_ok-byte.byte in
    let l = c.loop-count in
    let added = digit_added l.number l.scale l._count b c.from.result c.saturating_mul.result c.saturating_add-number.result l.invariant.scale c.loop-count-test.true l.invariant.small c.from.ensures c.saturating_mul.ensures
    c.saturating_add-number.ensures in
    let scaled = scale_exact l.scale l._count c.saturating_mul-scale.result l.invariant.scale c.loop-count-test.true c.saturating_mul-scale.ensures in
    record {
      scale = scale_more l.scale l._count c.saturating_mul-scale.result l.invariant.scale scaled;
      small = small_more l.number l.scale c.saturating_mul-scale.result b c.saturating_add-number.result l.invariant.small scaled added;
      read = λ text next is short.
          let part = l.invariant.read text next is short in
          let read = more_read c.args.self.now l.self c.byte.new.self text l._count b part.0 (sym c.byte.ensures.byte ∙ c.in_ok-byte.was) c.in_ok-byte.ensures.moves c.if-byte-lt128.false in
          (read.0, value_more l.number l.scale c.saturating_mul-scale.result b c.saturating_add-number.result (value_of text) part.0.todo read.0.todo part.1 read.1 scaled added);
    }
