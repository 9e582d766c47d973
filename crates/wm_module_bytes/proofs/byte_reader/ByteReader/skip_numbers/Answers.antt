use Rattle.std.proofs.Common.{◌≡◌, ◌+◌, ◌-◌, ◌<◌, refl, arith}
use Rattle.wm_module_bytes.proofs.NumbersSteps.{never_stops, numbers_all, numbers_more, numbers_none}
use Rattle.wm_module_bytes.proofs.byte_reader.ByteReader.skip_numbers.Goals as goal

pub loop-number-init : goal.loop-number-init
loop-number-init c text next numbers = numbers_none c.args.self.now text c.args.count (c.args.count - 0) (omega arith) next numbers

pub returns-in_err-skip_number : goal.returns-in_err-skip_number
returns-in_err-skip_number c text next numbers =
    let l = c.loop-number in
    let some : 0 < c.args.count - l._number = omega arith in
    absurd (never_stops c.args.self.now l.self c.skip_number.new.self text (c.args.count - l._number) (l.invariant text next numbers) some c.skip_number.result c.skip_number.ensures c.in_err-skip_number.was)

pub loop-number-preserved : goal.loop-number-preserved
loop-number-preserved c text next numbers =
    let l = c.loop-number in
    let some : 0 < c.args.count - l._number = omega arith in
    let count : c.args.count - l._number ≡ 1 + (c.args.count - (l._number + 1)) = omega arith in
    numbers_more c.args.self.now l.self c.skip_number.new.self text (c.args.count - l._number) (l.invariant text next numbers) some c.skip_number.result c.skip_number.ensures (c.args.count - (l._number + 1)) count

pub returns : goal.returns
returns c text next numbers =
    let l = c.loop-number in
    record { gives = refl; moves = numbers_all c.args.self.now l.self text (c.args.count - l._number) (l.invariant text next numbers) (omega arith) }
