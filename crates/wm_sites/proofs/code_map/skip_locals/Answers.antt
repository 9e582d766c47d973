use Rattle.std.proofs.Common.{◌≡◌, ◌+◌, ◌-◌, refl, arith}
use Rattle.wm_sites.proofs.LocalsSteps.{count_there, locals_all, locals_more, locals_none, number_there}
use Rattle.wm_sites.proofs.code_map.skip_locals.Goals as goal

pub returns-in_err-count : goal.returns-in_err-count
returns-in_err-count c text next has = absurd (count_there c.args.reader.now c.number.new.self text next has c.number.result c.number.ensures c.in_err-count.was)

pub loop-declaration-init : goal.loop-declaration-init
loop-declaration-init c text next has =
    locals_none c.args.reader.now c.number.new.self text next has c.number.result c.number.ensures c.in_ok-count.count (c.in_ok-count.count - 0) c.in_ok-count.was (omega arith)

pub returns-in_err-skip_number : goal.returns-in_err-skip_number
returns-in_err-skip_number c text next has =
    let l = c.loop-declaration in
    let left = c.in_ok-count.count - l._declaration in
    let some : left ≡ 1 + (c.in_ok-count.count - (l._declaration + 1)) = omega arith in
    absurd (number_there c.args.reader.now l.reader c.skip_number.new.self text left (l.invariant text next has) c.skip_number.result c.skip_number.ensures (c.in_ok-count.count - (l._declaration + 1)) some c.in_err-skip_number.was)

pub loop-declaration-preserved : goal.loop-declaration-preserved
loop-declaration-preserved c text next has =
    let l = c.loop-declaration in
    let left = c.in_ok-count.count - l._declaration in
    let some : left ≡ 1 + (c.in_ok-count.count - (l._declaration + 1)) = omega arith in
    locals_more c.args.reader.now l.reader c.skip_number.new.self text left (l.invariant text next has) c.skip_number.result c.skip_number.ensures (c.in_ok-count.count - (l._declaration + 1)) some c.skip.new.self c.skip.ensures.moves

pub returns : goal.returns
returns c text next has =
    let l = c.loop-declaration in
    record { gives = refl; moves = locals_all c.args.reader.now l.reader text (c.in_ok-count.count - l._declaration) (l.invariant text next has) (omega arith) }
