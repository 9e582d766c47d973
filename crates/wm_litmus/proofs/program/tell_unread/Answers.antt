use Rattle.std.proofs.Common.{ℕ, List, [], ◌∷◌, ◌++◌, codes}
use Rattle.wm_litmus.proofs.Telling.{front_join, front_more, was_err, was_ok}
use Rattle.wm_litmus.proofs.program.tell_unread.Goals as goal

abbrev says : List ℕ
says = codes "cannot read "

abbrev line : List ℕ → List ℕ
line name = name ++ 10 ∷ []

pub returns-then-is_err : goal.returns-then-is_err
returns-then-is_err g c =
    let a = g.E.Write.contents c.args.err.now in
    let b = g.E.Write.contents c.write_text.new.out in
    front_more a b says (line c.args.name.now) (was_err c.write_text.result c.is_err.result c.is_err.ensures.value c.if-is_err.true c.write_text.ensures.stopped)

pub returns-then-is_err-2 : goal.returns-then-is_err-2
returns-then-is_err-2 g c =
    let a = g.E.Write.contents c.args.err.now in
    let b = g.E.Write.contents c.write_text.new.out in
    let d = g.E.Write.contents c.write_text-2.new.out in
    front_join a b d says (line c.args.name.now) (was_ok c.write_text.result c.is_err.result c.is_err.ensures.value c.if-is_err.false c.write_text.ensures.written)
    (front_more b d c.args.name.now (10 ∷ []) (was_err c.write_text-2.result c.is_err-2.result c.is_err-2.ensures.value c.if-is_err-2.true c.write_text-2.ensures.stopped))

pub returns : goal.returns
returns g c =
    let a = g.E.Write.contents c.args.err.now in
    let b = g.E.Write.contents c.write_text.new.out in
    let d = g.E.Write.contents c.write_text-2.new.out in
    let e = g.E.Write.contents c.tell.new.err in
    front_join a b e says (line c.args.name.now) (was_ok c.write_text.result c.is_err.result c.is_err.ensures.value c.if-is_err.false c.write_text.ensures.written)
    (front_join b d e c.args.name.now (10 ∷ []) (was_ok c.write_text-2.result c.is_err-2.result c.is_err-2.ensures.value c.if-is_err-2.false c.write_text-2.ensures.written) c.tell.ensures)
