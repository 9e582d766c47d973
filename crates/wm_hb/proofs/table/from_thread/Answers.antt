use Rattle.std.proofs.Common.{◌≡◌, ◌<◌, Some, None, arith, get_or, length, slice_get}
use Rattle.std.proofs.lemmas.Option.{slice_get-get_or}
use Rattle.wm_hb.specs.Table.{IsRow}
use Rattle.wm_hb.specs.declared.table.Reach.TheVariants.{Never}
use Rattle.wm_hb.specs.declared.table.Row.{Row}
use Rattle.wm_hb.proofs.TableLaws.{best_of_thread, sequenced_below}
use Rattle.wm_hb.proofs.table.from_thread.Goals as goal

pub offset_bounds-table-previous : goal.offset_bounds-table-previous
offset_bounds-table-previous c =
    let s = c.in_ok-previous.ensures in
    let below : c.in_ok-previous.previous < length c.args.table.now = sequenced_below c.args.candidate.now c.witness-order.ensures.order c.requires.agrees c.in_ok-previous.previous (length c.args.table.now) s.0 c.args.key s.1 c.requires.stands s.2 in
    omega (arith, below)

pub bounds-table-previous : goal.bounds-table-previous
bounds-table-previous c =
    let s = c.in_ok-previous.ensures in
    sequenced_below c.args.candidate.now c.witness-order.ensures.order c.requires.agrees c.in_ok-previous.previous (length c.args.table.now) s.0 c.args.key s.1 c.requires.stands s.2

pub hop_from-requires-clause-there : goal.hop_from-requires-clause-there
hop_from-requires-clause-there c =
    let s = c.in_ok-previous.ensures in
    sequenced_below c.args.candidate.now c.witness-order.ensures.order c.requires.agrees c.in_ok-previous.previous (length c.args.table.now) s.0 c.args.key s.1 c.requires.stands s.2

pub returns : goal.returns
returns c a is =
    let x = c.args.candidate.now in
    let s = c.in_ok-previous.ensures in
    let below : c.in_ok-previous.previous < length c.args.table.now = sequenced_below x c.witness-order.ensures.order c.requires.agrees c.in_ok-previous.previous (length c.args.table.now) s.0 c.args.key s.1 c.requires.stands s.2 in
    let row : Row = get_or c.args.table.now c.in_ok-previous.previous (record { reach = Never; earlier = None }) in
    let get : slice_get c.args.table.now c.in_ok-previous.previous ≡ Some row = slice_get-get_or c.args.table.now c.in_ok-previous.previous (record { reach = Never; earlier = None }) below in
    let before : IsRow x c.args.table.now a s.0 row = is c.in_ok-previous.previous s.0 row s.1 get in
    best_of_thread x c.args.table.now a s.0 c.args.key row.earlier c.hop_from.result c.shorter.result s.2 s.3 before.earlier
    (c.hop_from.ensures.hop x s.0 c.args.key s.1 s.2) c.hop_from.ensures.kind (c.hop_from.ensures.least x a s.0 is s.1) c.shorter.ensures.one c.shorter.ensures.least
