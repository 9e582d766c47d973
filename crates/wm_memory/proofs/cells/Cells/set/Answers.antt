use Rattle.std.proofs.Common.{◌≡◌, ◌<◌, ◌/◌, Some, length, ap, arith, sym, ◌∙◌, List, slice_get}
use Rattle.std.proofs.lemmas.Option.{slice_get-get_or}
use Rattle.wm_memory.specs.declared.TheConstants.{REGION}
use Rattle.wm_memory.specs.declared.cells.Cell.{Cell}
use Rattle.wm_memory.specs.Table.{CellTable}
use Rattle.wm_memory.proofs.Replaced.{sets_cell, sets_no_cell}
use Rattle.wm_memory.proofs.cells.Cells.set.Goals as goal

pub returns-then-number-len : goal.returns-then-number-len
returns-then-number-len c =
    let items = c.self.inside.regions.items in
    let t : CellTable = record { initial = c.self.inside.initial; regions = items } in
    let lt : c.args.address / REGION < length items = omega (arith, c.if-number-len.true, c.len.ensures) in
    let at : slice_get items (c.args.address / REGION) ≡ Some c.index_mut.result.now = slice_get-get_or items (c.args.address / REGION) _ lt ∙ ap (λ (r : List (List Cell)). Some r) (sym c.index_mut.ensures.value) in
    rw (← c.self.view_is) (sets_cell t c.args.address c.args.cell c.index_mut.result.now c.set.new.self at c.set.ensures)

pub returns-else-number-len : goal.returns-else-number-len
returns-else-number-len c =
    let t : CellTable = record { initial = c.self.inside.initial; regions = c.self.inside.regions.items } in
    rw (← c.self.view_is) (sets_no_cell t c.args.address c.args.cell (omega (arith, c.if-number-len.false, c.len.ensures)))
