use Rattle.std.proofs.Common.{◌≡◌, ◌<◌, ◌/◌, Some, length, ap, arith, sym, ◌∙◌, List, slice_get}
use Rattle.std.proofs.lemmas.Option.{slice_get-get_or}
use Rattle.wm_memory.specs.declared.TheConstants.{REGION}
use Rattle.wm_memory.specs.declared.cells.Cell.{Cell}
use Rattle.wm_memory.specs.Table.{CellTable, IsMissing}
use Rattle.wm_memory.proofs.Chunks.{IsRegionOf, filled_table, fits_in, inserts}
use Rattle.wm_memory.proofs.cells.Cells.insert.Goals as goal

abbrev table_of : goal.After-self-1 → CellTable
table_of c = record { initial = c.self.inside.initial; regions = c.self.inside.regions.items }

region_is : (c : goal.After-self-1) → IsRegionOf (table_of c) c.args.address c.index_mut.result.now
region_is c =
    let items = c.self.inside.regions.items in
    let there = rw (← c.self.view_is) at c.requires.there in
    let lt : c.args.address / REGION < length items = omega (arith, there, c.self.invariant.size) in
    slice_get-get_or items (c.args.address / REGION) _ lt ∙ ap (λ (r : List (List Cell)). Some r) (sym c.index_mut.ensures.value)

lacks : (c : goal.After-self-1) → IsMissing (table_of c) c.args.address c.in-Some.field-0
lacks c = rw (← c.self.view_is, c.in-Some.is) at c.requires.lacks

pub invariant_of-self : goal.invariant_of-self
invariant_of-self c =
    rw c.fill.ensures (filled_table (table_of c) c.args.address c.index_mut.result.now c.in-Some.field-0 c.self.invariant (region_is c) (lacks c))

pub returns-in-Some : goal.returns-in-Some
returns-in-Some c =
    rw (← c.self.view_is, c.fill.ensures) (inserts (table_of c) c.args.address c.index_mut.result.now c.in-Some.field-0 c.self.invariant (region_is c) (lacks c))

pub fill-requires : goal.fill-requires
fill-requires c =
    let items = c.self.inside.regions.items in
    let t : CellTable = record { initial = c.self.inside.initial; regions = items } in
    let there = rw (← c.self.view_is) at c.requires.there in
    let lt : c.args.address / REGION < length items = omega (arith, there, c.self.invariant.size) in
    let at : slice_get items (c.args.address / REGION) ≡ Some c.index_mut.result.now = slice_get-get_or items (c.args.address / REGION) _ lt ∙ ap (λ (r : List (List Cell)). Some r) (sym c.index_mut.ensures.value) in
    let missing : IsMissing t c.args.address c.in-Some.field-0 = rw (← c.self.view_is, c.in-Some.is) at c.requires.lacks in
    fits_in t c.args.address c.index_mut.result.now c.in-Some.field-0 c.self.invariant at missing
