use Rattle.std.proofs.Common.{◌≡◌, ◌<◌, ◌/◌, None, Some, [], length, refl, ap, arith, sym, ◌∙◌, subst, List, Option, IsSome, slice_get}
use Rattle.std.proofs.lemmas.Option.{slice_get_read}
use Rattle.std.specs.Prelude.{option_copied}
use Rattle.wm_memory.specs.declared.TheConstants.{REGION}
use Rattle.wm_memory.specs.declared.cells.Cell.{Cell}
use Rattle.wm_memory.specs.Table.{CellTable, HasCell, own_cell}
use Rattle.wm_memory.proofs.Chunks.{has_chunk, no_chunk}
use Rattle.wm_memory.proofs.cells.Cells.missing.Goals as goal
use Rattle.wm_memory.proofs.cells.Cells.missing.Goals.{then-is_empty+in_ok-region, else-is_empty}

pub returns-in-Some : goal.returns-in-Some
returns-in-Some c =
    let t : CellTable = record { initial = c.self.inside.initial; regions = c.self.inside.regions.items } in
    let there : Some c.in-Some.field-0.now ≡ own_cell c.args.self.now c.args.address = rw c.in-Some.is at c.own.ensures in
    let has : HasCell t c.args.address = rw (← c.self.view_is) at (subst (λ (o : Option Cell). IsSome o) there refl) in
    rw (← c.self.view_is) (has_chunk t c.args.address c.self.invariant has)

pub returns : goal.returns
returns c =
    let items = c.self.inside.regions.items in
    let n = c.args.address / REGION in
    let t : CellTable = record { initial = c.self.inside.initial; regions = items } in
    let there = rw (← c.self.view_is) at c.requires in
    let lt : n < length items = omega (arith, there, c.self.invariant.size) in
    let at : slice_get items n ≡ Some c.index.result.now = slice_get_read items (length items) n c.index.result.now refl lt c.index.ensures in
    let none : own_cell t c.args.address ≡ None = rw (← c.self.view_is) at (sym c.own.ensures ∙ ap option_copied c.in_default.is) in
    rw (← c.self.view_is) (record {
      none = no_chunk t c.args.address c.self.invariant none;
      region = λ empty. elim c.if-is_empty.branch [
        | then-is_empty+in_ok-region w ↦ rw w.region-is w.in_ok-region.ensures
        | else-is_empty w ↦ absurd (
            let q : Some c.index.result.now ≡ Some [] = sym at ∙ empty in
            let e : c.index.result.now ≡ [] = cc in
            let size = ap (λ (r : List (List Cell)). length r) e in
            let is = c.is_empty.ensures in
            let not = w.if-is_empty.false in
            grind arith)
      ];
      cells = rw (← c.self.view_is) at c.in_ok-cells.ensures;
    })
