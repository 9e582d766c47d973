use Rattle.std.proofs.Common.{◌≡◌, ◌≤◌, List, Some, length, ap, arith, sym, ◌∙◌, refl, slice_get}
use Rattle.std.proofs.lemmas.Option.{slice_get_within, slice_get_read}
use Rattle.wm_memory.specs.declared.cells.Cell.{Cell}
use Rattle.wm_memory.proofs.Replaced.{sets_nothing}
use Rattle.wm_memory.proofs.region.Region.set.Goals as goal
use Rattle.wm_memory.proofs.region.Region.set.Goals.{else-number-len-via-then-number-len+else-place-len, else-number-len-via-else-number-len}

pub returns-else-number-len : goal.returns-else-number-len
returns-else-number-len c =
    let items = c.self.inside.chunks.items in
    let short : (d : List Cell) → slice_get items c.args.number ≡ Some d → length d ≤ c.args.place = λ d at.
    elim c.else-number-len.branch [
      | else-number-len-via-then-number-len+else-place-len w ↦ (
          let lt = slice_get_within items c.args.number d at in
          let read : slice_get items c.args.number ≡ Some w.index.result.now = slice_get_read items (length items) c.args.number w.index.result.now refl lt w.index.ensures in
          let q : Some d ≡ Some w.index.result.now = sym at ∙ read in
          let e : d ≡ w.index.result.now = cc in
          let n = ap (λ (l : List Cell). length l) e in
          omega (arith, n, w.if-place-len.false, w.len-then-number-len.ensures))
      | else-number-len-via-else-number-len w ↦ absurd (
          let lt = slice_get_within items c.args.number d at in
          omega (arith, lt, c.len.ensures, w.if-number-len.false))
    ] in
    rw (← c.self.view_is) (sets_nothing items c.args.number c.args.place c.args.cell short)
