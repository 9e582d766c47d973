use Rattle.std.proofs.Common.{rules, ◌≡◌, ◌<◌, length, arith, sym, ap, ◌∙◌, slice_get, get_or, set, Some}
use Rattle.std.proofs.lemmas.Result.{on_ok_weaker}
use Rattle.wm_machine.proofs.SparseLocals.{length_locals, sets_held, set_first}
use Rattle.wm_machine.proofs.sparse_locals.SparseLocals.set.Goals as goal

pub add-requires : goal.add-requires
add-requires c =
    let s = c.self.inside in
    let n : length c.args.self.now ≡ length s.types.now = ap length (sym c.self.view_is) ∙ length_locals s.slots.items s.held.items 0 s.types.now in
    omega arith

pub returns-in-Some-clause-ok : goal.returns-in-Some-clause-ok
returns-in-Some-clause-ok c =
    let s = c.self.inside in
    let p : slice_get s.slots.items c.args.index ≡ Some c.in-Some.slot = search rules in
    let i : (get_or s.held.items c.in-Some.slot c.index_mut.result.now).index ≡ c.args.index = rw c.deref-2.ensures.value at (c.in-Some.ensures.some c.index_mut.result.now) in
    let h : c.in-Some.slot < length s.held.items = search rules in
    rw (← c.self.view_is) (set_first s.slots.items s.slots.items s.held.items _ c.args.index c.args.value s.types.now (sets_held s.slots.items s.held.items c.args.index c.in-Some.slot c.index_mut.result.now c.args.value p h i) (rw c.self.view_is c.requires))

pub returns-in-None-clause-ok : goal.returns-in-None-clause-ok
returns-in-None-clause-ok c =
    let s = c.self.inside in
    on_ok_weaker c.add.result (λ d. set_first s.slots.items c.add.new.slots.items s.held.items c.add.new.held.items c.args.index c.args.value s.types.now d (rw c.self.view_is c.requires) ∙ ap (λ l. set l c.args.index c.args.value) c.self.view_is) c.add.ensures.ok
