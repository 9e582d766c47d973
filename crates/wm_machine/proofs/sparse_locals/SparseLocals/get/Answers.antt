use Rattle.std.proofs.Common.{rules, ◌≡◌, ◌<◌, length, arith, refl, slice_get, Some}
use Rattle.std.proofs.lemmas.Bool.Decides.{nat_tests}
use Rattle.std.proofs.lemmas.Option.{slice_get_read}
use Rattle.wm_machine.specs.SparseLocals.{found, value_of}
use Rattle.wm_machine.specs.Values.{zero_of}
use Rattle.wm_machine.proofs.SparseLocals.{get_none, get_held, get_zero}
use Rattle.wm_machine.proofs.sparse_locals.SparseLocals.get.Goals as goal

pub returns-in-None : goal.returns-in-None
returns-in-None c =
    let s = c.self.inside in
    rw (← c.self.view_is) (get_none s.slots.items s.held.items c.args.index s.types.now (grind (arith, nat_tests)))

pub returns-in-Some-find : goal.returns-in-Some-find
returns-in-Some-find c =
    let s = c.self.inside in
    let t : slice_get s.types.now c.args.index ≡ Some c.in-Some.ty.now = slice_get_read s.types.now (length s.types.now) c.args.index c.in-Some.ty.now refl (grind (arith, nat_tests)) c.in-Some.ensures.lookup.1 in
    let p : slice_get s.slots.items c.args.index ≡ Some c.in-Some-find.slot = search rules in
    let h : c.in-Some-find.slot < length s.held.items = search rules in
    let i : c.index.result.now.index ≡ c.args.index = search rules in
    rw (← c.self.view_is) (get_held s.slots.items s.held.items c.args.index c.in-Some-find.slot s.types.now c.in-Some.ty.now c.index.result.now t p h c.index.ensures i)

pub returns-in-None-find : goal.returns-in-None-find
returns-in-None-find c =
    let s = c.self.inside in
    let t : slice_get s.types.now c.args.index ≡ Some c.in-Some.ty.now = slice_get_read s.types.now (length s.types.now) c.args.index c.in-Some.ty.now refl (grind (arith, nat_tests)) c.in-Some.ensures.lookup.1 in
    let z : value_of c.args.index c.in-Some.ty.now (found s.slots.items s.held.items c.args.index) ≡ zero_of c.in-Some.ty.now = search rules in
    rw (c.zero.ensures, ← c.self.view_is) (get_zero s.slots.items s.held.items c.args.index s.types.now c.in-Some.ty.now t z)
