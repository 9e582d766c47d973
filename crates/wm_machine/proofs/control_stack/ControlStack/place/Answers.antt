use Rattle.std.proofs.Common.{reverse, ◌<◌, ◌≡◌, ◌-◌, length, take, arith, rules, subst, sym, ap, ◌∙◌, get_or, ℕ}
use Rattle.std.specs.Prelude.{IfSome, slice_get}
use Rattle.std.proofs.lemmas.List.{length-reverse, get_or-reverse}
use Rattle.wm_machine.specs.Nest.{Nest}
use Rattle.wm_machine.proofs.Moves.{places_length, place_read}
use Rattle.wm_machine.proofs.control_stack.ControlStack.place.Goals as goal

found : (n m k : ℕ) {l : ℕ} → l ≡ n → m ≡ l → k < m → k < n
found n m k e f h = omega arith

room : (c : goal.After-len) → c.args.label < length c.self.inside.outer.items
room c =
    let s = c.self.inside in
    let e = length-reverse s.outer.items in
    let f = places_length (reverse s.outer.items) (take s.inner.base s.values.items) in
    let g = ap (λ (n : Nest). length n.outer) c.self.view_is in
    omega (arith, e, f, g, c.requires)

pub overflow_sub-len : goal.overflow_sub-len
overflow_sub-len c = let h = room c in let e : c.len.result ≡ length c.self.inside.outer.items = search rules in omega arith

pub overflow_sub-len-2 : goal.overflow_sub-len-2
overflow_sub-len-2 c = let h = room c in let e : c.len.result ≡ length c.self.inside.outer.items = search rules in omega arith

pub index-level-requires : goal.index-level-requires
index-level-requires c = let h = room c in let e : c.len.result ≡ length c.self.inside.outer.items = search rules in omega arith

pub returns-clause-place : goal.returns-clause-place
returns-clause-place c =
    let s = c.self.inside in
    let v = c.index-level.result.now in
    let outer = s.outer.items in
    let e : c.len.result ≡ length outer = search rules in
    let lt : c.args.label < length outer = found (length outer) _ c.args.label (length-reverse outer) (places_length (reverse outer) (take s.inner.base s.values.items)) (subst (λ (n : Nest). c.args.label < length n.outer) (sym c.self.view_is) c.requires) in
    let g : get_or (reverse outer) c.args.label v ≡ v = get_or-reverse outer c.args.label v lt ∙ ap (λ (k : ℕ). get_or outer (k - 1 - c.args.label) v) (sym e) ∙ sym c.index-level.ensures in
    let r = place_read (reverse outer) (take s.inner.base s.values.items) c.args.label v in
    subst (λ (n : Nest). IfSome (slice_get n.outer c.args.label) (λ p. (v.block ≡ p.block) × (v.at ≡ p.at))) c.self.view_is (rw g at r)
