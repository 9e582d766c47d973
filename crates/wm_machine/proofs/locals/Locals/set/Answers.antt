use Rattle.std.proofs.Common.{rules, ◌≡◌, ◌+◌, ◌-◌, length, set, List, arith, ap, ◌∙◌}
use Rattle.std.proofs.lemmas.Result.{on_ok_weaker}
use Rattle.std.specs.Prelude.{box_value}
use Rattle.wm_machine.specs.declared.value.TypedValue.{TypedValue}
use Rattle.wm_machine.proofs.Held.{set_held, set_more, set_late}
use Rattle.wm_machine.proofs.locals.Locals.set.Goals as goal

pub returns-then-index-len-clause-ok : goal.returns-then-index-len-clause-ok
returns-then-index-len-clause-ok c =
    let s = c.self.inside in
    let e : c.len.result ≡ length s.held.items = search rules in
    set_held s.held.items (box_value s.sparse_locals) s.unset.now c.args.index c.args.value (omega (arith, c.if-index-len.true)) ∙ ap (λ (vs : List TypedValue). set vs c.args.index c.args.value) c.self.view_is

pub returns-then-beyond-self-clause-ok : goal.returns-then-beyond-self-clause-ok
returns-then-beyond-self-clause-ok c =
    let s = c.self.inside in
    let e : c.len-2.result ≡ length s.held.items = search rules in
    let f : c.len.result ≡ length s.held.items = search rules in
    set_more s.held.items c.hold.new.values.items (box_value s.sparse_locals) s.unset.now c.args.index (c.args.index - c.len-2.result + 1) c.args.value (omega (arith, c.if-index-len.false)) (omega arith) (omega (arith, c.if-beyond-self.true)) c.in_ok-hold.ensures.ok
    ∙ ap (λ (vs : List TypedValue). set vs c.args.index c.args.value) c.self.view_is

pub returns-clause-ok : goal.returns-clause-ok
returns-clause-ok c =
    let s = c.self.inside in
    let e : c.len-2.result ≡ length s.held.items = search rules in
    let f : c.len.result ≡ length s.held.items = search rules in
    on_ok_weaker c.set.result (λ d.
    set_late s.held.items (box_value s.sparse_locals) c.set.new.self s.unset.now c.args.index (c.args.index - c.len-2.result - length s.unset.now) c.args.value (omega (arith, c.if-index-len.false, c.if-beyond-self.false)) d
    ∙ ap (λ (vs : List TypedValue). set vs c.args.index c.args.value) c.self.view_is) (rw c.deref_mut.ensures.value at c.set.ensures.ok)
