use Rattle.std.proofs.Common.{◌≡◌, ◌<◌, ◌-◌, length, sym, ap, ◌∙◌, subst, arith}
use Rattle.std.proofs.lemmas.List.{get_or_default}
use Rattle.wm_witness.specs.declared.row.Row.{Row}
use Rattle.wm_witness.proofs.RelationLaw.{earlier-row}
use Rattle.wm_witness.proofs.relation.Relation.join_earlier.Goals as goal

pub join-requires-clause-before : goal.join-requires-clause-before
join-requires-clause-before c = λ a b is_a is_b.
    let rows = c.args.self.now.rows.items in
    let i = c.args.index - 1 in
    let j = c.args.index in
    let in_j : j < length rows = (let f = c.if-index-len.false in let l = c.len.ensures in omega (arith, f, l)) in
    let in_i : i < length rows = omega (arith, in_j) in
    let first : c.index.result.now ≡ a = c.index.ensures ∙ get_or_default rows i c.index.result.now a in_i ∙ sym is_a in
    let second : c.index-2.result.now ≡ b = c.index-2.ensures ∙ get_or_default rows j c.index-2.result.now b in_j ∙ sym is_b in
    let thread : a.key.thread ≡ b.key.thread = ap (λ (r : Row). r.key.thread) (sym first) ∙ c.if-earlier-key.true ∙ ap (λ (r : Row). r.key.thread) second in
    let less : a.key.number < b.key.number = subst (λ (r : Row). r.key.number < b.key.number) first (subst (λ (r : Row). c.index.result.now.key.number < r.key.number) second c.if-earlier-key-2.true) in
    earlier-row c.args.start.now c.args.assumed.now c.args.self.now.kind rows i j a b c.requires.rows in_i in_j is_a is_b thread less
