use Rattle.std.proofs.Common.{◌≡◌, get_or, sym, subst}
use Rattle.std.proofs.lemmas.List.Elements.{All-set}
use Rattle.wm_witness.specs.Relations.{IsRow}
use Rattle.wm_witness.proofs.RelationLaw.{joined-row}
use Rattle.wm_witness.proofs.relation.Relation.join.Goals as goal

pub returns-clause-rows : goal.returns-clause-rows
returns-clause-rows c =
    let run = c.args.start.now in
    let assumed = c.args.assumed.now in
    let kind = c.args.self.now.kind in
    let rows = c.args.self.now.rows.items in
    let row = c.index.result.now in
    let other = c.index-2.result.now in
    let is-row : row ≡ get_or rows c.args.into row = c.index.ensures in
    let is-other : other ≡ get_or rows c.args.from other = c.index-2.ensures in
    let good : IsRow run assumed kind row = subst (IsRow run assumed kind) (sym is-row) (c.requires.rows c.args.into row c.requires.into) in
    let good-other : IsRow run assumed kind other = subst (IsRow run assumed kind) (sym is-other) (c.requires.rows c.args.from other c.requires.from) in
    All-set (IsRow run assumed kind) rows c.args.into c.joined.result
    (joined-row run assumed kind row other c.joined.result good good-other (c.requires.before other row is-other is-row) c.joined.ensures.key c.joined.ensures.covers)
    c.requires.rows
