use Rattle.std.proofs.Common.{refl, Contains, subst}
use Rattle.std.proofs.lemmas.Option.{none-some, same_Some}
use Rattle.std.specs.Prelude.{OnOk}
use Rattle.std.specs.declared.result.Result.{Result}
use Rattle.std.specs.declared.result.Result.TheVariants.{Ok, Err}
use Rattle.wm_graph.specs.Edges.{ShowsContrary}
use Rattle.wm_graph.specs.declared.edges.EdgeKind.TheVariants.{Sequenced}
use Rattle.wm_graph.proofs.edges.add_sequenced.Goals as goal

on_ok_both : {T E : Type 0} (r : Result T E) {P Q R : Type 0} → (P → Q → R) → OnOk r P → OnOk r Q → OnOk r R
on_ok_both (Ok value) both p q = both p q
on_ok_both (Err error) both p q = tt

pub returns-in-Some-clause-sequenced : goal.returns-in-Some-clause-sequenced
returns-in-Some-clause-sequenced c =
    let new = c.add_edge.new.edges in
    on_ok_both c.add_edge.result
    (λ added contrary. λ a next. let same = same_Some _ _ (c.in-Some.ensures.next a next) in record {
      kind = Sequenced;
      has = refl;
      is_there = subst (Contains new) same added;
      contrary = subst (λ edge. ShowsContrary c.args.candidate.now new edge.from edge.to) same contrary;
    })
    c.add_edge.ensures.added c.add_edge.ensures.contrary

pub returns-in-None-clause-sequenced : goal.returns-in-None-clause-sequenced
returns-in-None-clause-sequenced c = λ a next. absurd (none-some _ (c.in-None.ensures.next a next))
