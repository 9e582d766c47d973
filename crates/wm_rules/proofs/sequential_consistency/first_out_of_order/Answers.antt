use Rattle.std.proofs.Common.{rules}
use Rattle.std.proofs.lemmas.Bool.{both_ways}
use Rattle.wm_event.specs.declared.event.EventId.TheVariants.{At}
use Rattle.wm_event.specs.Event.{key_of}
use Rattle.wm_event.specs.Shape.{ListsEachOnce}
use Rattle.wm_rules.specs.Others.{IsOutOfOrder}
use Rattle.wm_rules.specs.Cases.{overtaking_number}
use Rattle.wm_rules.proofs.SequentialConsistencyLemmas.{breaking_there}
use Rattle.wm_rules.proofs.ThreadLemmas.{earliest_listed}
use Rattle.wm_rules.proofs.sequential_consistency.first_out_of_order.Goals as goal

pub returns-then-not-may_be_overtaken-clause-first : goal.returns-then-not-may_be_overtaken-clause-first
returns-then-not-may_be_overtaken-clause-first c = λ n key at p. both_ways c.may_be_overtaken.result (search rules) (c.may_be_overtaken.ensures (At key) p.overtakes)

pub returns-clause-first : goal.returns-clause-first
returns-clause-first c =
    let run = c.args.relation.now in
    let once : ListsEachOnce run.log run.witness.order = search rules in
    earliest_listed run once (IsOutOfOrder run c.args.event.now c.args.writer (overtaking_number c.args.case)) (λ v h. breaking_there run (key_of c.args.event.now) c.args.event.now c.args.writer v (overtaking_number c.args.case) h) c.earliest_out_of_order.result c.earliest_out_of_order.ensures
