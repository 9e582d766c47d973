use Rattle.std.proofs.Common.{List, None, subst}
use Rattle.wm_event.specs.declared.event.EventKey.{EventKey}
use Rattle.wm_event.specs.WriteIndex.{IsWriteIndex}
use Rattle.wm_event.specs.First.{IsFirst, FindsFirst}
use Rattle.wm_event.specs.LoggedRun.{LoggedRun}
use Rattle.wm_event.specs.Places.{ArePlaces}
use Rattle.wm_event.specs.Shape.{IsBeforeOrder, IsWellShaped, ListsEachOnce, shape_rank}
use Rattle.wm_event.proofs.ShapeLaws.{well_shaped, fault_first, order_first}
use Rattle.wm_event.proofs.candidate.Candidate.of.Goals as goal
use Rattle.wm_event.proofs.candidate.Candidate.of.Goals.{In-Ok-Some}

pub returns-in-Some-clause-fault : goal.returns-in-Some-clause-fault
returns-in-Some-clause-fault c =
    let x : LoggedRun = record { log = c.args.log; witness = c.args.witness; initial = c.args.initial.now } in
    λ _. fault_first x c.in-Some.fault (subst (λ y. IsFirst shape_rank (IsBeforeOrder y) c.in-Some.fault) c.new.ensures c.in-Some.ensures)

listed : (c : In-Ok-Some) → ListsEachOnce c.args.log c.args.witness.order × ArePlaces c.args.log c.args.witness.order c.in-Ok-Some.places
listed c = rw (c.in-Ok-Some.field-0-is, c.threads.ensures.value, c.as_slice.ensures) at c.in-Ok-Some.ensures

shape : (c : In-Ok-Some) → IsWellShaped (record { log = c.args.log; witness = c.args.witness; initial = c.args.initial.now })
shape c =
    let x : LoggedRun = record { log = c.args.log; witness = c.args.witness; initial = c.args.initial.now } in
    well_shaped x c.threads.ensures.keys (subst (λ y. FindsFirst shape_rank (IsBeforeOrder y) None) c.new.ensures (λ f h. c.in_default.ensures f h)) (listed c).0

pub invariant_of-result : goal.invariant_of-result
invariant_of-result c = record {
  shape = shape (goal.at.invariant_of-result c).In-Ok-Some;
  places = (listed (goal.at.invariant_of-result c).In-Ok-Some).1;
  writes = subst (λ (order : List EventKey). IsWriteIndex c.args.log order c.in-Ok.writes) c.as_slice-in-Ok-Some.ensures c.in-Ok.ensures;
}

pub returns-in-Ok-clause-shape : goal.returns-in-Ok-clause-shape
returns-in-Ok-clause-shape c = shape (goal.at.returns-in-Ok-clause-shape c).In-Ok-Some

pub returns-in-Ok-None-clause-fault : goal.returns-in-Ok-None-clause-fault
returns-in-Ok-None-clause-fault c =
    let x : LoggedRun = record { log = c.args.log; witness = c.args.witness; initial = c.args.initial.now } in
    λ _. order_first x (subst (λ y. FindsFirst shape_rank (IsBeforeOrder y) None) c.new.ensures (λ f h. c.in_default.ensures f h)) (λ once. (rw c.in-Ok-None.field-0-is at c.in-Ok-None.ensures) (rw (c.threads.ensures.value, c.as_slice.ensures) once))
