use Rattle.std.proofs.Common.{◌≡◌, ◌∙◌, Bool, List, None, Option, Some, [], ap, map, slice_get, sym, subst}
use Rattle.std.specs.List.{filter}
use Rattle.std.specs.Option.{option_map}
use Rattle.std.proofs.lemmas.Bool.{both_ways}
use Rattle.std.proofs.lemmas.Option.{slice_get-get_or, slice_get-map, slice_get_past}
use Rattle.wm_event.specs.declared.event.EventKey.{EventKey}
use Rattle.wm_event.specs.declared.event.EventId.{EventId}
use Rattle.wm_event.specs.declared.writes.ByteWrite.{ByteWrite}
use Rattle.wm_event.specs.AtomicWrites.{begins_atomic}
use Rattle.wm_event.specs.Log.{HasKeys}
use Rattle.wm_event.specs.LoggedRun.{LoggedRun, execution}
use Rattle.wm_event.specs.Writes.{id_in, listed_from, thread_keys}
use Rattle.wm_event.proofs.WritesLemmas.{names_from}
use Rattle.wm_hb.specs.Sequence.{AreInSequence, HoldsFrom}
use Rattle.wm_rules.specs.Others.{IsOutOfOrder}
use Rattle.wm_rules.specs.Cases.{overtaking_number}
use Rattle.wm_rules.specs.Overtaking.{IsPast, IsRangeBy, ids_in_thread}
use Rattle.wm_rules.proofs.SequentialConsistencyLemmas.{overtaking_sooner}
use Rattle.wm_hb.proofs.ThreadLemmas.{in_sequence, thread_ids}
use Rattle.wm_rules.proofs.ThreadLemmas.{HoldsSooner, fails_in_thread, no_init, none_in_thread, some_in_thread}
use Rattle.wm_rules.proofs.overtaking.first_in_thread.Goals as goal
use Rattle.wm_rules.proofs.overtaking.first_in_thread.Goals.{After-thread_atomic_writes-writes, After-count_not_past, After-id_in_thread}

keys : (c : After-thread_atomic_writes-writes) → HasKeys c.args.relation.now.log
keys c = subst (λ (run : LoggedRun). HasKeys run.log) c.candidate-candidate.ensures.value c.log-log.ensures.shape.keys

-- the test that the thread's writes pass
abbrev test : (c : After-thread_atomic_writes-writes) → EventKey → Bool
test c = begins_atomic c.args.relation.now.log c.range_by_case-range.result.width c.range_by_case-range.result.address

same : (c : After-thread_atomic_writes-writes) → ids_in_thread c.args.relation.now.log c.args.thread c.thread_atomic_writes-writes.result.now ≡ thread_ids c.args.relation.now (keys c) c.args.thread (test c)
same c =
    let names = thread_keys c.args.relation.now.log c.args.thread in
    let range = c.range_by_case-range.result in
    let writes : c.thread_atomic_writes-writes.result.now ≡ listed_from (test c) range.address 0 names =
    subst (λ (run : LoggedRun). c.thread_atomic_writes-writes.result.now ≡ listed_from (begins_atomic run.log range.width range.address) range.address 0 (thread_keys run.log c.args.thread)) c.candidate-candidate.ensures.value c.thread_atomic_writes-writes.ensures in
    ap (map (id_in names)) writes ∙ names_from (test c) range.address [] names

pub count_not_past-requires-clause-sequence : goal.count_not_past-requires-clause-sequence
count_not_past-requires-clause-sequence c =
    subst (λ (ids : List EventId). AreInSequence (execution c.args.relation.now) ids) (sym (same c)) (in_sequence c.args.relation.now (keys c) c.args.thread (test c))

says : (c : After-thread_atomic_writes-writes) → HoldsSooner c.args.relation.now (test c) (λ v. IsPast (execution c.args.relation.now) c.args.writer c.args.case v) (IsOutOfOrder c.args.relation.now c.args.event.now c.args.writer (overtaking_number c.args.case))
says c = overtaking_sooner c.args.relation.now c.candidate-candidate.ensures.agrees c.args.event.now c.args.writer c.args.case c.range_by_case-range.result
    (subst (λ (run : LoggedRun). IsRangeBy (execution run) c.args.event.now c.args.writer c.args.case c.range_by_case-range.result) c.candidate-candidate.ensures.value c.range_by_case-range.ensures)

abbrev ids : (c : After-count_not_past) → List EventId
ids c = thread_ids c.args.relation.now (keys (goal.at.After-count_not_past c).After-thread_atomic_writes-writes) c.args.thread (test (goal.at.After-count_not_past c).After-thread_atomic_writes-writes)

turn : (c : After-count_not_past) → HoldsFrom (λ v. IsPast (execution c.args.relation.now) c.args.writer c.args.case v) (ids c) c.count_not_past.result
turn c = subst (λ (xs : List EventId). HoldsFrom (λ v. IsPast (execution c.args.relation.now) c.args.writer c.args.case v) xs c.count_not_past.result) (same (goal.at.After-count_not_past c).After-thread_atomic_writes-writes) c.count_not_past.ensures.turn

-- the thread's list has that there
listed : (c : After-count_not_past) (o : Option ByteWrite) → slice_get c.thread_atomic_writes-writes.result.now c.count_not_past.result ≡ o
    → slice_get (ids c) c.count_not_past.result ≡ option_map (id_in (thread_keys c.args.relation.now.log c.args.thread)) o
listed c o at =
    let f = id_in (thread_keys c.args.relation.now.log c.args.thread) in
    ap (λ (xs : List EventId). slice_get xs c.count_not_past.result) (sym (same (goal.at.After-count_not_past c).After-thread_atomic_writes-writes))
    ∙ slice_get-map f c.thread_atomic_writes-writes.result.now c.count_not_past.result ∙ ap (option_map f) at

pub returns-in_default : goal.returns-in_default
returns-in_default c =
    let a = (goal.at.returns-in_default c).After-thread_atomic_writes-writes in
    let d = (goal.at.returns-in_default c).After-count_not_past in
    let past : slice_get c.thread_atomic_writes-writes.result.now c.count_not_past.result ≡ None = slice_get_past c.thread_atomic_writes-writes.result.now c.count_not_past.result c.in_default.ensures.lookup.3 in
    none_in_thread c.args.relation.now (keys a) c.candidate-candidate.ensures.agrees c.args.thread (test a) (λ v. IsPast (execution c.args.relation.now) c.args.writer c.args.case v)
    (IsOutOfOrder c.args.relation.now c.args.event.now c.args.writer (overtaking_number c.args.case)) (says a) c.count_not_past.result (turn d) (listed d None past)

-- the name that is found
found : (c : After-id_in_thread) → slice_get (ids (goal.at.After-id_in_thread c).After-count_not_past) c.count_not_past.result ≡ Some c.id_in_thread.result
found c =
    let d = (goal.at.After-id_in_thread c).After-count_not_past in
    let h = c.in-Some.ensures.lookup in
    let write = c.in-Some.write.now in
    let at : slice_get c.thread_atomic_writes-writes.result.now c.count_not_past.result ≡ Some write = slice_get-get_or c.thread_atomic_writes-writes.result.now c.count_not_past.result write h.3.0 ∙ ap Some (sym h.1) in
    let is : c.id_in_thread.result ≡ id_in (thread_keys c.args.relation.now.log c.args.thread) write =
    subst (λ (run : LoggedRun). c.id_in_thread.result ≡ id_in (thread_keys run.log c.args.thread) write) c.candidate-candidate.ensures.value c.id_in_thread.ensures.value in
    listed d (Some write) at ∙ ap Some (sym is)

pub returns-in-Init : goal.returns-in-Init
returns-in-Init c =
    let a = (goal.at.returns-in-Init c).After-thread_atomic_writes-writes in
    let i = (goal.at.returns-in-Init c).After-id_in_thread in
    absurd (no_init (filter (test a) (thread_keys c.args.relation.now.log c.args.thread)) c.count_not_past.result (found i ∙ ap Some c.in-Init.is))

pub returns-then-is_out_of_order : goal.returns-then-is_out_of_order
returns-then-is_out_of_order c =
    let a = (goal.at.returns-then-is_out_of_order c).After-thread_atomic_writes-writes in
    let d = (goal.at.returns-then-is_out_of_order c).After-count_not_past in
    let i = (goal.at.returns-then-is_out_of_order c).After-id_in_thread in
    some_in_thread c.args.relation.now (keys a) c.candidate-candidate.ensures.agrees c.args.thread (test a) (λ v. IsPast (execution c.args.relation.now) c.args.writer c.args.case v)
    (IsOutOfOrder c.args.relation.now c.args.event.now c.args.writer (overtaking_number c.args.case)) (says a) c.count_not_past.result (turn d) c.in-At.key (found i ∙ ap Some c.in-At.is) (c.is_out_of_order.ensures.0 c.if-is_out_of_order.true)

pub returns-else-is_out_of_order : goal.returns-else-is_out_of_order
returns-else-is_out_of_order c =
    let a = (goal.at.returns-else-is_out_of_order c).After-thread_atomic_writes-writes in
    let d = (goal.at.returns-else-is_out_of_order c).After-count_not_past in
    let i = (goal.at.returns-else-is_out_of_order c).After-id_in_thread in
    fails_in_thread c.args.relation.now (keys a) c.candidate-candidate.ensures.agrees c.args.thread (test a) (λ v. IsPast (execution c.args.relation.now) c.args.writer c.args.case v)
    (IsOutOfOrder c.args.relation.now c.args.event.now c.args.writer (overtaking_number c.args.case)) (says a) c.count_not_past.result (turn d) c.in-At.key (found i ∙ ap Some c.in-At.is)
    (λ h. both_ways c.is_out_of_order.result c.if-is_out_of_order.false (c.is_out_of_order.ensures.1 h))
