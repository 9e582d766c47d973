use Rattle.std.proofs.Common.{◌≡◌, ◌+◌, ◌∙◌, ℕ, Bool, Option, None, Some, List, slice_get, sym, ap, subst}
use Rattle.std.proofs.lemmas.Bool.{both_ways}
use Rattle.std.proofs.lemmas.Option.{slice_get-get_or, slice_get_past}
use Rattle.std.specs.List.{filter}
use Rattle.wm_event.specs.declared.event.EventKey.{EventKey}
use Rattle.wm_event.specs.Writes.{thread_keys, writes_byte}
use Rattle.wm_event.specs.declared.event.EventId.{EventId}
use Rattle.wm_event.specs.declared.event.EventId.TheVariants.{Init, At}
use Rattle.wm_event.specs.Log.{HasKeys}
use Rattle.wm_event.specs.HappensBefore.{HappensBefore}
use Rattle.wm_event.specs.LoggedRun.{LoggedRun, execution}
use Rattle.wm_event.specs.Rules.{KeepsOrder}
use Rattle.wm_hb.specs.Sequence.{AreInSequence, HoldsFrom}
use Rattle.wm_rules.specs.Others.{WritesBetween}
use Rattle.wm_hb.proofs.ThreadLemmas.{in_sequence, thread_ids}
use Rattle.wm_rules.proofs.ThreadLemmas.{fails_in_thread, no_init, none_in_thread, some_in_thread, written_sooner}
use Rattle.wm_rules.proofs.by_thread.first_in_thread.Goals as goal
use Rattle.wm_rules.proofs.by_thread.first_in_thread.Goals.{After-thread_writes_to-writes, After-count_not_after, In-Some-At}

keys : (c : After-thread_writes_to-writes) → HasKeys c.args.relation.now.log
keys c = subst (λ (run : LoggedRun). HasKeys run.log) c.candidate-candidate.ensures.value c.log-log.ensures.shape.keys

-- the test that the thread's writes pass
abbrev test : (c : After-thread_writes_to-writes) → EventKey → Bool
test c = writes_byte c.args.relation.now.log (c.args.event.now.address + c.args.byte)

same : (c : After-thread_writes_to-writes) → c.thread_writes_to-writes.result.now ≡ thread_ids c.args.relation.now (keys c) c.args.thread (test c)
same c = cc (c.thread_writes_to-writes.ensures, c.candidate-candidate.ensures.value, c.from.ensures, c.from-2.ensures)

pub count_not_after-requires : goal.count_not_after-requires
count_not_after-requires c =
    subst (λ (ids : List EventId). AreInSequence (execution c.args.relation.now) ids) (sym (same c)) (in_sequence c.args.relation.now (keys c) c.args.thread (test c))

-- what the list has at a place
has : (xs ys : List EventId) (n : ℕ) (o : Option EventId) → xs ≡ ys → slice_get xs n ≡ o → slice_get ys n ≡ o
has xs ys n o e at = ap (λ (zs : List EventId). slice_get zs n) (sym e) ∙ at

abbrev ids : (c : After-count_not_after) → List EventId
ids c = thread_ids c.args.relation.now (keys (goal.at.After-count_not_after c).After-thread_writes_to-writes) c.args.thread (test (goal.at.After-count_not_after c).After-thread_writes_to-writes)

turn : (c : After-count_not_after) → HoldsFrom (λ v. HappensBefore (execution c.args.relation.now) c.args.writer v) (ids c) c.count_not_after.result
turn c = subst (λ (xs : List EventId). HoldsFrom (λ v. HappensBefore (execution c.args.relation.now) c.args.writer v) xs c.count_not_after.result) (same (goal.at.After-count_not_after c).After-thread_writes_to-writes) c.count_not_after.ensures.turn

agrees : (c : After-count_not_after) → KeepsOrder (execution c.args.relation.now)
agrees c = c.candidate-candidate.ensures.agrees

-- the list has that there
listed : (c : After-count_not_after) (o : Option EventId) → slice_get c.thread_writes_to-writes.result.now c.count_not_after.result ≡ o → slice_get (ids c) c.count_not_after.result ≡ o
listed c o at = has c.thread_writes_to-writes.result.now (ids c) c.count_not_after.result o (same (goal.at.After-count_not_after c).After-thread_writes_to-writes) at

pub returns-in-None : goal.returns-in-None
returns-in-None c =
    let d = (goal.at.returns-in-None c).After-count_not_after in
    let past : slice_get c.thread_writes_to-writes.result.now c.count_not_after.result ≡ None = slice_get_past c.thread_writes_to-writes.result.now c.count_not_after.result c.in-None.ensures.lookup.3 in
    none_in_thread c.args.relation.now (keys (goal.at.returns-in-None c).After-thread_writes_to-writes) (agrees d) c.args.thread (test (goal.at.returns-in-None c).After-thread_writes_to-writes) (λ v. HappensBefore (execution c.args.relation.now) c.args.writer v) (WritesBetween c.args.relation.now c.args.event.now c.args.byte c.args.writer)
    (written_sooner c.args.relation.now c.args.event.now c.args.byte c.args.writer) c.count_not_after.result (turn d) (listed d None past)

pub returns-in-Some-Init : goal.returns-in-Some-Init
returns-in-Some-Init c =
    let d = (goal.at.returns-in-Some-Init c).After-count_not_after in
    let h = c.in-Some-Init.ensures.lookup in
    let at : slice_get c.thread_writes_to-writes.result.now c.count_not_after.result ≡ Some Init =
    slice_get-get_or c.thread_writes_to-writes.result.now c.count_not_after.result c.in-Some-Init.field-0.now h.3.0 ∙ ap Some (sym h.1 ∙ c.in-Some-Init.field-0-is) in
    absurd (no_init (filter (writes_byte c.args.relation.now.log (c.args.event.now.address + c.args.byte)) (thread_keys c.args.relation.now.log c.args.thread)) c.count_not_after.result (listed d (Some Init) at))

found : (c : In-Some-At) → slice_get c.thread_writes_to-writes.result.now c.count_not_after.result ≡ Some (At c.in-Some-At.key)
found c =
    let h = c.in-Some-At.ensures.lookup in
    slice_get-get_or c.thread_writes_to-writes.result.now c.count_not_after.result c.in-Some-At.field-0.now h.3.0 ∙ ap Some (sym h.1 ∙ c.in-Some-At.field-0-is)

pub returns-then-is_written_between : goal.returns-then-is_written_between
returns-then-is_written_between c =
    let d = (goal.at.returns-then-is_written_between c).After-count_not_after in
    some_in_thread c.args.relation.now (keys (goal.at.returns-then-is_written_between c).After-thread_writes_to-writes) (agrees d) c.args.thread (test (goal.at.returns-then-is_written_between c).After-thread_writes_to-writes) (λ v. HappensBefore (execution c.args.relation.now) c.args.writer v) (WritesBetween c.args.relation.now c.args.event.now c.args.byte c.args.writer)
    (written_sooner c.args.relation.now c.args.event.now c.args.byte c.args.writer) c.count_not_after.result (turn d) c.in-Some-At.key
    (listed d (Some (At c.in-Some-At.key)) (found (goal.at.returns-then-is_written_between c).In-Some-At)) (c.is_written_between.ensures.0 c.if-is_written_between.true)

pub returns-else-is_written_between : goal.returns-else-is_written_between
returns-else-is_written_between c =
    let d = (goal.at.returns-else-is_written_between c).After-count_not_after in
    fails_in_thread c.args.relation.now (keys (goal.at.returns-else-is_written_between c).After-thread_writes_to-writes) (agrees d) c.args.thread (test (goal.at.returns-else-is_written_between c).After-thread_writes_to-writes) (λ v. HappensBefore (execution c.args.relation.now) c.args.writer v) (WritesBetween c.args.relation.now c.args.event.now c.args.byte c.args.writer)
    (written_sooner c.args.relation.now c.args.event.now c.args.byte c.args.writer) c.count_not_after.result (turn d) c.in-Some-At.key
    (listed d (Some (At c.in-Some-At.key)) (found (goal.at.returns-else-is_written_between c).In-Some-At)) (λ h. both_ways c.is_written_between.result c.if-is_written_between.false (c.is_written_between.ensures.1 h))
