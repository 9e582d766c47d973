use Rattle.std.proofs.Common.{◌≡◌, ◌≤◌, ◌+◌, ◌-◌, ◌⊎◌, ℕ, List, Some, get_or, slice_get, sym, ap, subst, ◌∙◌, arith}
use Rattle.std.proofs.lemmas.Option.{slice_get-get_or}
use Rattle.wm_event.specs.declared.event.EventId.{EventId}
use Rattle.wm_event.specs.declared.event.EventId.TheVariants.{Init}
use Rattle.wm_event.specs.Execution.{place}
use Rattle.wm_event.specs.HappensBefore.{HappensBefore}
use Rattle.wm_event.specs.Limits.{max_events}
use Rattle.wm_event.specs.Log.{HasKeys}
use Rattle.wm_event.specs.LoggedRun.{LoggedRun, execution}
use Rattle.wm_event.specs.Writes.{writes_byte}
use Rattle.wm_event.specs.Shape.{IsWellShaped, ListsEachOnce}
use Rattle.wm_hb.specs.Sequence.{AreInSequence}
use Rattle.wm_races.proofs.BoundLemmas.{end_none, end_at}
use Rattle.wm_races.proofs.CountLemmas.{order-few}
use Rattle.wm_hb.proofs.ThreadLemmas.{in_sequence, thread_ids}
use Rattle.wm_races.proofs.bounds.end_in_thread.Goals as goal
use Rattle.wm_races.proofs.bounds.end_in_thread.Goals.{After-thread_writes_to-writes, After-count_not_after-count}

shape : (c : After-thread_writes_to-writes) → IsWellShaped c.args.before.now
shape c = subst IsWellShaped c.candidate-candidate.ensures.value c.log-log.ensures.shape

once : (c : After-thread_writes_to-writes) → ListsEachOnce c.args.before.now.log c.args.before.now.witness.order
once c = (shape c).order

keys : (c : After-thread_writes_to-writes) → HasKeys c.args.before.now.log
keys c = (shape c).keys

abbrev ids : After-thread_writes_to-writes → List EventId
ids c = thread_ids c.args.before.now (keys c) c.args.thread (writes_byte c.args.before.now.log c.args.address)

same : (c : After-thread_writes_to-writes) → c.thread_writes_to-writes.result.now ≡ ids c
same c = cc (c.thread_writes_to-writes.ensures, c.candidate-candidate.ensures.value)

sequence : (c : After-thread_writes_to-writes) → AreInSequence (execution c.args.before.now) c.thread_writes_to-writes.result.now
sequence c = subst (λ (vs : List EventId). AreInSequence (execution c.args.before.now) vs) (sym (same c)) (in_sequence c.args.before.now (keys c) c.args.thread (writes_byte c.args.before.now.log c.args.address))

pub count_not_after-count-requires : goal.count_not_after-count-requires
count_not_after-count-requires c = sequence c

later : (c : After-count_not_after-count) (i : ℕ) (v : EventId) → c.count_not_after-count.result ≤ i → slice_get (ids (goal.at.After-count_not_after-count c).After-thread_writes_to-writes) i ≡ Some v
    → HappensBefore (execution c.args.before.now) c.args.event v
later c i v l at = c.count_not_after-count.ensures.turn.holds i v l (ap (λ (vs : List EventId). slice_get vs i) (same (goal.at.After-count_not_after-count c).After-thread_writes_to-writes) ∙ at)

pub returns-then-count-eq0 : goal.returns-then-count-eq0
returns-then-count-eq0 c =
    let a = (goal.at.returns-then-count-eq0 c).After-thread_writes_to-writes in
    let d = (goal.at.returns-then-count-eq0 c).After-count_not_after-count in
    end_none c.args.before.now (once a) (keys a) c.args.thread c.args.address c.args.event c.count_not_after-count.result (later d) c.if-count-eq0.true

pub returns : goal.returns
returns c =
    let a = (goal.at.returns c).After-thread_writes_to-writes in
    let d = (goal.at.returns c).After-count_not_after-count in
    let xs = c.thread_writes_to-writes.result.now in
    let count = c.count_not_after-count.result in
    let some = c.if-count-eq0.false in
    let bound = c.count_not_after-count.ensures.bound in
    let v = get_or xs (count - 1) Init in
    let next : count - 1 + 1 ≡ count = omega (arith, some) in
    let found : slice_get xs (count - 1) ≡ Some v = slice_get-get_or xs (count - 1) Init (omega (arith, next, bound)) in
    let at = ap (λ (vs : List EventId). slice_get vs (count - 1)) (sym (same a)) ∙ found in
    let n = c.place_after.result in
    let here = subst (λ (x : LoggedRun). (max_events ≤ n) ⊎ (place (execution x) v ≡ n)) c.candidate-candidate.ensures.value c.place_after.ensures in
    end_at c.args.before.now (once a) (keys a) c.args.thread c.args.address c.args.event count (later d) c.candidate-candidate.ensures.agrees (order-few c.args.before.now (shape a)) (count - 1) v next at n here
