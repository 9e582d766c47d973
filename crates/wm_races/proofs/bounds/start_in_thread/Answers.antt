use Rattle.std.proofs.Common.{◌≡◌, ◌<◌, ◌≤◌, ◌+◌, ◌⊎◌, ℕ, List, Some, length, slice_get, sym, ap, subst, ◌∙◌}
use Rattle.std.proofs.lemmas.Option.{slice_get-get_or}
use Rattle.wm_event.specs.declared.event.EventId.{EventId}
use Rattle.wm_event.specs.Execution.{place}
use Rattle.wm_event.specs.HappensBefore.{HappensBefore}
use Rattle.wm_event.specs.Log.{HasKeys}
use Rattle.wm_event.specs.LoggedRun.{LoggedRun, execution}
use Rattle.wm_event.specs.Writes.{writes_byte}
use Rattle.wm_event.specs.Shape.{IsWellShaped, ListsEachOnce}
use Rattle.wm_hb.specs.Sequence.{AreInSequence}
use Rattle.wm_races.proofs.BoundLemmas.{start_all, start_at}
use Rattle.wm_hb.proofs.ThreadLemmas.{in_sequence, thread_ids}
use Rattle.wm_races.proofs.bounds.start_in_thread.Goals as goal
use Rattle.wm_races.proofs.bounds.start_in_thread.Goals.{After-thread_writes_to-writes, After-count_before}

shape : (c : After-thread_writes_to-writes) → IsWellShaped c.args.before.now
shape c = subst IsWellShaped c.candidate-candidate.ensures.value c.log-log.ensures.shape

once : (c : After-thread_writes_to-writes) → ListsEachOnce c.args.before.now.log c.args.before.now.witness.order
once c = (shape c).order

keys : (c : After-thread_writes_to-writes) → HasKeys c.args.before.now.log
keys c = (shape c).keys

abbrev ids : After-thread_writes_to-writes → List EventId
ids c = thread_ids c.args.before.now (keys c) c.args.thread (writes_byte c.args.before.now.log c.args.address)

same : (c : After-thread_writes_to-writes) → c.thread_writes_to-writes.result.now ≡ ids c
same c = cc (c.thread_writes_to-writes.ensures, c.candidate-candidate.ensures.value)

sequence : (c : After-thread_writes_to-writes) → AreInSequence (execution c.args.before.now) c.thread_writes_to-writes.result.now
sequence c = subst (λ (vs : List EventId). AreInSequence (execution c.args.before.now) vs) (sym (same c)) (in_sequence c.args.before.now (keys c) c.args.thread (writes_byte c.args.before.now.log c.args.address))

pub count_before-requires : goal.count_before-requires
count_before-requires c = sequence c

earlier : (c : After-count_before) (i : ℕ) (v : EventId) → i < c.count_before.result → slice_get (ids (goal.at.After-count_before c).After-thread_writes_to-writes) i ≡ Some v
    → HappensBefore (execution c.args.before.now) v c.args.event
earlier c i v l at = c.count_before.ensures.before i v l (ap (λ (vs : List EventId). slice_get vs i) (same (goal.at.After-count_before c).After-thread_writes_to-writes) ∙ at)

pub returns-in-Some : goal.returns-in-Some
returns-in-Some c =
    let a = (goal.at.returns-in-Some c).After-thread_writes_to-writes in
    let d = (goal.at.returns-in-Some c).After-count_before in
    let h = c.in-Some.ensures.lookup in
    let v = c.in-Some.first.now in
    let xs = c.thread_writes_to-writes.result.now in
    let found : slice_get xs c.count_before.result ≡ Some v = slice_get-get_or xs c.count_before.result v h.3.0 ∙ ap Some (sym h.1) in
    let at = ap (λ (vs : List EventId). slice_get vs c.count_before.result) (sym (same a)) ∙ found in
    let n = c.place_or_first.result in
    let here = subst (λ (x : LoggedRun). (n ≡ 0) ⊎ (place (execution x) v ≡ n + 1)) c.candidate-candidate.ensures.value c.place_or_first.ensures in
    start_at c.args.before.now (once a) (keys a) c.args.thread c.args.address c.args.event c.count_before.result (earlier d) c.candidate-candidate.ensures.agrees v at n here

pub returns-in-None : goal.returns-in-None
returns-in-None c =
    let a = (goal.at.returns-in-None c).After-thread_writes_to-writes in
    let d = (goal.at.returns-in-None c).After-count_before in
    let all : length (ids a) ≤ c.count_before.result = subst (λ (vs : List EventId). length vs ≤ c.count_before.result) (same a) c.in-None.ensures.lookup.3 in
    start_all c.args.before.now (once a) (keys a) c.args.thread c.args.address c.args.event c.count_before.result (earlier d) all 18446744073709551615
