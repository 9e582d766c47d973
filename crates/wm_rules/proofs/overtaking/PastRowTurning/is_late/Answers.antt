use Rattle.std.proofs.Common.{◌≡◌, ◌∙◌, Some, ap, get_or, slice_get, subst, sym}
use Rattle.std.specs.Option.{option_map}
use Rattle.std.proofs.lemmas.Bool.{both_ways}
use Rattle.std.proofs.lemmas.Option.{same_Some, slice_get-get_or, slice_get-map}
use Rattle.wm_event.specs.declared.event.EventId.{EventId}
use Rattle.wm_event.specs.declared.writes.ByteWrite.{ByteWrite}
use Rattle.wm_event.specs.LoggedRun.{LoggedRun, execution}
use Rattle.wm_event.specs.Writes.{id_in, thread_keys}
use Rattle.wm_rules.specs.Overtaking.{IsPast, ids_of_row}
use Rattle.wm_rules.proofs.overtaking.PastRowTurning.is_late.Goals as goal
use Rattle.wm_rules.proofs.overtaking.PastRowTurning.is_late.Goals.{After-is_past}

-- the name that is looked at is the one there
listed : (c : After-is_past) (v : EventId) → slice_get (ids_of_row c.args.self.now) c.args.index ≡ Some v → c.id_in_thread-other.result ≡ v
listed c v at =
    let row = c.args.self.now in
    let xs = row.writes.now in
    let f = id_in (thread_keys row.relation.now.log row.thread) in
    let d : ByteWrite = record { address = 0; place = 0 } in
    let is : c.id_in_thread-other.result ≡ f (get_or xs c.args.index d) =
    subst (λ (run : LoggedRun). c.id_in_thread-other.result ≡ id_in (thread_keys run.log row.thread) (get_or xs c.args.index d)) c.candidate-candidate.ensures.value c.id_in_thread-other.ensures.value in
    is ∙ same_Some (f (get_or xs c.args.index d)) v
    (sym (ap (option_map f) (slice_get-get_or xs c.args.index d c.requires.0)) ∙ sym (slice_get-map f xs c.args.index) ∙ at)

pub returns-clause-early : goal.returns-clause-early
returns-clause-early c = λ is v at past.
    let row = c.args.self.now in
    let a = (goal.at.returns-clause-early c).After-is_past in
    both_ways c.is_past.result is (c.is_past.ensures.1 (subst (IsPast (execution row.relation.now) row.writer row.case) (sym (listed a v at)) past))

pub returns-clause-late : goal.returns-clause-late
returns-clause-late c = λ is v at.
    let row = c.args.self.now in
    let a = (goal.at.returns-clause-late c).After-is_past in
    subst (IsPast (execution row.relation.now) row.writer row.case) (listed a v at) (c.is_past.ensures.0 is)
