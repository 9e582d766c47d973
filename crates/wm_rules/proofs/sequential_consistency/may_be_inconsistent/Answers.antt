use Rattle.std.proofs.Common.{◌≡◌, ◌<◌, Bool, IsTrue, not, List, Some, length, slice_get, subst, sym, rules}
use Rattle.std.specs.List.{filter}
use Rattle.std.proofs.lemmas.Bool.{both_ways}
use Rattle.wm_event.specs.declared.event.Event.{Event}
use Rattle.wm_event.specs.declared.writes.ByteWrite.{ByteWrite}
use Rattle.wm_event.specs.AtomicWrites.{begins_atomic}
use Rattle.wm_event.specs.Event.{key_of, range_of}
use Rattle.wm_event.specs.Execution.{event_at}
use Rattle.wm_event.specs.LoggedRun.{LoggedRun, execution}
use Rattle.wm_event.specs.Rules.{Overtakes}
use Rattle.wm_event.specs.Shape.{ListsEachOnce}
use Rattle.wm_event.specs.Writes.{listed_from}
use Rattle.wm_hb.specs.Between.{Rises, stands_between}
use Rattle.wm_rules.specs.Between.{IsPlaceOf}
use Rattle.wm_rules.proofs.BetweenLemmas.{writes_rise}
use Rattle.wm_rules.proofs.NearLemmas.{atomic_write_between, not_empty}
use Rattle.wm_rules.proofs.sequential_consistency.may_be_inconsistent.Goals as goal

pub returns-then-not-can_be_overtaken : goal.returns-then-not-can_be_overtaken
returns-then-not-can_be_overtaken c = λ v case breaks.
    let over = subst (λ (run : LoggedRun). Overtakes (execution run) c.args.writer v (key_of c.args.event.now) c.args.event.now case) (sym c.candidate-candidate.ensures.value) breaks.overtakes in
    absurd (both_ways c.can_be_overtaken.result (search rules) (c.can_be_overtaken.ensures v case over))

pub part_between-requires : goal.part_between-requires
part_between-requires c =
    subst (λ (xs : List ByteWrite). Rises xs) (sym c.atomic_writes-writes.ensures) (writes_rise (begins_atomic c.candidate-candidate.result.now.log c.range.result.width c.range.result.address) c.range.result.address c.candidate-candidate.result.now.witness.order)

pub returns : goal.returns
returns c = λ v case breaks.
    let run = c.args.relation.now in
    let e = c.args.event.now in
    let once : ListsEachOnce run.log run.witness.order = search rules in
    let is : IsPlaceOf run.witness.order c.place-2.result c.args.writer = search rules in
    let at : slice_get run.witness.order c.in-Some.end ≡ Some (key_of e) = search rules in
    let range : (f : Event) → event_at (execution run) c.args.writer ≡ Some f → range_of e ≡ range_of f =
    λ f there. c.has_range_if_listed.ensures (search rules) f (subst (λ (r : LoggedRun). event_at (execution r) c.args.writer ≡ Some f) (sym c.candidate-candidate.ensures.value) there) in
    let same : c.part_between.result.now ≡ filter (stands_between c.in-Some-place_after.first c.in-Some.end) (listed_from (begins_atomic run.log (range_of e).width (range_of e).address) (range_of e).address 0 run.witness.order) =
    cc (c.part_between.ensures, c.atomic_writes-writes.ensures, c.candidate-candidate.ensures.value, c.range.ensures) in
    let some : 0 < length c.part_between.result.now =
    atomic_write_between run once e c.args.writer v case c.place-2.result c.in-Some.end c.in-Some-place_after.first is at c.in-Some-place_after.ensures.1 range breaks c.part_between.result.now same in
    subst (λ (b : Bool). IsTrue (not b)) (sym c.is_empty.ensures) (not_empty (length c.part_between.result.now) some)
