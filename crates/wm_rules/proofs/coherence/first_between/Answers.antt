use Rattle.std.proofs.Common.{◌≡◌, ◌+◌, List, Some, slice_get, subst, sym, rules, arith}
use Rattle.wm_event.specs.declared.writes.ByteWrite.{ByteWrite}
use Rattle.std.specs.List.{filter}
use Rattle.std.specs.Prelude.{unwrap_or}
use Rattle.wm_event.specs.declared.event.EventKey.{EventKey}
use Rattle.wm_event.specs.declared.event.EventId.TheVariants.{At}
use Rattle.wm_event.specs.Event.{key_of}
use Rattle.wm_event.specs.LoggedRun.{execution}
use Rattle.wm_event.specs.Rules.{KeepsOrder}
use Rattle.wm_event.specs.Shape.{ListsEachOnce}
use Rattle.wm_event.specs.Writes.{writes_byte, writes_from}
use Rattle.wm_hb.specs.Between.{Rises, stands_between}
use Rattle.wm_rules.specs.Between.{IsPlaceOf}
use Rattle.wm_rules.specs.Others.{IsWrittenBetween, WritesBetween}
use Rattle.wm_rules.proofs.Before.{before_from}
use Rattle.wm_rules.proofs.BetweenLemmas.{found_none, found_some, none_written, writes_rise}
use Rattle.wm_rules.proofs.CoherenceLemmas.{covers_written}
use Rattle.wm_rules.proofs.ThreadLemmas.{earliest_listed}
use Rattle.wm_rules.proofs.coherence.first_between.Goals as goal

pub part_between-part-requires : goal.part_between-part-requires
part_between-part-requires c =
    subst (λ (xs : List ByteWrite). Rises xs) (sym c.byte_writes-writes.ensures) (writes_rise (writes_byte c.candidate-candidate.result.now.log (c.from.result + c.from-2.result)) (c.from.result + c.from-2.result) c.candidate-candidate.result.now.witness.order)

pub returns-then-part-gt-FEW-clause-first : goal.returns-then-part-gt-FEW-clause-first
returns-then-part-gt-FEW-clause-first c =
    let once : ListsEachOnce c.args.relation.now.log c.args.relation.now.witness.order = search rules in
    earliest_listed c.args.relation.now once (WritesBetween c.args.relation.now c.args.event.now c.args.byte c.args.writer) (λ v h. before_from c.args.relation.now (At v) (At (key_of c.args.event.now)) h.before) c.earliest_between.result c.earliest_between.ensures

pub returns-then-is_some-clause-first : goal.returns-then-is_some-clause-first
returns-then-is_some-clause-first c =
    let run = c.args.relation.now in
    let e = c.args.event.now in
    let same : c.part_between-part.result.now ≡ filter (stands_between (unwrap_or c.place-start.result 0) c.in-Some.end) (writes_from run.log (e.address + c.args.byte) 0 run.witness.order) =
    cc (c.part_between-part.ensures, c.byte_writes-writes.ensures, c.candidate-candidate.ensures.value, c.from.ensures, c.from-2.ensures, c.unwrap_or.ensures) in
    let is : IsPlaceOf run.witness.order c.place-start.result c.args.writer = search rules in
    let at : slice_get run.witness.order c.in-Some.end ≡ Some (key_of e) = search rules in
    let once : ListsEachOnce run.log run.witness.order = search rules in
    let agrees : KeepsOrder (execution run) = search rules in
    let all = covers_written run once agrees e c.args.byte c.args.writer c.place-start.result c.in-Some.end c.part_between-part.result.now is at same in
    found_some run.witness.order c.part_between-part.result.now (λ (key : EventKey). IsWrittenBetween (execution run) (key_of e) e c.args.byte c.args.writer (At key)) all c.loop-write.write-index (record { address = 0; place = 0 }) (omega arith)
    c.written_between_at-found.result (search rules) c.written_between_at-found.ensures c.loop-write.invariant

pub loop-write-preserved : goal.loop-write-preserved
loop-write-preserved c =
    let run = c.args.relation.now in
    let e = c.args.event.now in
    let same : c.part_between-part.result.now ≡ filter (stands_between (unwrap_or c.place-start.result 0) c.in-Some.end) (writes_from run.log (e.address + c.args.byte) 0 run.witness.order) =
    cc (c.part_between-part.ensures, c.byte_writes-writes.ensures, c.candidate-candidate.ensures.value, c.from.ensures, c.from-2.ensures, c.unwrap_or.ensures) in
    let is : IsPlaceOf run.witness.order c.place-start.result c.args.writer = search rules in
    let at : slice_get run.witness.order c.in-Some.end ≡ Some (key_of e) = search rules in
    let once : ListsEachOnce run.log run.witness.order = search rules in
    let agrees : KeepsOrder (execution run) = search rules in
    let all = covers_written run once agrees e c.args.byte c.args.writer c.place-start.result c.in-Some.end c.part_between-part.result.now is at same in
    found_none run.witness.order c.part_between-part.result.now (λ (key : EventKey). IsWrittenBetween (execution run) (key_of e) e c.args.byte c.args.writer (At key)) all c.loop-write.write-index (record { address = 0; place = 0 }) (omega arith)
    c.written_between_at-found.result (search rules) c.written_between_at-found.ensures c.loop-write.invariant

pub returns-clause-first : goal.returns-clause-first
returns-clause-first c =
    let run = c.args.relation.now in
    let e = c.args.event.now in
    let same : c.part_between-part.result.now ≡ filter (stands_between (unwrap_or c.place-start.result 0) c.in-Some.end) (writes_from run.log (e.address + c.args.byte) 0 run.witness.order) =
    cc (c.part_between-part.ensures, c.byte_writes-writes.ensures, c.candidate-candidate.ensures.value, c.from.ensures, c.from-2.ensures, c.unwrap_or.ensures) in
    let is : IsPlaceOf run.witness.order c.place-start.result c.args.writer = search rules in
    let at : slice_get run.witness.order c.in-Some.end ≡ Some (key_of e) = search rules in
    let once : ListsEachOnce run.log run.witness.order = search rules in
    let agrees : KeepsOrder (execution run) = search rules in
    let all = covers_written run once agrees e c.args.byte c.args.writer c.place-start.result c.in-Some.end c.part_between-part.result.now is at same in
    none_written run.witness.order c.part_between-part.result.now (λ (key : EventKey). IsWrittenBetween (execution run) (key_of e) e c.args.byte c.args.writer (At key)) all c.loop-write.write-index (omega arith) c.loop-write.invariant
