use Rattle.std.proofs.Common.{◌+◌, ◌<◌, List, Option, length, sym, subst, arith}
use Rattle.std.specs.Prelude.{IfSome}
use Rattle.std.proofs.lemmas.Option.{slice_get-get_or}
use Rattle.wm_event.specs.declared.writes.ByteWrite.{ByteWrite}
use Rattle.wm_event.specs.Writes.{writes_byte, writes_from}
use Rattle.wm_event.proofs.WritesLemmas.{rises_from}
use Rattle.wm_hb.specs.Between.{Rises}
use Rattle.wm_races.specs.Classes.{AreKinds}
use Rattle.wm_races.specs.declared.classes.Kind.{Kind}
use Rattle.wm_races.proofs.KindLemmas.{AreFirstClasses, are_classes, first_more, first_none, of_sites}
use Rattle.wm_races.proofs.classes.classes_of.Goals as goal
use Rattle.wm_races.proofs.classes.classes_of.Goals.{After-as_slice-kind-items}

pub loop-kind-init : goal.loop-kind-init
loop-kind-init c =
    let run = c.args.candidate.now in
    let items = c.as_slice-kind-items.result.now in
    subst (AreFirstClasses run c.args.sites.now c.byte_writes-writes.result.now items 0) (sym c.new-classes.ensures) (first_none run c.args.sites.now c.byte_writes-writes.result.now items)

pub members-requires-clause-rises : goal.members-requires-clause-rises
members-requires-clause-rises c =
    let run = c.args.candidate.now in
    let a = c.args.address in
    subst Rises (sym c.byte_writes-writes.ensures) (λ m n v w l at_v at_w. rises_from (writes_byte run.log a) a 0 run.witness.order m n v w l at_v at_w)

pub loop-kind-preserved : goal.loop-kind-preserved
loop-kind-preserved c =
    let run = c.args.candidate.now in
    let sites = c.args.sites.now in
    let writes = c.byte_writes-writes.result.now in
    let items = c.as_slice-kind-items.result.now in
    let i = c.loop-kind.kind-index in
    let inside : i < length items = omega arith in
    subst (AreFirstClasses run sites writes items (i + 1)) (sym c.in_ok-push.ensures.ok)
    (first_more run sites writes items i c.loop-kind.classes _ c.in_ok-places.places (slice_get-get_or items i _ inside) c.in_ok-places.ensures c.loop-kind.invariant)

kinds : (c : After-as_slice-kind-items) → (let all = writes_from c.args.candidate.now.log c.args.address 0 c.args.candidate.now.witness.order in AreKinds c.args.candidate.now c.args.sites.now all (length all) c.as_slice-kind-items.result.now)
kinds c =
    let run = c.args.candidate.now in
    let sites = c.args.sites.now in
    let writes = c.byte_writes-writes.result.now in
    let known : AreKinds run sites writes (length writes) c.in-Some.kinds = subst (λ (o : Option (List Kind)). IfSome o (AreKinds run sites writes (length writes))) c.in-Some.is c.in_ok-kinds.ensures in
    subst (λ (ws : List ByteWrite). AreKinds run sites ws (length ws) c.as_slice-kind-items.result.now) c.byte_writes-writes.ensures
    (subst (AreKinds run sites writes (length writes)) (sym c.as_slice-kind-items.ensures) known)

pub returns-clause-classes : goal.returns-clause-classes
returns-clause-classes c =
    let a = (goal.at.returns-clause-classes c).After-as_slice-kind-items in
    let run = c.args.candidate.now in
    let items = c.as_slice-kind-items.result.now in
    are_classes run c.args.sites.now c.log-log.ensures.shape.order c.args.address items c.loop-kind.kind-index c.loop-kind.classes (kinds a) c.loop-kind-test.false
    (subst (λ (ws : List ByteWrite). AreFirstClasses run c.args.sites.now ws items c.loop-kind.kind-index c.loop-kind.classes) c.byte_writes-writes.ensures c.loop-kind.invariant)

pub returns-clause-sites : goal.returns-clause-sites
returns-clause-sites c =
    let a = (goal.at.returns-clause-sites c).After-as_slice-kind-items in
    let run = c.args.candidate.now in
    let items = c.as_slice-kind-items.result.now in
    of_sites run c.args.sites.now c.log-log.ensures.shape.order c.args.address items c.loop-kind.kind-index c.loop-kind.classes (kinds a) c.loop-kind-test.false
    (subst (λ (ws : List ByteWrite). AreFirstClasses run c.args.sites.now ws items c.loop-kind.kind-index c.loop-kind.classes) c.byte_writes-writes.ensures c.loop-kind.invariant)
