use Rattle.std.proofs.Common.{◌≡◌, ◌+◌, ◌<◌, List, length, get_or, Some, slice_get, sym, subst, ◌∙◌, arith}
use Rattle.std.proofs.lemmas.Bool.{false≢true}
use Rattle.std.proofs.lemmas.Option.{same_Some, slice_get-get_or}
use Rattle.wm_event.specs.declared.writes.ByteWrite.{ByteWrite}
use Rattle.wm_races.specs.Classes.{AreKinds, IsAmong, kind_of}
use Rattle.wm_races.specs.declared.classes.Kind.{Kind}
use Rattle.wm_races.proofs.ListLemmas.{none_some}
use Rattle.wm_races.proofs.KindLemmas.{kinds_all, kinds_known, kinds_more, kinds_none}
use Rattle.wm_races.proofs.classes.kinds_of.Goals as goal

pub loop-write-init : goal.loop-write-init
loop-write-init c = subst (AreKinds c.args.candidate.now c.args.sites.now c.args.writes.now 0) (sym c.new-kinds.ensures) (kinds_none c.args.candidate.now c.args.sites.now c.args.writes.now)

pub loop-write-preserved-in_default : goal.loop-write-preserved-in_default
loop-write-preserved-in_default c =
    let run = c.args.candidate.now in
    let sites = c.args.sites.now in
    let writes = c.args.writes.now in
    let i = c.loop-write.write-index in
    let z : ByteWrite = record { address = 0; place = 0 } in
    let w = get_or writes i z in
    let inside : i < length writes = omega arith in
    let at : slice_get writes i ≡ Some w = slice_get-get_or writes i z inside in
    kinds_known run sites writes i c.loop-write.kinds w at c.loop-write.invariant (λ kind is. absurd (none_some (kind_of run sites w.place) kind (sym c.kind_of.ensures ∙ c.in_default.is) is))

pub loop-write-preserved-then-has_kind : goal.loop-write-preserved-then-has_kind
loop-write-preserved-then-has_kind c =
    let run = c.args.candidate.now in
    let sites = c.args.sites.now in
    let writes = c.args.writes.now in
    let i = c.loop-write.write-index in
    let z : ByteWrite = record { address = 0; place = 0 } in
    let w = get_or writes i z in
    let inside : i < length writes = omega arith in
    let at : slice_get writes i ≡ Some w = slice_get-get_or writes i z inside in
    let has : IsAmong c.loop-write.kinds c.in-Some.kind = subst (λ (ks : List Kind). IsAmong ks c.in-Some.kind) c.as_slice.ensures (c.has_kind.ensures.0 c.if-has_kind.true) in
    kinds_known run sites writes i c.loop-write.kinds w at c.loop-write.invariant
    (λ kind is. subst (IsAmong c.loop-write.kinds) (same_Some c.in-Some.kind kind (sym (sym c.kind_of.ensures ∙ c.in-Some.is) ∙ is)) has)

pub loop-write-preserved : goal.loop-write-preserved
loop-write-preserved c =
    let run = c.args.candidate.now in
    let sites = c.args.sites.now in
    let writes = c.args.writes.now in
    let i = c.loop-write.write-index in
    let z : ByteWrite = record { address = 0; place = 0 } in
    let w = get_or writes i z in
    let inside : i < length writes = omega arith in
    let at : slice_get writes i ≡ Some w = slice_get-get_or writes i z inside in
    let kind = c.in-Some.kind in
    subst (AreKinds run sites writes (i + 1)) (sym c.in_ok-push.ensures.ok)
    (kinds_more run sites writes i c.loop-write.kinds w at c.loop-write.invariant kind (sym c.kind_of.ensures ∙ c.in-Some.is)
    (λ h. false≢true (sym c.if-has_kind.false ∙ c.has_kind.ensures.1 (subst (λ (ks : List Kind). IsAmong ks kind) (sym c.as_slice.ensures) h))))

pub returns : goal.returns
returns c = kinds_all c.args.candidate.now c.args.sites.now c.args.writes.now c.loop-write.write-index c.loop-write.kinds c.loop-write-test.false c.loop-write.invariant
