use Rattle.std.proofs.Common.{◌≡◌, ◌+◌, ◌<◌, length, get_or, Some, slice_get, sym, subst, ◌∙◌, arith}
use Rattle.std.proofs.lemmas.Bool.{false≢true}
use Rattle.std.proofs.lemmas.Option.{slice_get-get_or}
use Rattle.wm_event.specs.declared.writes.ByteWrite.{ByteWrite}
use Rattle.wm_races.proofs.KindLemmas.{AreFirstMembers, member_less, member_more, members_done, members_none}
use Rattle.wm_races.proofs.classes.members.Goals as goal
use Rattle.wm_races.proofs.classes.members.Goals.{then-is_of_kind+in_ok-push, else-is_of_kind}

pub loop-write-init : goal.loop-write-init
loop-write-init c = subst (AreFirstMembers c.args.candidate.now c.args.sites.now c.args.writes.now c.args.kind 0) (sym c.new-places.ensures) (members_none c.args.candidate.now c.args.sites.now c.args.writes.now c.args.kind)

pub loop-write-preserved : goal.loop-write-preserved
loop-write-preserved c =
    let run = c.args.candidate.now in
    let sites = c.args.sites.now in
    let writes = c.args.writes.now in
    let kind = c.args.kind in
    let i = c.loop-write.write-index in
    let z : ByteWrite = record { address = 0; place = 0 } in
    let w = get_or writes i z in
    let inside : i < length writes = omega arith in
    let at : slice_get writes i ≡ Some w = slice_get-get_or writes i z inside in
    elim c.if-is_of_kind.branch [
      | then-is_of_kind+in_ok-push v ↦ subst (AreFirstMembers run sites writes kind (i + 1)) (sym (v.places-is ∙ v.in_ok-push.ensures.ok))
          (member_more run sites writes kind i c.loop-write.places w at c.loop-write.invariant c.requires.rises (c.is_of_kind.ensures.0 v.if-is_of_kind.true))
      | else-is_of_kind v ↦ subst (AreFirstMembers run sites writes kind (i + 1)) (sym v.places-is)
          (member_less run sites writes kind i c.loop-write.places w at c.loop-write.invariant (λ h. false≢true (sym v.if-is_of_kind.false ∙ c.is_of_kind.ensures.1 h)))
    ]

pub returns : goal.returns
returns c = members_done c.args.candidate.now c.args.sites.now c.args.writes.now c.args.kind c.loop-write.write-index c.loop-write.places c.loop-write-test.false c.loop-write.invariant
