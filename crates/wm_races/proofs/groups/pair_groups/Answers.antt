use Rattle.std.proofs.Common.{◌≡◌, ◌+◌, ◌<◌, length, get_or, Some, slice_get, sym, subst, arith}
use Rattle.std.proofs.lemmas.Option.{slice_get-get_or}
use Rattle.wm_event.specs.declared.writes.ByteWrite.{ByteWrite}
use Rattle.wm_event.specs.Shape.{IsWellShaped}
use Rattle.wm_races.specs.Groups.{AreGroupsOf}
use Rattle.wm_races.proofs.GroupLemmas.{groups_none}
use Rattle.wm_races.proofs.ScanLemmas.{IsOfWrites, of_no_write, one-pair, write_none, write_some, writes_done}
use Rattle.wm_races.proofs.groups.pair_groups.Goals as goal
use Rattle.wm_races.proofs.groups.pair_groups.Goals.{in-Some+in_ok-push, in_default}

pub loop-write-init : goal.loop-write-init
loop-write-init c =
    let run = c.args.before.now in
    let P = IsOfWrites run c.args.place c.args.address c.racing_writes-write-items.result.now 0 in
    record {
      racing = c.racing_writes-write-items.ensures;
      groups = λ sites. subst (AreGroupsOf run sites P) (sym c.new-groups.ensures.items) (groups_none run sites P (λ p racing h. of_no_write run sites c.args.place c.args.address c.racing_writes-write-items.result.now p h));
    }

pub pair_at-requires-clause-write : goal.pair_at-requires-clause-write
pair_at-requires-clause-write c key at_w =
    let i = c.loop-write.write-index in
    let z : ByteWrite = record { address = 0; place = 0 } in
    let items = c.racing_writes-write-items.result.now in
    let inside : i < length items = omega arith in
    c.loop-write.invariant.racing.written i (get_or items i z) key (slice_get-get_or items i z inside) at_w

pub loop-write-preserved : goal.loop-write-preserved
loop-write-preserved c =
    let run = c.args.before.now in
    let shape : IsWellShaped run = subst IsWellShaped c.candidate.ensures.value c.log-log.ensures.shape in
    let j = c.args.place in
    let a = c.args.address in
    let i = c.loop-write.write-index in
    let z : ByteWrite = record { address = 0; place = 0 } in
    let items = c.racing_writes-write-items.result.now in
    let w = get_or items i z in
    let inside : i < length items = omega arith in
    let at : slice_get items i ≡ Some w = slice_get-get_or items i z inside in
    let racing = c.loop-write.invariant.racing in
    elim c.match-pair_at.branch [
      | in-Some+in_ok-push v ↦
          let q = v.in-Some.pair in
          let is = v.in_ok-push.ensures.items in
          record {
            racing = racing;
            groups = λ sites. subst (λ (u : _). AreGroupsOf run sites (IsOfWrites run j a items (i + 1)) u.items) (sym v.groups-is)
                (subst (AreGroupsOf run sites (IsOfWrites run j a items (i + 1))) (sym is)
                (write_some run sites j a items i w at racing.rises q c.loop-write.groups.items v.in-Some.ensures
                (λ p found. one-pair run shape.order c.args.event.now j c.requires.listed c.requires.place a w.place p q found v.in-Some.ensures) (c.loop-write.invariant.groups sites)));
          }
      | in_default v ↦ record {
        racing = racing;
        groups = λ sites. subst (λ (u : _). AreGroupsOf run sites (IsOfWrites run j a items (i + 1)) u.items) (sym v.groups-is)
            (write_none run sites j a items i w at c.loop-write.groups.items v.in_default.ensures (c.loop-write.invariant.groups sites));
      }
    ]

pub returns : goal.returns
returns c sites =
    writes_done c.args.before.now sites c.args.place c.args.address c.racing_writes-write-items.result.now c.loop-write.write-index c.loop-write.groups.items c.loop-write.invariant.racing
    c.loop-write-test.false (c.loop-write.invariant.groups sites)
