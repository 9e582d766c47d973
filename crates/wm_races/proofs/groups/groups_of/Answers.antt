use Rattle.std.proofs.Common.{◌≡◌, ◌+◌, ◌*◌, ◌≤◌, ℕ, ◌++◌, Some, length, get_or, slice_get, sym, ap, subst, ◌∙◌, rules, arith}
use Rattle.std.specs.Prelude.{sum_by}
use Rattle.std.proofs.lemmas.List.Sums.{sum_by-append}
use Rattle.std.proofs.lemmas.Option.{slice_get-get_or}
use Rattle.std.proofs.Math.Nat.{mul-le-mul_right}
use Rattle.wm_event.specs.declared.event.EventKey.{EventKey}
use Rattle.wm_event.specs.Event.{key_of}
use Rattle.wm_event.specs.Log.{HasKeys, event_in}
use Rattle.wm_event.specs.LoggedRun.{LoggedRun}
use Rattle.wm_event.specs.Shape.{IsWellShaped, ListsEachOnce}
use Rattle.wm_hb.proofs.ThreadLemmas.{named_so}
use Rattle.wm_races.specs.Groups.{AreGroupsOf, IsAtByte, size_of}
use Rattle.wm_races.proofs.GroupLemmas.{few_groups}
use Rattle.wm_races.proofs.ScanLemmas.{IsBelowByte, byte_done, byte_init, byte_more, few_bytes}
use Rattle.wm_races.proofs.groups.groups_of.Goals as goal
use Rattle.wm_races.proofs.groups.groups_of.Goals.{After-bytes-byte-end, in-Some-at+in_ok-found-in-Some-at, in-None+in_ok-found-in-None}

once : (c : After-bytes-byte-end) → ListsEachOnce c.args.before.now.log c.args.before.now.witness.order
once c = (subst IsWellShaped c.candidate-candidate.ensures.value c.log-log.ensures.shape).order

named : (c : After-bytes-byte-end) → (slice_get c.args.before.now.witness.order c.args.place ≡ Some (key_of c.in-Some.event.now)) × (event_in c.args.before.now.log (key_of c.in-Some.event.now) ≡ Some c.in-Some.event.now)
named c =
    let run = c.args.before.now in
    let e = c.in-Some.event.now in
    let j = c.args.place in
    let d : EventKey = record { thread = 0; number = 0 } in
    let keys : HasKeys run.log = subst (λ (x : LoggedRun). HasKeys x.log) c.candidate-candidate.ensures.value c.log-log.ensures.shape.keys in
    let at_key : slice_get run.witness.order j ≡ Some (get_or run.witness.order j d) = slice_get-get_or run.witness.order j d c.requires.place in
    let there : event_in run.log (get_or run.witness.order j d) ≡ Some e = search rules in
    let same : key_of e ≡ get_or run.witness.order j d = named_so run.log keys (get_or run.witness.order j d) e there in
    (at_key ∙ ap Some (sym same), ap (event_in run.log) same ∙ there)

pub loop-byte-init : goal.loop-byte-init
loop-byte-init c sites has =
    let run = c.args.before.now in
    let j = c.args.place in
    let e = c.in-Some.event.now in
    let n = named c in
    let none = sym c.new-groups.ensures in (
      subst (AreGroupsOf run sites (IsBelowByte run j (e.address + 0))) none (byte_init run (once c) e j n.1 n.0 sites),
      (let size = ap (sum_by size_of) none in omega (arith, size)),
    )

pub loop-byte-preserved : goal.loop-byte-preserved
loop-byte-preserved c sites has =
    let a0 = (goal.at.loop-byte-preserved c).After-bytes-byte-end in
    let run = c.args.before.now in
    let j = c.args.place in
    let e = c.in-Some.event.now in
    let a = c.from.result + c.from-in-loop-byte.result in
    let before = c.loop-byte.invariant sites has in
    let found : AreGroupsOf run sites (IsAtByte run j a) c.match-at.found.items = elim c.match-at.branch [
      | in-Some-at+in_ok-found-in-Some-at w ↦ subst (λ (v : _). AreGroupsOf run sites (IsAtByte run j a) v.items) (sym w.found-is)
          (w.in_ok-found-in-Some-at.ensures sites (has a w.in-Some-at.classes.now w.in-Some-at.ensures))
      | in-None+in_ok-found-in-None w ↦ subst (λ (v : _). AreGroupsOf run sites (IsAtByte run j a) v.items) (sym w.found-is) (w.in_ok-found-in-None.ensures sites)
    ] in
    let few = few_groups run sites (once a0) j a c.match-at.found.items found in
    let first = c.from.ensures in
    let offset = c.from-in-loop-byte.ensures in
    let address : a ≡ e.address + c.loop-byte.byte = omega (arith, first, offset) in
    let more = byte_more run sites j a c.loop-byte.groups c.match-at.found.items (subst (λ (b : ℕ). AreGroupsOf run sites (IsBelowByte run j b) c.loop-byte.groups) (sym address) before.0) found in
    let is : c.in_ok-groups.groups ≡ c.loop-byte.groups ++ c.match-at.found.items = c.in_ok-groups.ensures in
    let next : a + 1 ≡ e.address + (c.loop-byte.byte + 1) = omega (arith, address) in
    let size = ap (sum_by size_of) is ∙ sum_by-append size_of c.loop-byte.groups c.match-at.found.items in
    let old = before.1 in (
      subst (λ (b : ℕ). AreGroupsOf run sites (IsBelowByte run j b) c.in_ok-groups.groups) next (subst (AreGroupsOf run sites (IsBelowByte run j (a + 1))) (sym is) more),
      omega (arith, few, size, old),
    )

pub returns : goal.returns
returns c sites has =
    let a0 = (goal.at.returns c).After-bytes-byte-end in
    let run = c.args.before.now in
    let e = c.in-Some.event.now in
    let n = named a0 in
    let bytes = c.bytes-byte-end.ensures in
    let last = c.loop-byte.invariant sites has in
    let few = last.1 in
    let end = c.loop-byte.auto.byte-end in
    let eight = few_bytes e.width in
    let most : c.loop-byte.byte * length run.witness.order ≤ 8 * length run.witness.order = mul-le-mul_right (length run.witness.order) (omega (arith, end, bytes, eight)) in
    record {
      groups_of = byte_done run (once a0) e c.args.place n.1 n.0 sites c.loop-byte.byte c.loop-byte.groups (omega (arith, bytes)) last.0;
      few = omega (arith, few, most);
    }
