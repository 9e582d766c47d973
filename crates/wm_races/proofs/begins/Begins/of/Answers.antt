use Rattle.std.proofs.Common.{◌≡◌, ◌<◌, ◌≤◌, IsSome, Some, get_or, length, slice_get, sym, ap, subst, ◌∙◌, ⊎_elim, arith, rules}
use Rattle.std.proofs.lemmas.Bool.{cases_lt}
use Rattle.std.proofs.lemmas.Option.{get_or_from_slice_get, slice_get_within}
use Rattle.wm_event.specs.declared.event.EventKey.{EventKey}
use Rattle.wm_event.specs.Log.{event_in}
use Rattle.wm_races.specs.Window.{IsAmongBegins}
use Rattle.wm_races.proofs.begins.Begins.of.Goals as goal
use Rattle.wm_races.proofs.begins.Begins.of.Goals.{in-Some+then-writes+in_ok-add, in-Some+else-writes, in_default}

pub loop-key-preserved : goal.loop-key-preserved
loop-key-preserved c n key e l at there does =
    let k = c.loop-key.key-index in
    let items = c.as_slice-key-items.result.now in
    let d : EventKey = record { thread = 0; number = 0 } in
    ⊎_elim
    (λ (h : n < k).
    let old = c.loop-key.invariant n key e h at there does in
    elim c.match-event.branch [
      | in-Some+then-writes+in_ok-add w ↦ subst (λ b. IsAmongBegins b e.address) (sym w.begins-is) (w.in_ok-add.ensures.old e.address old)
      | in-Some+else-writes w ↦ subst (λ b. IsAmongBegins b e.address) (sym w.begins-is) old
      | in_default w ↦ subst (λ b. IsAmongBegins b e.address) (sym w.begins-is) old
    ])
    (λ (h : k ≤ n).
    let same : n ≡ k = omega (arith, h, l) in
    let here : slice_get items k ≡ Some key = ap (slice_get items) (sym same) ∙ at in
    let named : get_or items k d ≡ key = get_or_from_slice_get items k key d here in
    let found : event_in c.args.candidate.now.log (get_or items k d) ≡ Some e = ap (event_in c.args.candidate.now.log) named ∙ there in
    elim c.match-event.branch [
      | in-Some+then-writes+in_ok-add w ↦
          let address : w.from.result ≡ e.address = search rules in
          subst (λ b. IsAmongBegins b e.address) (sym w.begins-is) (subst (IsAmongBegins w.add.new.self) address w.in_ok-add.ensures.new)
      | in-Some+else-writes w ↦ absurd (search rules)
      | in_default w ↦ absurd (search rules)
    ])
    (cases_lt n k)

pub returns : goal.returns
returns c key e there does =
    let items = c.as_slice-key-items.result.now in
    let some : IsSome (event_in c.args.candidate.now.log key) = search rules in
    let n = c.witness.ensures.order.listed key some in
    let at : slice_get items n.0 ≡ Some key = search rules in
    let inside : n.0 < length items = slice_get_within items n.0 key at in
    let end : length items ≤ c.loop-key.key-index = c.loop-key-test.false in
    c.loop-key.invariant n.0 key e (omega (arith, inside, end)) at there does
