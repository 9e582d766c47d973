use Rattle.std.proofs.Common.{◌≤◌, ◌∙◌, List, get_or, length, sym, ap, subst, arith}
use Rattle.std.specs.Prelude.{All}
use Rattle.wm_event.specs.declared.event.EventKey.{EventKey}
use Rattle.wm_event.specs.declared.witness.Witness.{Witness}
use Rattle.wm_event.specs.Shape.{ListsEachOnce}
use Rattle.wm_writers.proofs.ListLemmas.{all-taken}
use Rattle.wm_witness.specs.Steps.{IsEventSpent}
use Rattle.wm_witness.proofs.NewSplitLaw.{none-holds, nothing-new, take-whole}
use Rattle.wm_witness.proofs.new_split.any_new_split.Goals as goal

pub loop-first-preserved : goal.loop-first-preserved
loop-first-preserved c =
    let log = c.args.start.now.log in
    let assumed = c.args.assumed.now in
    let events : List EventKey = c.as_slice-events.result.now in
    let none : EventKey = record { thread = 0; number = 0 } in
    let first : EventKey = get_or events c.loop-first.first-index none in
    all-taken (IsEventSpent log assumed events) events c.loop-first.first-index none c.loop-first-test.true c.loop-first.invariant
    (none-holds c.new_split_on_event-found.result (IsEventSpent log assumed events first) (sym c.if-is_some.ensures) c.new_split_on_event-found.ensures.none)

pub returns-clause-none : goal.returns-clause-none
returns-clause-none c =
    let log = c.args.start.now.log in
    let assumed = c.args.assumed.now in
    let events : List EventKey = c.as_slice-events.result.now in
    let P : EventKey → Type 0 = IsEventSpent log assumed events in
    let over : length events ≤ c.loop-first.first-index = omega (arith, c.loop-first-test.false) in
    let once : ListsEachOnce log events = subst (ListsEachOnce log) (sym (c.as_slice-events.ensures ∙ ap (λ (w : Witness). w.order) c.witness.ensures.value)) c.witness.ensures.order in
    nothing-new log assumed events once (subst (All P) (take-whole events c.loop-first.first-index over) c.loop-first.invariant)
