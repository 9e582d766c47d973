use Rattle.std.proofs.Common.{◌≤◌, ◌∙◌, List, length, sym, ap, subst, arith}
use Rattle.std.specs.Prelude.{All, take}
use Rattle.wm_event.specs.declared.event.EventKey.{EventKey}
use Rattle.wm_event.specs.declared.witness.Witness.{Witness}
use Rattle.wm_event.specs.Shape.{ListsEachOnce}
use Rattle.wm_writers.proofs.ListLemmas.{all-taken}
use Rattle.wm_witness.specs.Offers.{IsFiled}
use Rattle.wm_witness.proofs.NewSplitLaw.{take-whole}
use Rattle.wm_witness.proofs.OffersLaw.{filed-all, filed-kept}
use Rattle.wm_witness.proofs.offers.filed.Goals as goal

abbrev none : EventKey
none = record { thread = 0; number = 0 }

pub loop-key-preserved : goal.loop-key-preserved
loop-key-preserved c =
    let log = c.args.start.now.log in
    let order : List EventKey = c.as_slice-order.result.now in
    let seen = filed-kept log c.loop-key.offers.items c.file.new.offers.items (take c.loop-key.key-index order) c.in_ok-file.ensures.kept c.loop-key.invariant in
    all-taken (IsFiled log c.file.new.offers.items) order c.loop-key.key-index none c.loop-key-test.true seen c.in_ok-file.ensures.filed

pub returns : goal.returns
returns c =
    let log = c.args.start.now.log in
    let order : List EventKey = c.as_slice-order.result.now in
    let P : EventKey → Type 0 = IsFiled log c.loop-key.offers.items in
    let over : length order ≤ c.loop-key.key-index = omega (arith, c.loop-key-test.false) in
    let once : ListsEachOnce log order = subst (ListsEachOnce log) (sym (c.as_slice-order.ensures ∙ ap (λ (w : Witness). w.order) c.witness.ensures.value)) c.witness.ensures.order in
    filed-all log c.loop-key.offers.items order once (subst (All P) (take-whole order c.loop-key.key-index over) c.loop-key.invariant)
