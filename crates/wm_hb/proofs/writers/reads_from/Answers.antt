use Rattle.std.proofs.Common.{◌≡◌, ◌∙◌, ◌<◌, Some, ap, arith, below_more, false, get_or, length, refl, slice_get, subst, sym, true}
use Rattle.std.proofs.lemmas.Grind.{common_steps}
use Rattle.std.proofs.lemmas.Option.{same_Some, slice_get-get_or, slice_get_within}
use Rattle.wm_event.specs.declared.event.EventId.TheVariants.{Init}
use Rattle.wm_hb.proofs.writers.reads_from.Goals as goal

pub loop-from-preserved : goal.loop-from-preserved
loop-from-preserved c =
    let items = c.writers-from-items.result.now in
    let k = c.loop-from.from-index in
    let here = slice_get-get_or items k Init c.loop-from-test.true in
    below_more _ _ c.loop-from.invariant (λ is.
    let same : get_or items k Init ≡ c.args.writer = same_Some _ _ (sym here ∙ is) in
    grind (arith, common_steps))

pub returns-then-eq : goal.returns-then-eq
returns-then-eq c =
    let items = c.writers-from-items.result.now in
    let k = c.loop-from.from-index in
    let same : get_or items k Init ≡ c.args.writer = grind (arith, common_steps) in
    let at : slice_get items k ≡ Some c.args.writer = slice_get-get_or items k Init c.loop-from-test.true ∙ ap Some same in
    (λ _. (k, subst (λ writers. slice_get writers k ≡ Some c.args.writer) c.writers-from-items.ensures.value at), λ _. refl)

pub returns : goal.returns
returns c =
    let items = c.writers-from-items.result.now in (
      λ (t : false ≡ true). absurd (cc),
      λ r.
          let at : slice_get items r.0 ≡ Some c.args.writer = subst (λ writers. slice_get writers r.0 ≡ Some c.args.writer) (sym c.writers-from-items.ensures.value) r.1 in
          let within : r.0 < length items = slice_get_within items r.0 c.args.writer at in
          absurd (c.loop-from.invariant r.0 (omega (arith, within, c.loop-from-test.false)) at),
    )
