use Rattle.std.proofs.Common.{◌≡◌, ◌<◌, ◌≤◌, length, Some, slice_get, refl, sym, ap, ◌∙◌, arith, ⊎_elim}
use Rattle.std.proofs.lemmas.Bool.{cases_lt, false≢true}
use Rattle.std.proofs.lemmas.Option.{get_or_from_slice_get, slice_get-get_or, slice_get_within}
use Rattle.wm_races.proofs.classes.has_kind.Goals as goal

pub returns-then-is_same : goal.returns-then-is_same
returns-then-is_same c =
    let i = c.loop-other.other-index in
    let kinds = c.args.kinds.now in
    let inside : i < length kinds = omega arith in
    ((λ t. (i, slice_get-get_or kinds i _ inside ∙ ap Some (c.is_same.ensures.0 c.if-is_same.true))), (λ h. refl))

pub loop-other-preserved : goal.loop-other-preserved
loop-other-preserved c n l at =
    let i = c.loop-other.other-index in
    let kinds = c.args.kinds.now in
    ⊎_elim
    (λ (h : n < i). c.loop-other.invariant n h at)
    (λ (h : i ≤ n).
    let e : n ≡ i = omega (arith, h, l) in
    false≢true (sym c.if-is_same.false ∙ c.is_same.ensures.1 (get_or_from_slice_get kinds i c.args.kind _ (ap (slice_get kinds) (sym e) ∙ at))))
    (cases_lt n i)

pub returns : goal.returns
returns c =
    let end = c.loop-other-test.false in
    ((λ t. absurd (false≢true t)), (λ h. let w = slice_get_within c.args.kinds.now h.0 c.args.kind h.1 in absurd (c.loop-other.invariant h.0 (omega (arith, w, end)) h.1)))
