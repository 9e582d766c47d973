use Rattle.std.proofs.Common.{◌≡◌, get_or, arith, refl, sym, ◌∙◌}
use Rattle.std.proofs.lemmas.Result.{err_from_is_err_and}
use Rattle.wm_decode.proofs.Fuel.{are_bytes}
use Rattle.wm_decode.proofs.Customs.{customs_none, skips, shrinks, fails}
use Rattle.wm_decode.proofs.section.customs.Goals as goal

pub loop-rest-init : goal.loop-rest-init
loop-rest-init c = record { same = refl; fits = are_bytes c.args.bytes.now (λ i. omega (arith, c.type_inv.bytes i)) }

pub returns-in_err-after : goal.returns-in_err-after
returns-in_err-after c =
    let p = err_from_is_err_and c.from_residual.result c.from_residual.ensures.1 in
    let first : get_or c.loop-rest.rest.now 0 0 ≡ 0 = omega arith in
    rw (p.1, p.2) (fails c.loop-rest.rest.now c.args.bytes.now c.loop-rest.invariant c.in-len1-up.len_at_least first c.in_err-after.field-0.0 c.in_err-after.ensures)

pub loop-rest-smaller : goal.loop-rest-smaller
loop-rest-smaller c =
    let first : get_or c.loop-rest.rest.now 0 0 ≡ 0 = omega arith in
    shrinks c.loop-rest.rest.now c.args.bytes.now c.loop-rest.invariant c.in-len1-up.len_at_least first c.in_ok-after.field-0-0 c.in_ok-after.after.now c.in_ok-after.ensures

pub loop-rest-preserved : goal.loop-rest-preserved
loop-rest-preserved c =
    let first : get_or c.loop-rest.rest.now 0 0 ≡ 0 = omega arith in
    skips c.loop-rest.rest.now c.args.bytes.now c.loop-rest.invariant c.in-len1-up.len_at_least first c.in_ok-after.field-0-0 c.in_ok-after.after.now c.in_ok-after.ensures

pub returns : goal.returns
returns c = sym c.loop-rest.invariant.same ∙ customs_none c.loop-rest.rest.now (λ long h. absurd (omega arith))

pub returns-then-id-byte : goal.returns-then-id-byte
returns-then-id-byte c = sym c.loop-rest.invariant.same ∙ customs_none c.loop-rest.rest.now (λ long h. absurd (omega arith))
