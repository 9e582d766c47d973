use Rattle.std.proofs.Common.{◌≡◌, length, get_or, arith, ◌∙◌, inl, inr, ◌⊎◌}
use Rattle.std.proofs.lemmas.Result.{err_from_is_err_and}
use Rattle.wm_decode.proofs.Fuel.{are_bytes}
use Rattle.wm_decode.proofs.SoFar.{starts, goes_on, fails, closes, is_short, shrinks}
use Rattle.wm_decode.proofs.Placed.{placed}
use Rattle.wm_decode.proofs.body.+body.Goals as goal

pub instrs-loop-rest-init : goal.instrs-loop-rest-init
instrs-loop-rest-init t c = rw c.new-found.ensures (starts c.args.depth_left c.args.blocks.now.items c.args.bytes.now (are_bytes c.args.bytes.now (λ i. omega (arith, c.type_inv.bytes i))))

pub instrs-returns-then-op-eq-END : goal.instrs-returns-then-op-eq-END
instrs-returns-then-op-eq-END t c =
    let s = c.loop-rest.invariant in
    let which = elim c.then-op-eq-END.either as (λ _. (get_or c.loop-rest.rest.now 0 0 ≡ 0x0B) ⊎ (get_or c.loop-rest.rest.now 0 0 ≡ 0x05)) [ inl h ↦ inl h | inr h ↦ inr h.1 ] in
    (s.begun, s.grows, closes c.args.depth_left c.args.blocks.now.items c.loop-rest.blocks.items c.args.bytes.now c.loop-rest.rest.now c.loop-rest.found s c.in-len1-up.len_at_least which)

pub instrs-returns-in_err-one : goal.instrs-returns-in_err-one
instrs-returns-in_err-one t c =
    let p = err_from_is_err_and c.from_residual.result c.from_residual.ensures.1 in
    rw (p.1, p.2) (fails c.in_err-one.field-0.0 c.args.depth_left c.args.blocks.now.items c.loop-rest.blocks.items c.args.bytes.now c.loop-rest.rest.now c.loop-rest.found c.loop-rest.invariant c.in-len1-up.len_at_least
    c.if-op-eq-END.false c.if-op-eq-ELSE.false c.in_err-one.ensures)

pub instrs-loop-rest-smaller : goal.instrs-loop-rest-smaller
instrs-loop-rest-smaller t c =
    let s = c.loop-rest.invariant in
    let e = c.in_ok-one.ensures in
    shrinks c.args.depth_left c.args.blocks.now.items c.loop-rest.blocks.items c.args.bytes.now c.loop-rest.rest.now c.loop-rest.found s c.in-len1-up.len_at_least c.in_ok-one.one e.0 c.in_ok-one.after.now e.2

pub instrs-loop-rest-preserved : goal.instrs-loop-rest-preserved
instrs-loop-rest-preserved t c =
    let s = c.loop-rest.invariant in
    let e = c.in_ok-one.ensures in
    rw c.in_ok-push.ensures.ok (goes_on c.args.depth_left c.args.blocks.now.items c.loop-rest.blocks.items c.instr.new.blocks.items c.args.bytes.now c.loop-rest.rest.now c.loop-rest.found s c.in-len1-up.len_at_least
    c.if-op-eq-END.false c.if-op-eq-ELSE.false c.in_ok-one.one e.0 c.in_ok-one.after.now e.1 e.2)

pub instrs-returns : goal.instrs-returns
instrs-returns t c = is_short c.args.depth_left c.args.blocks.now.items c.loop-rest.blocks.items c.args.bytes.now c.loop-rest.rest.now c.loop-rest.found c.loop-rest.invariant (omega arith)

pub nested-returns : goal.nested-returns
nested-returns t c =
    let e = c.in_ok-body.ensures in
    let number-is : c.len-number.result ≡ length c.args.blocks.now.items = c.len-number.ensures ∙ c.args.blocks.now.ok.0 in
    let p = placed c.args.depth_left c.args.blocks.now.items c.push.new.self.items c.instrs.new.blocks.items c.args.bytes.now c.new.result c.in_ok-body.body e.0 c.len-number.result c.in_ok-body.closer c.in_ok-body.rest.now
    number-is c.in_ok-push.ensures.items e.1 e.2 in
    (p.b, number-is, p.put, p.read, p.closer_is, p.rest_is)
