use Rattle.std.proofs.Common.{◌≡◌, ◌-◌, ◌++◌, [], ℕ, ap, ◌∙◌, length, subst, Ok}
use Rattle.std.proofs.lemmas.Result.{err_from_is_err_and}
use Rattle.wm_ast.specs.declared.types.ValType.{ValType}
use Rattle.wm_decode.specs.Implements.{Fails}
use Rattle.wm_decode.specs.Parts.{locals_of}
use Rattle.wm_decode.specs.ReadingVectors.{more_at}
use Rattle.wm_decode.specs.ReadingParts.{local_entry_at, local_step}
use Rattle.wm_decode.proofs.MoreLoop.{goes_on, fails, is_done, stepped, step_fails}
use Rattle.wm_decode.proofs.code.more_locals.Goals as goal

pub returns-in_err-count : goal.returns-in_err-count
returns-in_err-count c =
    let p = err_from_is_err_and c.from_residual.result c.from_residual.ensures.1 in
    let depth_left : c.saturating_sub.result ≡ c.args.most - length c.loop.found = c.saturating_sub.ensures ∙ ap (λ (n : ℕ). c.args.most - n) c.len.ensures in
    let failed : Fails c.in_err-count.field-0.0 (local_entry_at (c.args.most - length c.loop.found) c.loop.rest.now) = subst (λ (n : ℕ). Fails c.in_err-count.field-0.0 (local_entry_at n c.loop.rest.now)) depth_left c.in_err-count.ensures in
    rw (p.1, p.2) (fails (local_step c.args.most) c.in_err-count.field-0.0 c.args.entries c.loop.counter c.loop.found c.loop.rest.now (more_at (local_step c.args.most) c.args.entries [] c.args.bytes.now) c.loop-test.true
    (step_fails c.in_err-count.field-0.0 (local_entry_at (c.args.most - length c.loop.found) c.loop.rest.now) (λ (e : ℕ × ValType). c.loop.found ++ locals_of e.0 e.1) failed) c.loop.invariant)

pub loop-preserved : goal.loop-preserved
loop-preserved c =
    let e : ℕ × ValType = (c.in_ok-count.count, c.in_ok-count.ty) in
    let depth_left : c.saturating_sub.result ≡ c.args.most - length c.loop.found = c.saturating_sub.ensures ∙ ap (λ (n : ℕ). c.args.most - n) c.len.ensures in
    let read : local_entry_at (c.args.most - length c.loop.found) c.loop.rest.now ≡ Ok (e, c.in_ok-count.after.now) = subst (λ (n : ℕ). local_entry_at n c.loop.rest.now ≡ Ok (e, c.in_ok-count.after.now)) depth_left c.in_ok-count.ensures in
    rw c.in_ok-add_locals.ensures (goes_on (local_step c.args.most) c.args.entries c.loop.counter c.loop.found (c.loop.found ++ locals_of e.0 e.1) c.loop.rest.now c.in_ok-count.after.now (more_at (local_step c.args.most) c.args.entries [] c.args.bytes.now) c.loop-test.true
    (stepped (local_entry_at (c.args.most - length c.loop.found) c.loop.rest.now) (λ (e : ℕ × ValType). c.loop.found ++ locals_of e.0 e.1) e c.in_ok-count.after.now read) c.loop.invariant)

pub returns : goal.returns
returns c = is_done (local_step c.args.most) c.args.entries c.loop.counter c.loop.found c.loop.rest.now (more_at (local_step c.args.most) c.args.entries [] c.args.bytes.now) c.loop-test.false c.loop.invariant
