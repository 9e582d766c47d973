use Rattle.std.proofs.Common.{◌≡◌, ◌++◌, ◌∷◌, [], List, ℕ, ap, ◌∙◌}
use Rattle.std.proofs.lemmas.Result.{err_from_is_err_and}
use Rattle.wm_ast.specs.declared.exports.Export.{Export}
use Rattle.wm_decode.specs.ReadingVectors.{more_at}
use Rattle.wm_decode.specs.ReadingParts.{export_entry_at, export_step}
use Rattle.wm_decode.proofs.MoreLoop.{goes_on, fails, is_done, stepped, step_fails}
use Rattle.wm_decode.proofs.exports.more_exports.Goals as goal

pub returns-in_err-name : goal.returns-in_err-name
returns-in_err-name c =
    let p = err_from_is_err_and c.from_residual.result c.from_residual.ensures.1 in
    rw (p.1, p.2) (fails export_step c.in_err-name.field-0.0 c.args.count c.loop.counter c.loop.found c.loop.rest.now (more_at export_step c.args.count [] c.args.bytes.now) c.loop-test.true
    (step_fails c.in_err-name.field-0.0 (export_entry_at c.loop.found c.loop.rest.now) (λ (e : List ℕ × Export). c.loop.found ++ e ∷ []) c.in_err-name.ensures.read) c.loop.invariant)

pub loop-preserved : goal.loop-preserved
loop-preserved c =
    let e : List ℕ × Export = (c.in_ok-name.name.now, c.in_ok-name.export) in
    let grown : c.push.new.self ≡ c.loop.found ++ e ∷ [] = c.in_ok-push.ensures.ok ∙ ap (λ (n : List ℕ). c.loop.found ++ (n, c.in_ok-name.export) ∷ []) c.in_ok-from_str.ensures.ok in
    rw grown (goes_on export_step c.args.count c.loop.counter c.loop.found (c.loop.found ++ e ∷ []) c.loop.rest.now c.in_ok-name.after.now (more_at export_step c.args.count [] c.args.bytes.now) c.loop-test.true
    (stepped (export_entry_at c.loop.found c.loop.rest.now) (λ (e : List ℕ × Export). c.loop.found ++ e ∷ []) e c.in_ok-name.after.now c.in_ok-name.ensures.read) c.loop.invariant)

pub returns : goal.returns
returns c = is_done export_step c.args.count c.loop.counter c.loop.found c.loop.rest.now (more_at export_step c.args.count [] c.args.bytes.now) c.loop-test.false c.loop.invariant
