use Rattle.std.proofs.Common.{[]}
use Rattle.std.proofs.lemmas.Result.{err_from_is_err_and}
use Rattle.wm_decode.specs.Bounds.{profile}
use Rattle.wm_decode.specs.ReadingParts.{more_functions_at}
use Rattle.wm_decode.proofs.MoreLoop.{functions_go_on, functions_fail, functions_done}
use Rattle.wm_decode.proofs.code.functions.Goals as goal

pub returns-in_err-function : goal.returns-in_err-function
returns-in_err-function c =
    let p = err_from_is_err_and c.from_residual.result c.from_residual.ensures.1 in
    rw (p.1, p.2) (functions_fail profile c.args.types.now c.in_err-function.field-0.0 c.args.indices.now c.loop-index.index-index c.loop-index.found c.loop-index.rest.now
    (more_functions_at profile c.args.types.now c.args.indices.now [] c.args.bytes.now) c.loop-index-test.true c.in_err-function.ensures c.loop-index.invariant)

pub loop-index-preserved : goal.loop-index-preserved
loop-index-preserved c =
    rw c.in_ok-push.ensures.ok (functions_go_on profile c.args.types.now c.args.indices.now c.loop-index.index-index c.loop-index.found c.in_ok-function.function c.loop-index.rest.now c.in_ok-function.after.now
    (more_functions_at profile c.args.types.now c.args.indices.now [] c.args.bytes.now) c.loop-index-test.true c.in_ok-function.ensures c.loop-index.invariant)

pub returns : goal.returns
returns c =
    functions_done profile c.args.types.now c.args.indices.now c.loop-index.index-index c.loop-index.found c.loop-index.rest.now
    (more_functions_at profile c.args.types.now c.args.indices.now [] c.args.bytes.now) c.loop-index-test.false c.loop-index.invariant
