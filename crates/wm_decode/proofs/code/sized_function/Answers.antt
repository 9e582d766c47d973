use Rattle.std.proofs.Common.{ℕ, ◌≤◌, ◌-◌, subst, arith}
use Rattle.wm_decode.specs.Bounds.{profile}
use Rattle.wm_decode.specs.Implements.{Fails}
use Rattle.wm_decode.specs.Module.{params_of}
use Rattle.wm_decode.specs.ReadingParts.{function_at}
use Rattle.wm_decode.proofs.Left.{function_fails}
use Rattle.wm_decode.proofs.code.sized_function.Goals as goal

pub returns-in-Err : goal.returns-in-Err
returns-in-Err c =
    let few : params_of c.args.types.now c.args.type_index ≤ 1000 = omega arith in
    let failed : Fails c.in-Err.fault (function_at profile (1000 - params_of c.args.types.now c.args.type_index) c.args.type_index c.in_ok-inner.inner.now) =
    subst (λ (n : ℕ). Fails c.in-Err.fault (function_at profile (1000 - n) c.args.type_index c.in_ok-inner.inner.now)) c.parameters-parameters.ensures c.in-Err.ensures in
    function_fails c.args.types.now c.args.type_index c.args.bytes.now c.in_ok-inner.inner.now c.in_ok-inner.after.now c.in-Err.fault c.before-in-Err.result c.in_ok-inner.ensures few failed c.before-in-Err.ensures (omega arith)
