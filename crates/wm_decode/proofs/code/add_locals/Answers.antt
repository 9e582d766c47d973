use Rattle.std.proofs.Common.{◌++◌, ◌∷◌, [], List, ap, ◌∙◌, append_assoc}
use Rattle.wm_ast.specs.declared.types.ValType.{ValType}
use Rattle.wm_decode.specs.Parts.{locals_of}
use Rattle.wm_decode.proofs.MoreLoop.{one_more_local}
use Rattle.wm_decode.proofs.code.add_locals.Goals as goal

pub loop-preserved : goal.loop-preserved
loop-preserved c =
    let front = c.args.found.now in
    c.in_ok-push.ensures.ok ∙ ap (λ (l : List ValType). l ++ c.args.ty ∷ []) c.loop.invariant ∙ append_assoc front (locals_of c.loop.counter c.args.ty) (c.args.ty ∷ [])
    ∙ ap (λ (l : List ValType). front ++ l) (one_more_local c.loop.counter c.args.ty)
