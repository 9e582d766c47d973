use Rattle.std.proofs.Common.{◌≡◌, ℕ, List, [], ◌∷◌, ◌++◌, ap, subst}
use Rattle.std.specs.Prelude.{IfErr}
use Rattle.wm_ast.specs.declared.types.ValType.{ValType}
use Rattle.wm_valid.specs.InstrTypes.{Context, Labels}
use Rattle.wm_valid.specs.Typing.{TypedBlock, context}
use Rattle.wm_valid.specs.Implements.{Decides, CountsBlock, StopsBlock}
use Rattle.wm_valid.proofs.FuncLaws.{judged_body}
use Rattle.wm_valid.proofs.valid.body.Goals as goal

pub returns : goal.returns
returns c =
    let a = c.as_slice.ensures in
    let b = c.as_slice-2.ensures in
    let d = c.in_ok-locals.ensures in
    let locals-are : c.in_ok-locals.locals ≡ c.args.ty.now.params ++ c.args.func.now.locals = cc in
    let f = c.in_ok-push.ensures in
    let g = c.new-labels.ensures in
    let labels-are : c.push.new.self ≡ c.args.ty.now.result ∷ [] = cc in
    let C : Context = record { «module» = c.args.module.now; locals = c.in_ok-locals.locals; result = c.args.ty.now.result; blocks = c.args.func.now.blocks } in
    let is : C ≡ context c.args.module.now c.args.func.now c.args.ty.now =
    ap (λ (l : List ValType). let D : Context = record { «module» = c.args.module.now; locals = l; result = c.args.ty.now.result; blocks = c.args.func.now.blocks } in D) locals-are in
    let decides = subst (λ (l : Labels). Decides c.block.result (TypedBlock C 0 l c.args.ty.now.result)) labels-are c.block.ensures.decides in
    let counts = subst (λ (l : Labels). CountsBlock c.block.result C l 0 c.args.position.now c.block.new.position) labels-are c.block.ensures.place in
    let stops = subst (λ (l : Labels). IfErr c.block.result (StopsBlock C 0 l c.args.ty.now.result c.args.position.now c.block.new.position)) labels-are c.block.ensures.stops in
    judged_body c.block.result c.args.module.now c.args.func.now c.args.ty.now c.block.new.position c.requires.is_type
    (subst (λ (D : Context). Decides c.block.result (TypedBlock D 0 (c.args.ty.now.result ∷ []) c.args.ty.now.result)) is decides)
    (subst (λ (k : ℕ). CountsBlock c.block.result (context c.args.module.now c.args.func.now c.args.ty.now) (c.args.ty.now.result ∷ []) 0 k c.block.new.position) c.requires.start
    (subst (λ (D : Context). CountsBlock c.block.result D (c.args.ty.now.result ∷ []) 0 c.args.position.now c.block.new.position) is counts))
    (subst (λ (k : ℕ). IfErr c.block.result (StopsBlock (context c.args.module.now c.args.func.now c.args.ty.now) 0 (c.args.ty.now.result ∷ []) c.args.ty.now.result k c.block.new.position)) c.requires.start
    (subst (λ (D : Context). IfErr c.block.result (StopsBlock D 0 (c.args.ty.now.result ∷ []) c.args.ty.now.result c.args.position.now c.block.new.position)) is stops))
