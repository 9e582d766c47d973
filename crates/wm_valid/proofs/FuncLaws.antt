-- From a body to its function, and from a function to its module.
use Rattle.std.proofs.Common.{◌≡◌, ℕ, List, [], ◌∷◌, Some, Result, Ok, Err, inl, sym, ap, subst, ◌∙◌, slice_get}
use Rattle.std.specs.Prelude.{IfErr}
use Rattle.wm_ast.specs.declared.instr.Instr.{Instr}
use Rattle.wm_ast.specs.declared.module.Module.{Module}
use Rattle.wm_ast.specs.declared.module.Func.{Func}
use Rattle.wm_ast.specs.declared.types.FuncType.{FuncType}
use Rattle.wm_valid.specs.Typing.{TypedBlock, TypedFunc, context}
use Rattle.wm_valid.specs.Untyped.{TypingStopsAt}
use Rattle.wm_valid.specs.Implements.{Decides, CountsBlock, StopsBlock}
use Rattle.wm_valid.specs.Blame.{JudgesBody, RefusesFunc, Breaks}
use Rattle.wm_valid.specs.declared.fault.InstrFault.{InstrFault}
use Rattle.wm_valid.specs.declared.fault.InstrFault.TheVariants as refusal
use Rattle.wm_valid.specs.declared.fault.Location.TheVariants as place
use Rattle.wm_valid.specs.declared.fault.ValidFault.{ValidFault}
use Rattle.wm_valid.specs.declared.fault.ValidFault.TheVariants.{At, OutOfMemory}
use Rattle.wm_valid.proofs.StackLaws.{some_is}

pub judged_body : {X : Type 0} (r : Result X InstrFault) (m : Module) (f : Func) (ty : FuncType) (n : ℕ) → slice_get m.types f.type_index ≡ Some ty → Decides r (TypedBlock (context m f ty) 0 (ty.result ∷ []) ty.result)
    → CountsBlock r (context m f ty) (ty.result ∷ []) 0 0 n → IfErr r (StopsBlock (context m f ty) 0 (ty.result ∷ []) ty.result 0 n) → JudgesBody r m f n
judged_body (Ok x) m f ty n there h counted stops = record { type = ty; is_type = there; body = h }
judged_body (Err refusal.OutOfMemory) m f ty n there h counted stops = tt
judged_body (Err (refusal.Breaks kind)) m f ty n there h counted stops = record {
  untyped = λ (t : TypedFunc m f).
      let same-is : t.type ≡ ty = some_is t.type ty (sym t.is_type ∙ there) in
      h (subst (λ (u : FuncType). TypedBlock (context m f u) 0 (u.result ∷ []) u.result) same-is t.body);
  place = inl (record {
    type = ty;
    is_type = there;
    body = counted.0;
    is_body = counted.1;
    faulty = counted.2;
    stops = λ is.
        let r = stops (ap refusal.Breaks is) in
        subst (λ (l : List Instr). TypingStopsAt (context m f ty) 0 (ty.result ∷ []) ty.result l 0 n) (some_is r.0 counted.0 (sym r.1 ∙ counted.1)) r.2;
  });
}

pub func_breaks : (e : ValidFault) (m : Module) (f : Func) (number : ℕ) → slice_get m.funcs number ≡ Some f → RefusesFunc m f number e → Breaks m e
func_breaks OutOfMemory m f number there h = tt
func_breaks (At kind place.Module) m f number there h = absurd h
func_breaks (At kind (place.Instr func n)) m f number there h = (f, ap (λ (k : ℕ). slice_get m.funcs k) h.0 ∙ there, h.1)
