-- A block that is put in the place that was kept for it.
use Rattle.std.proofs.Common.{◌≡◌, ℕ, ◌+◌, List, [], ◌∷◌, ◌++◌, length, Ok, Err, refl, sym, ap, ◌∙◌, arith, append_assoc, length-append}
use Rattle.std.proofs.Math.ListN.{set}
use Rattle.std.proofs.Math.Seq.{set-append_seam}
use Rattle.std.proofs.Common.{◌-◌, Err, Option}
use Rattle.std.proofs.lemmas.Bool.{ne_eqb}
use Rattle.wm_ast.specs.declared.instr.Instr.{Instr}
use Rattle.wm_ast.specs.declared.types.ValType.{ValType}
use Rattle.wm_decode.specs.declared.fault.ItemFault.{ItemFault}
use Rattle.wm_decode.specs.declared.fault.ItemFault.TheVariants.{OutOfMemory, WithLeft}
use Rattle.wm_decode.specs.Stop.{stop}
use Rattle.wm_decode.specs.Implements.{Fails}
use Rattle.wm_decode.specs.ReadingInstructions.{Body, instrs_in, closed_in, opened_at, if_with}

pub record Placed (depth_left : ℕ) (old new : List (List Instr)) (bytes : List ℕ) (body : List Instr) (number closer : ℕ) (rest : List ℕ) : Type 0 where
  pub b : Body
  pub put : set new number body ≡ old ++ b.instrs ∷ b.nested
  pub read : instrs_in depth_left (length old + 1) bytes ≡ Ok b
  pub closer_is : b.closer ≡ closer
  pub rest_is : b.rest ≡ rest

pub placed : (depth_left : ℕ) (old mid new : List (List Instr)) (bytes : List ℕ) (kept body : List Instr) (nested : List (List Instr)) (number closer : ℕ) (rest : List ℕ) → number ≡ length old → mid ≡ old ++ kept ∷ [] → new ≡ mid ++ nested
    → instrs_in depth_left (length mid) bytes ≡ Ok (record { instrs = body; nested = nested; closer = closer; rest = rest }) → Placed depth_left old new bytes body number closer rest
placed depth_left old mid new bytes kept body nested number closer rest n-is mid-is new-is read = record {
  b = record { instrs = body; nested = nested; closer = closer; rest = rest };
  put = rw (new-is, mid-is, n-is, append_assoc) (set-append_seam old kept nested body);
  read = let k : length mid ≡ length old + 1 = omega (arith, ap length mid-is, length-append old (kept ∷ [])) in ap (λ (n : ℕ). instrs_in depth_left n bytes) (sym k) ∙ read;
  closer_is = refl;
  rest_is = refl;
}

-- an else part that could not be read
pub else_fails : (e : ItemFault) (depth_left : ℕ) (old new : List (List Instr)) (bytes mid rest : List ℕ) (ty : Option ValType) (b : Body) (closer : ℕ) → opened_at depth_left bytes ≡ Ok (ty, mid) → new ≡ old ++ b.instrs ∷ b.nested
    → instrs_in (depth_left - 1) (length old + 1) mid ≡ Ok b → b.closer ≡ closer → b.rest ≡ rest → (closer ≡ 0x0B → ⊥) → Fails e (closed_in (depth_left - 1) (length new + 1) rest) → Fails e (if_with instrs_in depth_left (length old) bytes)
unfolding if_with
else_fails OutOfMemory depth_left old new bytes mid rest ty b closer opened new-is read closer-is rest-is other h = tt
else_fails (WithLeft kind left) depth_left old new bytes mid rest ty b closer opened new-is read closer-is rest-is other h =
    let len : length new + 1 ≡ length old + 1 + length b.nested + 1 = omega (arith, ap length new-is, length-append old (b.instrs ∷ b.nested)) in
    let h2 : closed_in (depth_left - 1) (length old + 1 + length b.nested + 1) b.rest ≡ Err (stop kind left) =
    ap (λ (n : ℕ). closed_in (depth_left - 1) n b.rest) (sym len) ∙ ap (closed_in (depth_left - 1) (length new + 1)) rest-is ∙ h in
    rw (opened, read, ne_eqb b.closer 0x0B (λ k. other (sym closer-is ∙ k)), h2) refl
