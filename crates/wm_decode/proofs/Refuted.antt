-- A final fault rules out all modules that begin with the bytes up to the end of the faulty item.
use Rattle.std.proofs.Common.{◌≡◌, ℕ, ◌+◌, ◌-◌, ◌≤◌, ltb, List, [], ◌++◌, length, Result, Ok, Err, sym, ap, subst, ◌∙◌, ◌⊎◌, inl, inr, arith, append_assoc, length-append}
use Rattle.std.specs.Prelude.{IfErr}
use Rattle.wm_ast.specs.declared.module.Module.{Module}
use Rattle.wm_decode.specs.declared.fault.DecodeFault.{DecodeFault}
use Rattle.wm_decode.specs.declared.fault.DecodeFault.TheVariants.{At, OutOfMemory}
use Rattle.wm_decode.specs.declared.fault.FaultKind.{FaultKind}
use Rattle.wm_decode.specs.declared.fault.FaultKind.TheVariants as kind
use Rattle.wm_decode.specs.declared.fault.Limit.TheVariants as limit
use Rattle.wm_decode.specs.Begins.{IsFinal, IsRefuted, RulesOut}
use Rattle.wm_decode.specs.Bounds.{Bounds, profile}
use Rattle.wm_decode.specs.Implements.{IsFaultOf}
use Rattle.wm_decode.specs.Module.{Within, spells}
use Rattle.wm_decode.specs.Numbers.{IsBytes}
use Rattle.wm_decode.specs.ReadingModule.{module_at, whole_at}
use Rattle.wm_decode.specs.Stop.{Stop, offset_in, past, stop}
use Rattle.wm_decode.proofs.Kept.{Other, module_kept}
use Rattle.wm_decode.proofs.Lasting.{Refused}
use Rattle.wm_decode.proofs.LastingModule.{Begins, Decides, Settled, module_sure}
use Rattle.wm_decode.proofs.OneModule.{locals_in, locals_kept, pages_in, pages_kept}
use Rattle.wm_decode.proofs.Spelled.{module_again}
use Rattle.wm_decode.proofs.Steps.{chosen}

-- what is spelled is not refused but for a limit
not_refused : (m : Module) (r : Result Module Stop) → Refused r → (r ≡ Ok m) ⊎ Other limit.ModuleBytes r → ⊥
not_refused m r h (inl e) = subst Refused e h
not_refused m r h (inr o) = subst Refused o.2 h

spelled_is_read : (bytes : List ℕ) (m : Module) → spells bytes m → Refused (module_at profile bytes) → ⊥
spelled_is_read bytes m s refused =
    let c : Bounds = record { pages = pages_in m.memory; functions = length m.funcs; locals = locals_in m.types m.funcs; nesting = s.0 } in
    let v : Within c m = record { pages = pages_kept m.memory (pages_in m.memory) (omega arith); functions = omega arith; locals = locals_kept c m.types m.funcs (omega arith) } in
    not_refused m (module_at profile bytes) refused (module_kept limit.ModuleBytes profile c (inr (λ q. absurd cc)) (inr (λ q. absurd cc)) (inr (λ q. absurd cc)) (inr (λ q. absurd cc)) bytes m (module_again c bytes m s.1 v))

-- a final fault is one of a stop that decides
decided : (k : FaultKind) (offset n left : ℕ) → left ≤ n → offset ≡ offset_in n k left → IsFinal k offset n → (offset + left ≡ n) × Decides k left
decided kind.Magic offset n left le e h = (omega (arith, e), tt)
decided kind.Version offset n left le e h = (omega (arith, e), tt)
decided kind.Truncated offset n left le e h = absurd h
decided kind.BadNumber offset n left le e h = (omega (arith, e), tt)
decided kind.BadName offset n left le e h = (omega (arith, e), tt)
decided kind.SectionOrder offset n left le e h = (omega (arith, e), tt)
decided kind.SectionSize offset n left le e h = (omega (arith, e), tt)
decided kind.CountMismatch offset n left le e h = (omega (arith, e), omega (arith, e, h))
decided (kind.UnknownOpcode byte) offset n left le e h = (omega (arith, e), tt)
decided (kind.Unsupported feature) offset n left le e h = (omega (arith, e), tt)
decided (kind.Limit limit) offset n left le e h = absurd h
decided kind.DuplicateExport offset n left le e h = (omega (arith, e), tt)

-- where reading stops for good
ruled_out : (k : FaultKind) (offset left : ℕ) (bytes : List ℕ) → offset + left ≡ length bytes → Settled (module_at profile) [] bytes (stop k left) → RulesOut k offset bytes
ruled_out k offset left bytes len t = record {
  before = t.front;
  item = t.item;
  after = t.rest;
  parts = t.parts ∙ ap (λ (l : List ℕ). l ++ t.rest) t.cut ∙ append_assoc t.front t.item t.rest;
  placed = let read_is : length t.read ≡ length t.front + length t.item = ap length t.cut ∙ length-append t.front t.item in omega (arith, ap length t.parts, length-append t.read t.rest, t.left_is);
  is_item = t.is_item;
  none = λ rest m s. spelled_is_read ((t.front ++ t.item) ++ rest) m s (subst (λ (l : List ℕ). Refused (module_at profile (l ++ rest))) t.cut (t.lasts rest));
}

not_too_long : (bytes : List ℕ) (k : FaultKind) (left : ℕ) → Decides k left → whole_at bytes ≡ Err (stop k left) → module_at profile bytes ≡ Err (stop k left)
unfolding whole_at
not_too_long bytes k left h e = elim (chosen (ltb 1048576 (length bytes)) (Err (past limit.ModuleBytes (length bytes - 1048576))) (module_at profile bytes) (Err (stop k left)) e) [
  | inl p ↦
      let same : past limit.ModuleBytes (length bytes - 1048576) ≡ stop k left = let q : ◌≡◌ {A = Result Module Stop} (Err (past limit.ModuleBytes (length bytes - 1048576))) (Err (stop k left)) = p.1 in cc in
      let kinds : k ≡ kind.Limit limit.ModuleBytes = sym (ap (λ (s : Stop). s.kind) same) in
      absurd (subst (λ (j : FaultKind). Decides j left) kinds h)
  | inr p ↦ p.1
]

pub is_refuted : (bytes : List ℕ) (fault : DecodeFault) → IsBytes bytes → IsFaultOf (length bytes) (whole_at bytes) fault → IsRefuted bytes fault
is_refuted bytes OutOfMemory fits f = tt
is_refuted bytes (At k offset) fits f = λ h.
    let d = decided k offset (length bytes) f.0 f.2 f.3 h in
    let read = not_too_long bytes k f.0 d.1 f.1 in
    let sure : Begins (module_at profile) [] bytes (Err (stop k f.0)) = subst (Begins (module_at profile) [] bytes) read (module_sure profile [] bytes fits) in
    ruled_out k offset f.0 bytes d.0 (sure d.1).0

pub err_refuted : (bytes : List ℕ) (r : Result Module DecodeFault) → IsBytes bytes → IfErr r (IsFaultOf (length bytes) (whole_at bytes)) → IfErr r (IsRefuted bytes)
err_refuted bytes (Ok m) fits f = tt
err_refuted bytes (Err fault) fits f = is_refuted bytes fault fits f
