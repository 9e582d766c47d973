-- A limit is named only where the bytes or the module that they spell are past it.
use Rattle.std.proofs.Common.{◌≡◌, ℕ, ◌-◌, ◌≤◌, ◌<◌, Bool, true, false, ltb, List, length, Option, Some, None, Result, Ok, Err, refl, sym, ap, subst, ◌∙◌, ◌⊎◌, inl, inr, arith}
use Rattle.std.proofs.lemmas.Bool.{ltb-true, ltb-false}
use Rattle.wm_ast.specs.declared.module.Memory.{Memory}
use Rattle.wm_ast.specs.declared.module.Module.{Module}
use Rattle.wm_decode.specs.declared.fault.DecodeFault.{DecodeFault}
use Rattle.wm_decode.specs.declared.fault.Limit.{Limit}
use Rattle.wm_decode.specs.declared.fault.Limit.TheVariants as limit
use Rattle.wm_decode.specs.declared.fault.FaultKind.TheVariants as kind
use Rattle.wm_decode.specs.Bounds.{Bounds, profile}
use Rattle.wm_decode.specs.Stop.{Stop, past}
use Rattle.wm_decode.specs.Implements.{Decodes, RefusedBy}
use Rattle.wm_decode.specs.Module.{SpellsModule, Within, IsPast, spells}
use Rattle.wm_decode.specs.ReadingModule.{module_at, whole_at}
use Rattle.wm_decode.proofs.Steps.{chosen}
use Rattle.wm_decode.proofs.OneModule.{pages_in, pages_kept, locals_in, locals_kept}
use Rattle.wm_decode.proofs.Spelled.{module_again}
use Rattle.wm_decode.proofs.Kept.{Agree, Other, module_kept}

-- the limit at which reading ends
limit_is : (v w : Limit) (left left2 : ℕ) → ◌≡◌ {A = Result Module Stop} (Err (past v left)) (Err (past w left2)) → v ≡ w
limit_is v w left left2 e =
    let same : past v left ≡ past w left2 = cc in
    let kinds : kind.Limit v ≡ kind.Limit w = ap (λ (s : Stop). s.kind) same in
    cc

-- a reading that ends at a limit gives no module, and names no other limit
refused : (w : Limit) (left : ℕ) (r : Result Module Stop) (m : Module) → r ≡ Err (past w left) → (r ≡ Ok m) ⊎ Other w r → ⊥
refused w left r m e (inl f) = absurd cc
refused w left r m e (inr o) = o.3 (limit_is o.0 w o.1 left (sym o.2 ∙ e))

-- within bounds that the module keeps, and of which that of w is the profile's, reading stops at no w
module _ (w : Limit) (c : Bounds) (pages : Agree w limit.Pages profile.pages c.pages) (functions : Agree w limit.Functions profile.functions c.functions)
    (locals : Agree w limit.Locals profile.locals c.locals) (nesting : Agree w limit.Nesting profile.nesting c.nesting) where
  not_kept : (bytes : List ℕ) (m : Module) → SpellsModule c.nesting bytes m → Within c m → (left : ℕ) → module_at profile bytes ≡ Err (past w left) → ⊥
  not_kept bytes m s v left e = refused w left (module_at profile bytes) m e (module_kept w profile c pages functions locals nesting bytes m (module_again c bytes m s v))

-- a number is at most another, or past it
at_most : (a b : ℕ) → (a ≤ b) ⊎ (b < a)
at_most a b = at_most_by (ltb b a) refl where
  at_most_by : (t : Bool) → ltb b a ≡ t → (a ≤ b) ⊎ (b < a)
  at_most_by true e = inr (ltb-true b a e)
  at_most_by false e = inl (ltb-false b a e)

past_pages : (o : Option Memory) (n : ℕ) → n < pages_in o → (x : Memory) × (o ≡ Some x) × (n < x.limits.minimum)
unfolding pages_in
past_pages None n h = absurd (omega arith)
past_pages (Some m) n h = (m, refl, h)

-- each limit that reading named is one that the module is past
module _ (bytes : List ℕ) (m : Module) (s : spells bytes m) where
  pages_past : (left : ℕ) → module_at profile bytes ≡ Err (past limit.Pages left) → IsPast limit.Pages bytes m
  pages_past left e = elim (at_most (pages_in m.memory) profile.pages) [
    | inl h ↦
        let c : Bounds = record { pages = profile.pages; functions = length m.funcs; locals = locals_in m.types m.funcs; nesting = s.0 } in
        let v : Within c m = record { pages = pages_kept m.memory profile.pages h; functions = omega arith; locals = locals_kept c m.types m.funcs (omega arith) } in
        absurd (not_kept limit.Pages c (inl refl) (inr (λ q. absurd cc)) (inr (λ q. absurd cc)) (inr (λ q. absurd cc)) bytes m s.1 v left e)
    | inr h ↦ past_pages m.memory profile.pages h
  ]

  functions_past : (left : ℕ) → module_at profile bytes ≡ Err (past limit.Functions left) → IsPast limit.Functions bytes m
  functions_past left e = elim (at_most (length m.funcs) profile.functions) [
    | inl h ↦
        let c : Bounds = record { pages = pages_in m.memory; functions = profile.functions; locals = locals_in m.types m.funcs; nesting = s.0 } in
        let v : Within c m = record { pages = pages_kept m.memory (pages_in m.memory) (omega arith); functions = h; locals = locals_kept c m.types m.funcs (omega arith) } in
        absurd (not_kept limit.Functions c (inr (λ q. absurd cc)) (inl refl) (inr (λ q. absurd cc)) (inr (λ q. absurd cc)) bytes m s.1 v left e)
    | inr h ↦ h
  ]

  locals_past : (left : ℕ) → module_at profile bytes ≡ Err (past limit.Locals left) → IsPast limit.Locals bytes m
  locals_past left e h =
      let c : Bounds = record { pages = pages_in m.memory; functions = length m.funcs; locals = profile.locals; nesting = s.0 } in
      let v : Within c m = record { pages = pages_kept m.memory (pages_in m.memory) (omega arith); functions = omega arith; locals = h } in
      not_kept limit.Locals c (inr (λ q. absurd cc)) (inr (λ q. absurd cc)) (inl refl) (inr (λ q. absurd cc)) bytes m s.1 v left e

  nesting_past : (left : ℕ) → module_at profile bytes ≡ Err (past limit.Nesting left) → IsPast limit.Nesting bytes m
  nesting_past left e h =
      let c : Bounds = record { pages = pages_in m.memory; functions = length m.funcs; locals = locals_in m.types m.funcs; nesting = profile.nesting } in
      let v : Within c m = record { pages = pages_kept m.memory (pages_in m.memory) (omega arith); functions = omega arith; locals = locals_kept c m.types m.funcs (omega arith) } in
      not_kept limit.Nesting c (inr (λ q. absurd cc)) (inr (λ q. absurd cc)) (inr (λ q. absurd cc)) (inl refl) bytes m h v left e

  never_bytes : (left : ℕ) → module_at profile bytes ≡ Err (past limit.ModuleBytes left) → ⊥
  never_bytes left e =
      let c : Bounds = record { pages = pages_in m.memory; functions = length m.funcs; locals = locals_in m.types m.funcs; nesting = s.0 } in
      let v : Within c m = record { pages = pages_kept m.memory (pages_in m.memory) (omega arith); functions = omega arith; locals = locals_kept c m.types m.funcs (omega arith) } in
      not_kept limit.ModuleBytes c (inr (λ q. absurd cc)) (inr (λ q. absurd cc)) (inr (λ q. absurd cc)) (inr (λ q. absurd cc)) bytes m s.1 v left e

  read_past : (w : Limit) (left : ℕ) → module_at profile bytes ≡ Err (past w left) → IsPast w bytes m
  read_past limit.ModuleBytes left e = absurd (never_bytes left e)
  read_past limit.Pages left e = pages_past left e
  read_past limit.Functions left e = functions_past left e
  read_past limit.Locals left e = locals_past left e
  read_past limit.Nesting left e = nesting_past left e

  whole_past : (w : Limit) (left : ℕ) → whole_at bytes ≡ Err (past w left) → IsPast w bytes m
  unfolding whole_at
  whole_past w left e = elim (chosen (ltb 1048576 (length bytes)) (Err (past limit.ModuleBytes (length bytes - 1048576))) (module_at profile bytes) (Err (past w left)) e) [
    | inl h ↦ subst (λ (v : Limit). IsPast v bytes m) (limit_is limit.ModuleBytes w (length bytes - 1048576) left h.1) (ltb-true 1048576 (length bytes) h.0)
    | inr h ↦ read_past w left h.1
  ]

pub is_past : (bytes : List ℕ) (r : Result Module DecodeFault) → Decodes r (whole_at bytes) → (m : Module) (w : Limit) → spells bytes m → RefusedBy w r → IsPast w bytes m
is_past bytes r d m w s named =
    let stopped = subst (λ (q : Result Module DecodeFault). Decodes q (whole_at bytes)) named.1 d in
    whole_past bytes m s w stopped.0 stopped.1
