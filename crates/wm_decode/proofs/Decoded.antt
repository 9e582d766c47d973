-- What decoding answers is what the bytes spell.
use Rattle.std.proofs.Common.{◌≡◌, ℕ, ◌-◌, ◌<◌, ltb, List, length, Result, Ok, Err, refl, sym, ◌∙◌}
use Rattle.std.specs.Prelude.{IfOk}
use Rattle.std.proofs.lemmas.Bool.{ltb-false, le-ltb, lt-ltb}
use Rattle.wm_ast.specs.declared.module.Module.{Module}
use Rattle.wm_decode.specs.declared.fault.Limit.TheVariants as limit
use Rattle.wm_decode.specs.declared.fault.DecodeFault.{DecodeFault}
use Rattle.wm_decode.specs.declared.fault.DecodeFault.TheVariants.{At, OutOfMemory}
use Rattle.wm_decode.specs.Bounds.{profile}
use Rattle.wm_decode.specs.Stop.{past}
use Rattle.wm_decode.specs.Numbers.{IsBytes}
use Rattle.wm_decode.specs.Implements.{Decodes, IsUnlessMemory}
use Rattle.wm_decode.specs.Module.{SpellsWithin}
use Rattle.wm_decode.specs.ReadingModule.{module_at, whole_at}
use Rattle.wm_decode.proofs.Steps.{ok_is, passed}
use Rattle.wm_decode.proofs.Spelled.{module_takes, module_again}

whole_takes : (bytes : List ℕ) (m : Module) → IsBytes bytes → whole_at bytes ≡ Ok m → SpellsWithin bytes m
unfolding whole_at
whole_takes bytes m fits e =
    let w = passed _ (ltb 1048576 (length bytes)) (module_at profile bytes) m e in
    let s = module_takes profile bytes m fits w.1 in
    record { spelled = s.spelled; within = s.within; short = ltb-false 1048576 (length bytes) w.0 }

whole_again : (bytes : List ℕ) (m : Module) → SpellsWithin bytes m → whole_at bytes ≡ Ok m
unfolding whole_at
whole_again bytes m s = rw (le-ltb 1048576 (length bytes) s.short) (module_again profile bytes m s.spelled s.within)

-- more bytes than are allowed
pub too_long : (bytes : List ℕ) → 1048576 < length bytes → whole_at bytes ≡ Err (past limit.ModuleBytes (length bytes - 1048576))
unfolding whole_at
too_long bytes h = rw (lt-ltb 1048576 (length bytes) h) refl

pub is_found : (bytes : List ℕ) (r : Result Module DecodeFault) → IsBytes bytes → Decodes r (whole_at bytes) → IfOk r (λ m. SpellsWithin bytes m)
is_found bytes (Ok m) fits given = whole_takes bytes m fits given
is_found bytes (Err e) fits given = tt

pub is_only : (bytes : List ℕ) (r : Result Module DecodeFault) → Decodes r (whole_at bytes) → (m : Module) → SpellsWithin bytes m → IsUnlessMemory r m
is_only bytes (Ok x) given m s = ok_is x m (sym given ∙ whole_again bytes m s)
is_only bytes (Err OutOfMemory) given m s = tt
is_only bytes (Err (At kind offset)) given m s = let e = sym given.1 ∙ whole_again bytes m s in absurd cc
