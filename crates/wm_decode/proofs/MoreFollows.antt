-- A limit, bytes that end too early, counts that differ at the end of the bytes, and the bytes before a faulty item rule
-- out no modules: examples of modules that begin with such bytes.
use Rattle.std.proofs.Common.{◌≡◌, ℕ, ◌<◌, Bool, true, false, cond, ltb, List, [], ◌∷◌, ◌++◌, length, Ok, refl, arith}
use Rattle.std.proofs.lemmas.Bool.{ltb-true}
use Rattle.wm_ast.specs.declared.module.Module.{Module}
use Rattle.wm_decode.specs.declared.fault.DecodeFault.TheVariants.{At}
use Rattle.wm_decode.specs.declared.fault.FaultKind.{FaultKind}
use Rattle.wm_decode.specs.declared.fault.FaultKind.TheVariants.{BadNumber, CountMismatch, Limit, Truncated}
use Rattle.wm_decode.specs.declared.fault.Limit.TheVariants.{Pages}
use Rattle.wm_decode.specs.Begins.{NoModuleBegins}
use Rattle.wm_decode.specs.Bounds.{Bounds, profile}
use Rattle.wm_decode.specs.Implements.{IsFaultOf}
use Rattle.wm_decode.specs.Module.{header}
use Rattle.wm_decode.specs.Numbers.{IsBytes}
use Rattle.wm_decode.specs.Reading.{unsigned_at}
use Rattle.wm_decode.specs.ReadingVectors.{items_at, vector_at, own_bytes_at, filled_at, sized_at, more_at}
use Rattle.wm_decode.specs.ReadingInstructions.{blocks_at, closed_with, instrs_at}
use Rattle.wm_decode.specs.ReadingParts.{func_type_at, result_at, indices_at, limits_at, memories_at, code_at, more_functions_at, sized_function_at, function_at, locals_at}
use Rattle.wm_decode.specs.ReadingModule.{customs_at, section_at, one_at, header_at, front_at, definitions_at, declared_at, bodies_at, module_at, whole_at}
use Rattle.wm_decode.proofs.Spelled.{module_takes}

-- reading these bytes stops with this fault at this offset, and yet a module begins with them
pub record GoesOn (bytes : List ℕ) (k : FaultKind) (offset : ℕ) : Type 0 where
  pub stopped : IsFaultOf (length bytes) (whole_at bytes) (At k offset)
  pub begun : NoModuleBegins bytes → ⊥

all_bytes : List ℕ → Bool
all_bytes [] = true
all_bytes (b ∷ bytes) = cond (ltb b 256) (all_bytes bytes) false

are_bytes : (bytes : List ℕ) → all_bytes bytes ≡ true → IsBytes bytes
unfolding all_bytes
are_bytes [] e = tt
are_bytes (b ∷ bytes) e = by (ltb b 256) refl e (λ rest. are_bytes bytes rest) where
  by : (t : Bool) → ltb b 256 ≡ t → cond t (all_bytes bytes) false ≡ true → (all_bytes bytes ≡ true → IsBytes bytes) → (b < 256) × IsBytes bytes
  by true is rest more = (ltb-true b 256 is, more rest)
  by false is rest more = absurd cc

-- a module that is read within some bounds begins with the bytes at its front
begins : (bounds : Bounds) (front rest : List ℕ) (m : Module) → all_bytes (front ++ rest) ≡ true → module_at bounds (front ++ rest) ≡ Ok m → NoModuleBegins front → ⊥
begins bounds front rest m fits read none = none rest m (bounds.nesting, (module_takes bounds (front ++ rest) m (are_bytes (front ++ rest) fits) read).spelled)

-- a header after no bytes
pub header_may_follow : GoesOn [] Truncated 0
unfolding all_bytes whole_at module_at bodies_at declared_at definitions_at front_at header_at one_at customs_at section_at
header_may_follow = record { stopped = (0, refl, omega arith, refl); begun = begins profile [] header _ refl refl }

-- the code of a function after its type
pub code_may_follow : GoesOn (header ++ 0x01 ∷ 0x04 ∷ 0x01 ∷ 0x60 ∷ 0x00 ∷ 0x00 ∷ 0x03 ∷ 0x02 ∷ 0x01 ∷ 0x00 ∷ []) CountMismatch 18
unfolding all_bytes whole_at module_at bodies_at declared_at definitions_at front_at header_at one_at customs_at section_at sized_at own_bytes_at filled_at unsigned_at vector_at items_at func_type_at result_at indices_at code_at more_functions_at sized_function_at function_at locals_at more_at blocks_at closed_with instrs_at
code_may_follow = record {
  stopped = (0, refl, omega arith, refl);
  begun = begins profile (header ++ 0x01 ∷ 0x04 ∷ 0x01 ∷ 0x60 ∷ 0x00 ∷ 0x00 ∷ 0x03 ∷ 0x02 ∷ 0x01 ∷ 0x00 ∷ []) (0x0A ∷ 0x04 ∷ 0x01 ∷ 0x02 ∷ 0x00 ∷ 0x0B ∷ []) _ refl refl;
}

-- a memory of 17 pages
pub limit_may_be_greater : GoesOn (header ++ 0x05 ∷ 0x04 ∷ 0x01 ∷ 0x03 ∷ 0x11 ∷ 0x11 ∷ []) (Limit Pages) 12
unfolding all_bytes whole_at module_at bodies_at declared_at definitions_at front_at header_at one_at customs_at section_at sized_at own_bytes_at filled_at unsigned_at memories_at limits_at
limit_may_be_greater = record {
  stopped = (2, refl, omega arith, refl);
  begun = begins (record profile { pages = 17 }) (header ++ 0x05 ∷ 0x04 ∷ 0x01 ∷ 0x03 ∷ 0x11 ∷ 0x11 ∷ []) [] _ refl refl;
}

-- no section where one that does not exist begins
pub section_may_be_another : IsFaultOf 9 (whole_at (header ++ 0x0E ∷ [])) (At BadNumber 8) × (NoModuleBegins header → ⊥)
unfolding all_bytes whole_at module_at bodies_at declared_at definitions_at front_at header_at one_at customs_at section_at
section_may_be_another = ((1, refl, omega arith, refl), begins profile header [] _ refl refl)
