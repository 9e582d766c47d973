-- What is left where reading a module stops is no more than the module's bytes.
use Rattle.std.proofs.Common.{◌≡◌, ℕ, zero, suc, ◌≤◌, eqb, List, [], ◌∷◌, length, Option, Result, Err, refl, subst, arith}
use Rattle.std.specs.Prelude.{is_some}
use Rattle.std.proofs.lemmas.Bool.{le-ltb}
use Rattle.wm_ast.specs.declared.module.DataSegment.{DataSegment}
use Rattle.wm_ast.specs.declared.module.Func.{Func}
use Rattle.wm_ast.specs.declared.module.Module.{Module}
use Rattle.wm_decode.specs.declared.fault.FaultKind.TheVariants.{Magic, Version}
use Rattle.wm_decode.specs.declared.fault.DecodeFault.{DecodeFault}
use Rattle.wm_decode.specs.declared.fault.ItemFault.{ItemFault}
use Rattle.wm_decode.specs.declared.fault.ItemFault.TheVariants.{OutOfMemory, WithLeft}
use Rattle.wm_decode.specs.declared.module.Declared.{Declared}
use Rattle.wm_decode.specs.Bounds.{Bounds, profile}
use Rattle.wm_decode.specs.Stop.{Stop, stop}
use Rattle.wm_decode.specs.Implements.{Fails, IsFaultOf, in_module}
use Rattle.wm_decode.specs.Module.{items_of, magic, version}
use Rattle.wm_decode.specs.ReadingVectors.{u32_at, vector_at, sized_at}
use Rattle.wm_decode.specs.ReadingParts.{func_type_at, imports_at, memories_at, indices_at, no_items_at, global_at, exports_at, code_at, segments_at, agrees}
use Rattle.wm_decode.specs.ReadingModule.{custom_at, customs_at, customs_in, section_at, one_at, behind, header_at, front_at, definitions_at, declared_at, agreed_module, bodies_at, module_at, whole_at}
use Rattle.wm_decode.proofs.Left.{Within, Short, rest_of, self, step, test, more, go, then, sized_short, types_short, imports_short, indices_short, no_items_short, memories_short, globals_short, exports_short, u32_short, code_short, segments_short, custom_short}

-- after the custom sections
customs_short : (fuel : ℕ) (bytes : List ℕ) → Within self (length bytes) (customs_at fuel bytes)
unfolding customs_at
customs_short zero [] = omega arith
customs_short (suc fuel) [] = omega arith
customs_short zero (b ∷ bytes) = omega arith
customs_short (suc fuel) (b ∷ bytes) =
    let n = length (b ∷ bytes) in
    test self n (eqb b 0) _ _ (
    step rest_of self n _ _ (more rest_of (length bytes) n (sized_at custom_at bytes) (omega arith) (sized_short custom_at custom_short bytes)) (λ x le.
    more self (length x.1) n (customs_at fuel x.1) le (customs_short fuel x.1))) (omega arith)

section_short : {X : Type 0} (content_at : List ℕ → Result (X × List ℕ) Stop) → Short content_at → (id : ℕ) → Short (section_at content_at id)
unfolding section_at
section_short content_at h id [] = omega arith
section_short content_at h id (b ∷ bytes) =
    let n = length (b ∷ bytes) in
    test rest_of n (eqb b id) _ _ (
    step rest_of rest_of n _ _ (more rest_of (length bytes) n (sized_at content_at bytes) (omega arith) (sized_short content_at h bytes)) (λ x le.
    step self rest_of n _ _ (more self (length x.1) n (customs_in x.1) le (customs_short (length x.1) x.1)) (λ rest le2. le2))) (omega arith)

-- the header
one_short : (other : Stop) (wanted n : ℕ) (bytes : List ℕ) → other.left ≤ n → length bytes ≤ n → Within self n (one_at other wanted bytes)
unfolding one_at
one_short other wanted n [] small le = omega arith
one_short other wanted n (b ∷ bytes) small le = test self n (eqb b wanted) _ _ (omega arith) small

behind_short : (other : Stop) (ps : List ℕ) (n : ℕ) (bytes : List ℕ) → other.left ≤ n → length bytes ≤ n → Within self n (behind other ps bytes)
behind_short other [] n bytes small le = le
behind_short other (p ∷ ps) n bytes small le = step self self n (one_at other p bytes) (behind other ps) (one_short other p n bytes small le) (λ rest le2. behind_short other ps n rest small le2)

header_short : (bytes : List ℕ) → Within self (length bytes) (header_at bytes)
unfolding header_at
header_short bytes =
    let n = length bytes in
    step self self n (behind (stop Magic n) magic bytes) _ (behind_short (stop Magic n) magic n bytes (omega arith) (omega arith)) (λ rest le.
    behind_short (stop Version (length rest)) version n rest le le)

-- a module
no_bytes : Module → List ℕ
no_bytes m = []

module _ (bounds : Bounds) where
  front_short : Short (front_at bounds)
  unfolding front_at
  front_short bytes =
      let n = length bytes in
      step self rest_of n _ _ (header_short bytes) (λ rest le.
      step self rest_of n _ _ (more self (length rest) n (customs_in rest) le (customs_short (length rest) rest)) (λ start le1.
      more rest_of (length start) n _ le1 (
      then start _ _ (section_short (vector_at func_type_at) types_short 1 start) (λ types.
      then types.1 _ _ (section_short (imports_at bounds) (imports_short bounds) 2 types.1) (λ imported.
      go (length imported.1) _ _ (section_short (indices_at bounds) (indices_short bounds) 3 imported.1) (λ indices le2. le2))))))

  declared_short : Short (declared_at bounds)
  unfolding declared_at definitions_at
  declared_short bytes =
      then bytes _ _ (front_short bytes) (λ front.
      then front.1 _ _ (section_short no_items_at no_items_short 4 front.1) (λ tables.
      then tables.1 _ _ (section_short (memories_at bounds (is_some front.0.imported)) (memories_short bounds (is_some front.0.imported)) 5 tables.1) (λ defined.
      then defined.1 _ _ (section_short (vector_at global_at) globals_short 6 defined.1) (λ globals.
      then globals.1 _ _ (section_short exports_at exports_short 7 globals.1) (λ exports.
      go (length exports.1) _ _ (section_short no_items_at no_items_short 9 exports.1) (λ elements le. le))))))

  agreed_short : (declared : Declared) (count : Option ℕ) (funcs : Option (List Func)) (segments : Option (List DataSegment)) (n : ℕ) (rest : List ℕ) → length rest ≤ n → Within no_bytes n (agreed_module declared count funcs segments rest)
  unfolding no_bytes
  agreed_short declared count funcs segments n (id ∷ rest) le = le
  agreed_short declared count funcs segments n [] le =
      test no_bytes n (eqb (length (items_of funcs)) (length declared.indices)) _ _ (test no_bytes n (agrees count (length (items_of segments))) _ _ (omega arith) (omega arith)) (omega arith)

  module_short : (bytes : List ℕ) → Within no_bytes (length bytes) (module_at bounds bytes)
  unfolding module_at bodies_at
  module_short bytes =
      let n = length bytes in
      step rest_of no_bytes n _ _ (declared_short bytes) (λ declared le.
      step rest_of no_bytes n _ _ (more rest_of (length declared.1) n (section_at u32_at 12 declared.1) le (section_short u32_at u32_short 12 declared.1)) (λ count le1.
      step rest_of no_bytes n _ _ (more rest_of (length count.1) n (section_at (code_at bounds declared.0.types declared.0.indices) 10 count.1) le1
      (section_short (code_at bounds declared.0.types declared.0.indices) (code_short bounds declared.0.types declared.0.indices) 10 count.1)) (λ code le2.
      step rest_of no_bytes n _ _ (more rest_of (length code.1) n (section_at (segments_at count.0) 11 code.1) le2 (section_short (segments_at count.0) (segments_short count.0) 11 code.1)) (λ segments le3.
      agreed_short declared.0 count.0 code.0 segments.0 n segments.1 le3))))

-- the fault of a module of no more bytes than are allowed
pub is_fault : (bytes : List ℕ) (e : ItemFault) (d : DecodeFault) → length bytes ≤ 1048576 → Fails e (module_at profile bytes) → d ≡ in_module (length bytes) e → IsFaultOf (length bytes) (whole_at bytes) d
unfolding whole_at
is_fault bytes OutOfMemory d le h k = rw k tt
is_fault bytes (WithLeft kind left) d le h k =
    let small : left ≤ length bytes = subst (λ (r : Result Module Stop). Within no_bytes (length bytes) r) h (module_short profile bytes) in
    let read : whole_at bytes ≡ Err (stop kind left) = rw (le-ltb 1048576 (length bytes) le) h in
    rw k (left, read, small, refl)
