-- Reading step after step, as a loop does.
use Rattle.std.proofs.Common.{◌≡◌, ℕ, zero, suc, ◌-◌, ◌+◌, ◌≤◌, ◌<◌, List, [], ◌∷◌, ◌++◌, length, drop, get_or, Result, Ok, Err, refl, sym, ap, ◌∙◌, arith, add-one}
use Rattle.std.proofs.Math.Seq.{drop-cons}
use Rattle.wm_ast.specs.declared.types.ValType.{ValType}
use Rattle.wm_ast.specs.declared.types.FuncType.{FuncType}
use Rattle.wm_ast.specs.declared.module.Func.{Func}
use Rattle.wm_decode.specs.declared.fault.ItemFault.{ItemFault}
use Rattle.wm_decode.specs.declared.fault.ItemFault.TheVariants.{OutOfMemory, WithLeft}
use Rattle.wm_decode.specs.Bounds.{Bounds}
use Rattle.wm_decode.specs.Stop.{Stop, stop}
use Rattle.wm_decode.specs.Implements.{Fails}
use Rattle.wm_decode.specs.Reading.{◌>>=◌}
use Rattle.wm_decode.specs.Parts.{locals_of}
use Rattle.wm_decode.specs.ReadingVectors.{more_at}
use Rattle.wm_decode.specs.ReadingParts.{sized_function_at, more_functions_at}

module _ {S : Type 0} (step : S → List ℕ → Result (S × List ℕ) Stop) where
  pub goes_on : (count i : ℕ) (state next : S) (bytes after : List ℕ) (total : Result (S × List ℕ) Stop) → i < count → step state bytes ≡ Ok (next, after)
      → more_at step (count - i) state bytes ≡ total → more_at step (count - (i + 1)) next after ≡ total
  unfolding more_at
  goes_on count i state next bytes after total lt h so_far =
      let k : count - i ≡ suc (count - (i + 1)) = omega arith in
      let one : more_at step (count - i) state bytes ≡ more_at step (count - (i + 1)) next after = rw (k, h) refl in
      sym one ∙ so_far

  pub fails : (e : ItemFault) (count i : ℕ) (state : S) (bytes : List ℕ) (total : Result (S × List ℕ) Stop) → i < count → Fails e (step state bytes)
      → more_at step (count - i) state bytes ≡ total → Fails e total
  unfolding more_at
  fails OutOfMemory count i state bytes total lt h so_far = tt
  fails (WithLeft kind left) count i state bytes total lt h so_far =
      let k : count - i ≡ suc (count - (i + 1)) = omega arith in
      let one : more_at step (count - i) state bytes ≡ Err (stop kind left) = rw (k, h) refl in
      sym so_far ∙ one

  pub is_done : (count i : ℕ) (state : S) (bytes : List ℕ) (total : Result (S × List ℕ) Stop) → count ≤ i → more_at step (count - i) state bytes ≡ total → total ≡ Ok (state, bytes)
  unfolding more_at
  is_done count i state bytes total le so_far =
      let k : count - i ≡ 0 = omega arith in
      let one : more_at step (count - i) state bytes ≡ Ok (state, bytes) = rw k refl in
      sym so_far ∙ one

-- a step that is one reading and a change
pub stepped : {X S : Type 0} (read : Result (X × List ℕ) Stop) (make : X → S) (x : X) (after : List ℕ) → read ≡ Ok (x, after)
    → (read >>= λ e. let k : Result (S × List ℕ) Stop = Ok (make e.0, e.1) in k) ≡ Ok (make x, after)
stepped read make x after h = rw h refl

pub step_fails : {X S : Type 0} (e : ItemFault) (read : Result (X × List ℕ) Stop) (make : X → S) → Fails e read
    → Fails e (read >>= λ e. let k : Result (S × List ℕ) Stop = Ok (make e.0, e.1) in k)
step_fails OutOfMemory read make h = tt
step_fails (WithLeft kind left) read make h = rw h refl

-- one more local
pub one_more_local : (n : ℕ) (ty : ValType) → locals_of n ty ++ ty ∷ [] ≡ locals_of (n + 1) ty
one_more_local zero ty = refl
one_more_local (suc n) ty = let k : suc n + 1 ≡ suc (n + 1) = omega arith in rw k (ap (λ (l : List ValType). ty ∷ l) (one_more_local n ty))

module _ (bounds : Bounds) (types : List FuncType) where
  front_is : (indices : List ℕ) (i : ℕ) → i < length indices → drop i indices ≡ get_or indices i 0 ∷ drop (i + 1) indices
  front_is indices i lt = rw (add-one, drop-cons indices i 0) refl

  pub functions_go_on : (indices : List ℕ) (i : ℕ) (earlier : List Func) (f : Func) (bytes after : List ℕ) (total : Result (List Func × List ℕ) Stop) → i < length indices
      → sized_function_at bounds types (get_or indices i 0) bytes ≡ Ok (f, after) → more_functions_at bounds types (drop i indices) earlier bytes ≡ total
      → more_functions_at bounds types (drop (i + 1) indices) (earlier ++ f ∷ []) after ≡ total
  unfolding more_functions_at
  functions_go_on indices i earlier f bytes after total lt h so_far =
      let one : more_functions_at bounds types (drop i indices) earlier bytes ≡ more_functions_at bounds types (drop (i + 1) indices) (earlier ++ f ∷ []) after =
      ap (λ (l : List ℕ). more_functions_at bounds types l earlier bytes) (front_is indices i lt) ∙ rw h refl in
      sym one ∙ so_far

  pub functions_fail : (e : ItemFault) (indices : List ℕ) (i : ℕ) (earlier : List Func) (bytes : List ℕ) (total : Result (List Func × List ℕ) Stop) → i < length indices
      → Fails e (sized_function_at bounds types (get_or indices i 0) bytes) → more_functions_at bounds types (drop i indices) earlier bytes ≡ total → Fails e total
  unfolding more_functions_at
  functions_fail OutOfMemory indices i earlier bytes total lt h so_far = tt
  functions_fail (WithLeft kind left) indices i earlier bytes total lt h so_far =
      let one : more_functions_at bounds types (drop i indices) earlier bytes ≡ Err (stop kind left) =
      ap (λ (l : List ℕ). more_functions_at bounds types l earlier bytes) (front_is indices i lt) ∙ rw h refl in
      sym so_far ∙ one

  pub functions_start : (indices : List ℕ) (bytes : List ℕ) → more_functions_at bounds types (drop 0 indices) [] bytes ≡ more_functions_at bounds types indices [] bytes
  functions_start [] bytes = refl
  functions_start (i ∷ indices) bytes = refl

  nothing_left : (indices : List ℕ) (i : ℕ) → length indices ≤ i → drop i indices ≡ []
  nothing_left [] zero h = refl
  nothing_left [] (suc i) h = refl
  nothing_left (x ∷ indices) zero h = absurd (omega arith)
  nothing_left (x ∷ indices) (suc i) h = nothing_left indices i (omega arith)

  pub functions_done : (indices : List ℕ) (i : ℕ) (earlier : List Func) (bytes : List ℕ) (total : Result (List Func × List ℕ) Stop) → length indices ≤ i
      → more_functions_at bounds types (drop i indices) earlier bytes ≡ total → total ≡ Ok (earlier, bytes)
  unfolding more_functions_at
  functions_done indices i earlier bytes total le so_far =
      let one : more_functions_at bounds types (drop i indices) earlier bytes ≡ Ok (earlier, bytes) = ap (λ (l : List ℕ). more_functions_at bounds types l earlier bytes) (nothing_left indices i le) in
      sym so_far ∙ one
