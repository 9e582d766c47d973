-- Custom sections are skipped.
use Rattle.std.proofs.Common.{◌≡◌, ℕ, zero, suc, ◌+◌, ◌≤◌, ◌<◌, cond, eqb, List, [], ◌∷◌, ◌++◌, length, get_or, Result, Ok, Err, refl, sym, ap, subst, ◌∙◌, arith, length-append}
use Rattle.std.proofs.lemmas.Bool.{ne_eqb}
use Rattle.wm_decode.specs.declared.fault.ItemFault.{ItemFault}
use Rattle.wm_decode.specs.declared.fault.ItemFault.TheVariants.{OutOfMemory, WithLeft}
use Rattle.wm_decode.specs.declared.fault.FaultKind.TheVariants.{SectionSize}
use Rattle.wm_decode.specs.Stop.{Stop, stop, before, map_stop}
use Rattle.wm_decode.specs.Implements.{Fails}
use Rattle.wm_decode.specs.Numbers.{IsBytes}
use Rattle.wm_decode.specs.Reading.{◌>>=◌}
use Rattle.wm_decode.specs.ReadingVectors.{byte_vector_at, filled_at, sized_at}
use Rattle.wm_decode.specs.ReadingModule.{custom_at, customs_at, customs_in}
use Rattle.wm_decode.proofs.Steps.{bound, met, pair_is, fits_behind, bind_same}
use Rattle.wm_decode.proofs.Lawful.{byte_vector_takes}
use Rattle.wm_decode.proofs.Left.{Within, rest_of, sized_short, custom_short}
use Rattle.wm_decode.proofs.SoFar.{tail_of, front_is}

-- what comes after a value with its size
filled_rest : {X : Type 0} (item_at : List ℕ → Result (X × List ℕ) Stop) (content : List ℕ × List ℕ) (x : X) (rest : List ℕ) → filled_at item_at content ≡ Ok (x, rest) → content.1 ≡ rest
unfolding filled_at
filled_rest {X} item_at content x rest e =
    let last = λ (y : X × List ℕ). let k : Result (X × List ℕ) Stop = cond (eqb (length y.1) 0) (Ok (y.0, content.1)) (Err (stop SectionSize (length y.1 + length content.1))) in k in
    let b = bound (map_stop (before (length content.1)) (item_at content.0)) last (x, rest) e in
    let m = met _ (eqb (length b.0.1) 0) (let k : Result (X × List ℕ) Stop = Ok (b.0.0, content.1) in k) (x, rest) b.2 in
    (pair_is (b.0.0, content.1) (x, rest) m.1).1

pub sized_rest : {X : Type 0} (item_at : List ℕ → Result (X × List ℕ) Stop) (bytes : List ℕ) (x : X) (rest : List ℕ) → IsBytes bytes → sized_at item_at bytes ≡ Ok (x, rest) → (text : List ℕ) × (bytes ≡ text ++ rest)
unfolding sized_at
sized_rest {X} item_at bytes x rest fits e =
    let a = bound (byte_vector_at bytes) (filled_at item_at) (x, rest) e in
    let t = byte_vector_takes bytes a.0.0 a.0.1 fits a.1 in
    (t.0, t.1 ∙ ap (λ (l : List ℕ). t.0 ++ l) (filled_rest item_at a.0 x rest a.2))

custom_leaves : (bytes : List ℕ) (y : List ℕ × List ℕ) → sized_at custom_at bytes ≡ Ok y → length y.1 ≤ length bytes
custom_leaves bytes y e = subst (Within rest_of (length bytes)) e (sized_short custom_at custom_short bytes)

pub customs_same : (f g : ℕ) (bytes : List ℕ) → length bytes ≤ f → length bytes ≤ g → customs_at f bytes ≡ customs_at g bytes
unfolding customs_at
customs_same zero zero bytes a b = refl
customs_same zero (suc g) [] a b = refl
customs_same zero (suc g) (x ∷ bytes) a b = absurd (omega arith)
customs_same (suc f) zero [] a b = refl
customs_same (suc f) zero (x ∷ bytes) a b = absurd (omega arith)
customs_same (suc f) (suc g) [] a b = refl
customs_same (suc f) (suc g) (x ∷ bytes) a b =
    ap (λ (o : Result (List ℕ) Stop). cond (eqb x 0) o (Ok (x ∷ bytes))) (bind_same (sized_at custom_at bytes) (λ y. customs_at f y.1) (λ y. customs_at g y.1) (λ y e.
    let le = custom_leaves bytes y e in
    customs_same f g y.1 (omega arith) (omega arith)))

-- one custom section, and those after it
pub customs_cons : (bytes : List ℕ) → customs_in (0 ∷ bytes) ≡ (sized_at custom_at bytes >>= λ y. customs_in y.1)
unfolding customs_at
customs_cons bytes = bind_same (sized_at custom_at bytes) (λ y. customs_at (length bytes) y.1) (λ y. customs_in y.1) (λ y e. customs_same (length bytes) (length y.1) y.1 (custom_leaves bytes y e) (omega arith))

-- no custom section
pub customs_none : (bytes : List ℕ) → (0 < length bytes → get_or bytes 0 0 ≡ 0 → ⊥) → customs_in bytes ≡ Ok bytes
unfolding customs_at
customs_none [] h = refl
customs_none (b ∷ bytes) h = rw (ne_eqb b 0 (h (omega arith))) refl

-- a loop over custom sections
pub record Skipped (rest bytes : List ℕ) : Type 0 where
  pub same : customs_in rest ≡ customs_in bytes
  pub fits : IsBytes rest

module _ (rest bytes : List ℕ) (s : Skipped rest bytes) (long : 0 < length rest) (first : get_or rest 0 0 ≡ 0) where
  tail_fits : IsBytes (tail_of rest)
  tail_fits = let fits : IsBytes (get_or rest 0 0 ∷ tail_of rest) = subst IsBytes (front_is rest long) s.fits in fits.1

  unfolds : customs_in rest ≡ (sized_at custom_at (tail_of rest) >>= λ y. customs_in y.1)
  unfolds = ap customs_in (front_is rest long) ∙ ap (λ (k : ℕ). customs_in (k ∷ tail_of rest)) first ∙ customs_cons (tail_of rest)

  pub skips : (name after : List ℕ) → sized_at custom_at (tail_of rest) ≡ Ok (name, after) → Skipped after bytes
  skips name after e =
      let t = sized_rest custom_at (tail_of rest) name after tail_fits e in
      let one : customs_in rest ≡ customs_in after = unfolds ∙ rw e refl in
      record { same = sym one ∙ s.same; fits = fits_behind (tail_of rest) t.0 after tail_fits t.1 }

  pub shrinks : (name after : List ℕ) → sized_at custom_at (tail_of rest) ≡ Ok (name, after) → length after < length rest
  shrinks name after e =
      let t = sized_rest custom_at (tail_of rest) name after tail_fits e in
      omega (arith, ap length t.1, length-append t.0 after, ap length (front_is rest long))

  pub fails : (e : ItemFault) → Fails e (sized_at custom_at (tail_of rest)) → Fails e (customs_in bytes)
  fails OutOfMemory h = tt
  fails (WithLeft kind left) h = let one : customs_in rest ≡ Err (stop kind left) = unfolds ∙ rw h refl in sym s.same ∙ one
