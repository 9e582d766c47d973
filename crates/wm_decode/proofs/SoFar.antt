-- Reading instructions one after the other, as a loop does.
use Rattle.std.proofs.Common.{◌≡◌, ℕ, ◌+◌, ◌-◌, ◌<◌, cond, eqb, List, [], ◌∷◌, ◌++◌, length, get_or, take, drop, Result, Ok, Err, refl, sym, ap, subst, ◌∙◌, arith, append_assoc, length-append, ◌⊎◌, inl, inr}
use Rattle.std.proofs.lemmas.Bool.{ne_eqb, eq-eqb}
use Rattle.std.proofs.lemmas.List.{append-nil}
use Rattle.std.proofs.Math.Seq.{take-length}
use Rattle.wm_ast.specs.declared.instr.Instr.{Instr}
use Rattle.wm_decode.specs.declared.fault.ItemFault.{ItemFault}
use Rattle.wm_decode.specs.declared.fault.ItemFault.TheVariants.{OutOfMemory, WithLeft}
use Rattle.wm_decode.specs.Numbers.{IsBytes}
use Rattle.wm_decode.specs.Stop.{Stop, ended}
use Rattle.wm_decode.specs.Implements.{Fails}
use Rattle.wm_decode.specs.Reading.{◌>>=◌}
use Rattle.wm_decode.specs.ReadingInstructions.{Body, One, instrs_at, instrs_in, instr_in}
use Rattle.wm_decode.proofs.BodyAgain.{after, IsCloser, ends, at_else}
use Rattle.wm_decode.proofs.Fuel.{instrs_cons, one_fits, one_shorter}

-- what was read before, and what is still read
abbrev pub with_front : List Instr → List (List Instr) → Result Body Stop → Result Body Stop
with_front is bs read = read >>= λ b. Ok (record { instrs = is ++ b.instrs; nested = bs ++ b.nested; closer = b.closer; rest = b.rest })

pub record SoFar (depth_left : ℕ) (old new : List (List Instr)) (bytes rest : List ℕ) (found : List Instr) : Type 0 where
  pub begun : List (List Instr)
  pub grows : new ≡ old ++ begun
  pub same : with_front found begun (instrs_in depth_left (length new) rest) ≡ instrs_in depth_left (length old) bytes
  pub fits : IsBytes rest

no_front : (o : Result Body Stop) → with_front [] [] o ≡ o
no_front (Ok b) = refl
no_front (Err s) = refl

regroup : (is : List Instr) (bs : List (List Instr)) (one : One) (o : Result Body Stop) → with_front is bs (after one o) ≡ with_front (is ++ one.instr ∷ []) (bs ++ one.nested) o
regroup is bs one (Ok b) = simp append_assoc
regroup is bs one (Err s) = refl

pub starts : (depth_left : ℕ) (old : List (List Instr)) (bytes : List ℕ) → IsBytes bytes → SoFar depth_left old old bytes bytes []
starts depth_left old bytes fits = record { begun = []; grows = sym (append-nil old); same = no_front (instrs_in depth_left (length old) bytes); fits = fits }

-- the bytes after the first, as a pattern gives them
abbrev pub tail_of : List ℕ → List ℕ
tail_of rest = take (length rest - 1) (drop 1 rest)

pub front_is : (rest : List ℕ) → 0 < length rest → rest ≡ get_or rest 0 0 ∷ tail_of rest
front_is [] h = absurd (omega arith)
front_is (b ∷ rest) h = let k : length (b ∷ rest) - 1 ≡ length rest = omega arith in ap (λ (t : List ℕ). b ∷ t) (sym (rw k (take-length rest)))

-- what is still read, where the next byte closes nothing
next_one : (depth_left : ℕ) (old new : List (List Instr)) (bytes rest : List ℕ) (found : List Instr) (s : SoFar depth_left old new bytes rest found) → 0 < length rest → (get_or rest 0 0 ≡ 0x0B → ⊥) → (get_or rest 0 0 ≡ 0x05 → ⊥)
    → with_front found s.begun (instr_in depth_left (length new) (get_or rest 0 0) (tail_of rest) >>= λ one. after one (instrs_in depth_left (length new + length one.nested) one.rest)) ≡ instrs_in depth_left (length old) bytes
next_one depth_left old new bytes rest found s long n1 n2 =
    let op = get_or rest 0 0 in
    let more = tail_of rest in
    let fits : IsBytes (op ∷ more) = subst IsBytes (front_is rest long) s.fits in
    let unfolds : instrs_in depth_left (length new) rest ≡ (instr_in depth_left (length new) op more >>= λ one. after one (instrs_in depth_left (length new + length one.nested) one.rest)) =
    ap (instrs_in depth_left (length new)) (front_is rest long) ∙ instrs_cons depth_left (length new) op more ∙ rw (ne_eqb op 0x0B n1, ne_eqb op 0x05 n2) refl in
    sym (ap (with_front found s.begun) unfolds) ∙ s.same

pub goes_on : (depth_left : ℕ) (old new newer : List (List Instr)) (bytes rest : List ℕ) (found : List Instr) (s : SoFar depth_left old new bytes rest found) → 0 < length rest → (get_or rest 0 0 ≡ 0x0B → ⊥) → (get_or rest 0 0 ≡ 0x05 → ⊥)
    → (i : Instr) (nested : List (List Instr)) (left : List ℕ) → newer ≡ new ++ nested → instr_in depth_left (length new) (get_or rest 0 0) (tail_of rest) ≡ Ok (record { instr = i; nested = nested; rest = left })
    → SoFar depth_left old newer bytes left (found ++ i ∷ [])
goes_on depth_left old new newer bytes rest found s long n1 n2 i nested left grew read =
    let one : One = record { instr = i; nested = nested; rest = left } in
    let fits : IsBytes (get_or rest 0 0 ∷ tail_of rest) = subst IsBytes (front_is rest long) s.fits in
    let len : length newer ≡ length new + length nested = ap length grew ∙ length-append new nested in
    record {
      begun = s.begun ++ nested;
      grows = grew ∙ ap (λ (t : List (List Instr)). t ++ nested) s.grows ∙ append_assoc old s.begun nested;
      same = ap (λ (n : ℕ). with_front (found ++ i ∷ []) (s.begun ++ nested) (instrs_in depth_left n left)) len
          ∙ sym (regroup found s.begun one (instrs_in depth_left (length new + length nested) left))
          ∙ ap (λ (o : Result One Stop). with_front found s.begun (o >>= λ one. after one (instrs_in depth_left (length new + length one.nested) one.rest))) (sym read)
          ∙ next_one depth_left old new bytes rest found s long n1 n2;
      fits = one_fits depth_left (length new) (get_or rest 0 0) (tail_of rest) one fits.0 fits.1 read;
    }

pub fails : (e : ItemFault) (depth_left : ℕ) (old new : List (List Instr)) (bytes rest : List ℕ) (found : List Instr) (s : SoFar depth_left old new bytes rest found) → 0 < length rest → (get_or rest 0 0 ≡ 0x0B → ⊥) → (get_or rest 0 0 ≡ 0x05 → ⊥)
    → Fails e (instr_in depth_left (length new) (get_or rest 0 0) (tail_of rest)) → Fails e (instrs_in depth_left (length old) bytes)
fails OutOfMemory depth_left old new bytes rest found s long n1 n2 h = tt
fails (WithLeft kind left) depth_left old new bytes rest found s long n1 n2 h =
    sym (next_one depth_left old new bytes rest found s long n1 n2) ∙ ap (λ (o : Result One Stop). with_front found s.begun (o >>= λ one. after one (instrs_in depth_left (length new + length one.nested) one.rest))) h

shut : (op : ℕ) (b : Body) → (op ≡ 0x0B) ⊎ (op ≡ 0x05) → (o : Result Body Stop) → cond (eqb op 0x0B) (Ok b) (cond (eqb op 0x05) (Ok b) o) ≡ Ok b
shut op b (inl h) o = rw (eq-eqb op 0x0B h) refl
shut op b (inr h) o = rw h refl

pub closes : (depth_left : ℕ) (old new : List (List Instr)) (bytes rest : List ℕ) (found : List Instr) (s : SoFar depth_left old new bytes rest found) → 0 < length rest → (get_or rest 0 0 ≡ 0x0B) ⊎ (get_or rest 0 0 ≡ 0x05)
    → instrs_in depth_left (length old) bytes ≡ Ok (record { instrs = found; nested = s.begun; closer = get_or rest 0 0; rest = tail_of rest })
closes depth_left old new bytes rest found s long h =
    let op = get_or rest 0 0 in
    let more = tail_of rest in
    let fits : IsBytes (op ∷ more) = subst IsBytes (front_is rest long) s.fits in
    let closed : Body = record { instrs = []; nested = []; closer = op; rest = more } in
    let unfolds : instrs_in depth_left (length new) rest ≡ Ok closed =
    ap (instrs_in depth_left (length new)) (front_is rest long) ∙ instrs_cons depth_left (length new) op more ∙ shut op closed h (instr_in depth_left (length new) op more >>= λ one. after one (instrs_in depth_left (length new + length one.nested) one.rest)) in
    sym s.same ∙ ap (with_front found s.begun) unfolds ∙ simp append-nil

pub is_short : (depth_left : ℕ) (old new : List (List Instr)) (bytes rest : List ℕ) (found : List Instr) → SoFar depth_left old new bytes rest found → length rest ≡ 0 → instrs_in depth_left (length old) bytes ≡ Err ended
unfolding instrs_at
is_short depth_left old new bytes [] found s h = sym s.same
is_short depth_left old new bytes (b ∷ rest) found s h = absurd (omega arith)

pub ends_it : (closer : ℕ) → IsCloser closer → (closer ≡ 0x05 → ⊥) → closer ≡ 0x0B
ends_it closer ends n = refl
ends_it closer at_else n = absurd (n refl)

pub shrinks : (depth_left : ℕ) (old new : List (List Instr)) (bytes rest : List ℕ) (found : List Instr) → SoFar depth_left old new bytes rest found → 0 < length rest
    → (i : Instr) (nested : List (List Instr)) (left : List ℕ) → instr_in depth_left (length new) (get_or rest 0 0) (tail_of rest) ≡ Ok (record { instr = i; nested = nested; rest = left }) → length left < length rest
shrinks depth_left old new bytes rest found s long i nested left read =
    let fits : IsBytes (get_or rest 0 0 ∷ tail_of rest) = subst IsBytes (front_is rest long) s.fits in
    omega (arith, one_shorter depth_left (length new) (get_or rest 0 0) (tail_of rest) (record { instr = i; nested = nested; rest = left }) fits.0 fits.1 read, ap length (front_is rest long))
