-- What is read is spelled so, and what is spelled so is read, whatever follows.
use Rattle.std.proofs.Common.{◌≡◌, ℕ, zero, suc, ◌+◌, ◌-◌, ◌*◌, ◌/◌, ◌<◌, ◌≤◌, cond, ltb, List, [], ◌∷◌, ◌++◌, length, Result, Ok, Err, refl, ap, subst, ◌∙◌, arith, inl, inr}
use Rattle.std.proofs.lemmas.Bool.{ltb-false, le-ltb, ltb-true, lt-ltb}
use Rattle.wm_decode.specs.Numbers.{Unsigned, Signed, last, more, positive, negative, signed_more, IsBytes}
use Rattle.wm_decode.specs.declared.fault.FaultKind.TheVariants.{BadNumber}
use Rattle.wm_decode.specs.Stop.{Stop, stop, moved}
use Rattle.wm_decode.specs.Reading.{◌>>=◌, faulted_at, unsigned_at, signed_at}
use Rattle.wm_decode.proofs.Steps.{bound, chosen, passed, pair_is, unmapped}

pub unsigned_again : {most : ℕ} {text : List ℕ} {n : ℕ} → Unsigned most text n → (rest : List ℕ) → unsigned_at most (text ++ rest) ≡ Ok (n, rest)
unfolding unsigned_at
unsigned_again (last {most = m} {b = b} small fits) rest = rw (lt-ltb b 128 small, le-ltb m b fits) refl
unsigned_again (more {most = m} {b = b} {high = h} small long d) rest =
    let back : (128 + b) - 128 ≡ b = omega arith in
    rw (le-ltb (128 + b) 128 (omega arith), le-ltb m 128 long, unsigned_again d rest, back) refl

pub signed_again : {most : ℕ} {text : List ℕ} {n : ℕ} → Signed most text n → (rest : List ℕ) → signed_at most (text ++ rest) ≡ Ok (n, rest)
unfolding signed_at
signed_again (positive {most = m} {b = b} small fits) rest = rw (lt-ltb b 64 small, le-ltb (m / 2) b fits) refl
signed_again (negative {most = m} {b = b} small fits) rest =
    let back : 127 - (127 - b) ≡ b = omega arith in
    rw (le-ltb (127 - b) 64 (omega arith), lt-ltb (127 - b) 128 (omega arith), back, le-ltb (m / 2) b fits) refl
signed_again (signed_more {most = m} {b = b} {high = h} small long d) rest =
    let back : (128 + b) - 128 ≡ b = omega arith in
    rw (le-ltb (128 + b) 64 (omega arith), le-ltb (128 + b) 128 (omega arith), le-ltb m 128 long, signed_again d rest, back) refl

pub unsigned_takes : (most : ℕ) (bytes : List ℕ) (n : ℕ) (rest : List ℕ) → IsBytes bytes → unsigned_at most bytes ≡ Ok (n, rest) → (text : List ℕ) × (bytes ≡ text ++ rest) × Unsigned most text n
unfolding unsigned_at
unsigned_takes most [] n rest fits e = absurd cc
unsigned_takes most (b ∷ bytes) n rest fits e =
    let bad : Stop = stop BadNumber (length (b ∷ bytes)) in
    let go_on : Result (ℕ × List ℕ) Stop = faulted_at (b ∷ bytes) (unsigned_at (most / 128) bytes) >>= λ x. Ok ((b - 128) + 128 * x.0, x.1) in
    elim (chosen (ltb b 128) (cond (ltb most b) (Err bad) (Ok (b, bytes))) (cond (ltb most 128) (Err bad) go_on) (Ok (n, rest)) e) [
      | inl h ↦
          let p = passed _ (ltb most b) (Ok (b, bytes)) (n, rest) h.1 in
          let is = pair_is (b, bytes) (n, rest) p.1 in
          (b ∷ [], ap (λ (t : List ℕ). b ∷ t) is.1, subst (λ (k : ℕ). Unsigned most (b ∷ []) k) is.0 (last (ltb-true b 128 h.0) (ltb-false most b p.0)))
      | inr h ↦
          let p = passed _ (ltb most 128) go_on (n, rest) h.1 in
          let q = bound (faulted_at (b ∷ bytes) (unsigned_at (most / 128) bytes)) (λ x. Ok ((b - 128) + 128 * x.0, x.1)) (n, rest) p.1 in
          let is = pair_is ((b - 128) + 128 * q.0.0, q.0.1) (n, rest) q.2 in
          let r = unsigned_takes (most / 128) bytes q.0.0 q.0.1 fits.1 (unmapped (moved (length (b ∷ bytes))) (unsigned_at (most / 128) bytes) q.0 q.1) in
          let big : 128 ≤ b = ltb-false b 128 h.0 in
          let long : 128 ≤ most = ltb-false most 128 p.0 in
          let small : b - 128 < 128 = omega (arith, fits.0) in
          let b-is : 128 + (b - 128) ≡ b = omega arith in
          let d : Unsigned most ((128 + (b - 128)) ∷ r.0) ((b - 128) + 128 * q.0.0) = more small long r.2 in
          (b ∷ r.0, ap (λ (t : List ℕ). b ∷ t) (r.1 ∙ ap (λ (t : List ℕ). r.0 ++ t) is.1), subst (λ (k : ℕ). Unsigned most (k ∷ r.0) n) b-is (subst (λ (k : ℕ). Unsigned most ((128 + (b - 128)) ∷ r.0) k) is.0 d))
    ]

pub signed_takes : (most : ℕ) (bytes : List ℕ) (n : ℕ) (rest : List ℕ) → IsBytes bytes → signed_at most bytes ≡ Ok (n, rest) → (text : List ℕ) × (bytes ≡ text ++ rest) × Signed most text n
unfolding signed_at
signed_takes most [] n rest fits e = absurd cc
signed_takes most (b ∷ bytes) n rest fits e =
    let bad : Stop = stop BadNumber (length (b ∷ bytes)) in
    let go_on : Result (ℕ × List ℕ) Stop = faulted_at (b ∷ bytes) (signed_at (most / 128) bytes) >>= λ x. Ok ((b - 128) + 128 * x.0, x.1) in
    elim (chosen (ltb b 64) (cond (ltb (most / 2) b) (Err bad) (Ok (b, bytes))) (cond (ltb b 128) (cond (ltb (most / 2) (127 - b)) (Err bad) (Ok (most - (127 - b), bytes))) (cond (ltb most 128) (Err bad) go_on)) (Ok (n, rest)) e) [
      | inl h ↦
          let p = passed _ (ltb (most / 2) b) (Ok (b, bytes)) (n, rest) h.1 in
          let is = pair_is (b, bytes) (n, rest) p.1 in
          (b ∷ [], ap (λ (t : List ℕ). b ∷ t) is.1, subst (λ (k : ℕ). Signed most (b ∷ []) k) is.0 (positive (ltb-true b 64 h.0) (ltb-false (most / 2) b p.0)))
      | inr g ↦ elim (chosen (ltb b 128) (cond (ltb (most / 2) (127 - b)) (Err bad) (Ok (most - (127 - b), bytes))) (cond (ltb most 128) (Err bad) go_on) (Ok (n, rest)) g.1) [
        | inl h ↦
            let p = passed _ (ltb (most / 2) (127 - b)) (Ok (most - (127 - b), bytes)) (n, rest) h.1 in
            let is = pair_is (most - (127 - b), bytes) (n, rest) p.1 in
            let from : 64 ≤ b = ltb-false b 64 g.0 in
            let below : b < 128 = ltb-true b 128 h.0 in
            let b-is : 127 - (127 - b) ≡ b = omega arith in
            let d : Signed most ((127 - (127 - b)) ∷ []) (most - (127 - b)) = negative (omega arith) (ltb-false (most / 2) (127 - b) p.0) in
            (b ∷ [], ap (λ (t : List ℕ). b ∷ t) is.1, subst (λ (k : ℕ). Signed most (k ∷ []) n) b-is (subst (λ (k : ℕ). Signed most ((127 - (127 - b)) ∷ []) k) is.0 d))
        | inr h ↦
            let p = passed _ (ltb most 128) go_on (n, rest) h.1 in
            let q = bound (faulted_at (b ∷ bytes) (signed_at (most / 128) bytes)) (λ x. Ok ((b - 128) + 128 * x.0, x.1)) (n, rest) p.1 in
            let is = pair_is ((b - 128) + 128 * q.0.0, q.0.1) (n, rest) q.2 in
            let r = signed_takes (most / 128) bytes q.0.0 q.0.1 fits.1 (unmapped (moved (length (b ∷ bytes))) (signed_at (most / 128) bytes) q.0 q.1) in
            let big : 128 ≤ b = ltb-false b 128 h.0 in
            let small : b - 128 < 128 = omega (arith, fits.0) in
            let b-is : 128 + (b - 128) ≡ b = omega arith in
            let d : Signed most ((128 + (b - 128)) ∷ r.0) ((b - 128) + 128 * q.0.0) = signed_more small (ltb-false most 128 p.0) r.2 in
            (b ∷ r.0, ap (λ (t : List ℕ). b ∷ t) (r.1 ∙ ap (λ (t : List ℕ). r.0 ++ t) is.1), subst (λ (k : ℕ). Signed most (k ∷ r.0) n) b-is (subst (λ (k : ℕ). Signed most ((128 + (b - 128)) ∷ r.0) k) is.0 d))
      ]
    ]

-- a number up to most has at most d bytes
abbrev pub Digits : ℕ → ℕ → Type 0
Digits zero most = ⊥
Digits (suc d) most = 128 ≤ most → Digits d (most / 128)

pub unsigned_length : (d : ℕ) {most n : ℕ} {text : List ℕ} → Digits d most → Unsigned most text n → length text ≤ d
unsigned_length zero digits u = absurd digits
unsigned_length (suc d) digits (last small fits) = omega arith
unsigned_length (suc d) digits (more {text = text} small long u) = omega (arith, unsigned_length d (digits long) u)
