-- A value that is put together from its bytes, the highest first.
use Rattle.std.proofs.Common.{◌≡◌, ℕ, zero, suc, ◌+◌, ◌-◌, ◌*◌, ◌/◌, ◌%◌, ◌^◌, ◌<◌, ◌≤◌, Bool, true, false, Option, None, refl, sym, ap, subst, ◌∙◌, arith}
use Rattle.std.specs.Prelude.{◌||◌, is_none}
use Rattle.std.proofs.lemmas.Nat.{pow-add}
use Rattle.std.proofs.Math.Nat.{div-add-mod, div-div-eq-div-mul, div-eq_of_lt, div-le_self, div-one, mod-eq_of_lt, pow-le-pow_right}
use Rattle.wm_event.specs.Byte.{byte_of}
use Rattle.wm_explore.specs.declared.values.Part.{Part}
use Rattle.wm_explore.specs.Values.{highest}

pow_next : (n : ℕ) → 2 ^ (8 * suc n) ≡ 256 * 2 ^ (8 * n)
pow_next n = let e : 8 * suc n ≡ 8 + 8 * n = omega arith in ap (λ k. 2 ^ k) e ∙ pow-add 2 8 (8 * n)

-- a number below 2^64 from its quotient and remainder by 256
put : (q : ℕ) → q < 2 ^ 64 → (q / 256 * 256 % 2 ^ 64 + q % 256) % 2 ^ 64 ≡ q
put q lt =
    let whole : 256 * (q / 256) + q % 256 ≡ q = div-add-mod q 256 in
    let low : q / 256 * 256 < 2 ^ 64 = omega (arith, whole, lt) in
    let first : q / 256 * 256 % 2 ^ 64 ≡ q / 256 * 256 = mod-eq_of_lt low in
    let sum : q / 256 * 256 + q % 256 ≡ q = omega (arith, whole) in
    ap (λ n. (n + q % 256) % 2 ^ 64) first ∙ ap (λ n. n % 2 ^ 64) sum ∙ mod-eq_of_lt lt

module _ (bytes : ℕ → Part) (mark : Option ℕ) (width r : ℕ) (narrow : width ≤ 8) (fits : r < 2 ^ (8 * width)) (each : (j : ℕ) → j < width → (bytes j).value ≡ byte_of r j) where
  below : r < 2 ^ 64
  below = let p : 2 ^ (8 * width) ≤ 2 ^ 64 = pow-le-pow_right {n = 2} (omega arith) {i = 8 * width} {j = 64} (omega (arith, narrow)) in omega (arith, p, fits)

  -- the highest bytes of a value are its quotient
  highest_value : (count : ℕ) → count ≤ width → (highest bytes mark width count).value ≡ r / 2 ^ (8 * (width - count))
  highest_value zero le =
      let all : 2 ^ (8 * width) ≡ 2 ^ (8 * (width - 0)) = ap (λ n. 2 ^ (8 * n)) (let none : width ≡ width - 0 = omega arith in none) in
      sym (div-eq_of_lt (subst (λ p. r < p) all fits))
  highest_value (suc count) le =
      let j = width - 1 - count in
      let next : width - count ≡ suc j = omega (arith, le) in
      let last : width - suc count ≡ j = omega (arith, le) in
      let p = 2 ^ (8 * j) in
      let power : 2 ^ (8 * (width - count)) ≡ p * 256 = ap (λ n. 2 ^ (8 * n)) next ∙ pow_next j ∙ (let turn : 256 * p ≡ p * 256 = omega arith in turn) in
      let before : (highest bytes mark width count).value ≡ r / p / 256 =
      highest_value count (omega (arith, le)) ∙ ap (λ n. r / n) power ∙ sym (div-div-eq-div-mul r p 256) in
      let byte : (bytes j).value ≡ r / p % 256 = each j (omega (arith, le)) in
      let small : r / p < 2 ^ 64 = (let le : r / p ≤ r = div-le_self r p in let b = below in omega (arith, le, b)) in
      ap (λ n. (n * 256 % 2 ^ 64 + (bytes j).value) % 2 ^ 64) before ∙ ap (λ n. (r / p / 256 * 256 % 2 ^ 64 + n) % 2 ^ 64) byte ∙ put (r / p) small ∙ ap (λ n. r / 2 ^ (8 * n)) (sym last)

  -- all bytes are the value
  pub whole_value : (highest bytes mark width width).value ≡ r
  whole_value =
      let none : width - width ≡ 0 = omega arith in
      highest_value width (omega arith) ∙ ap (λ n. r / 2 ^ (8 * n)) none ∙ div-one r

or_left : (a b : Bool) → a ≡ true → (a || b) ≡ true
or_left true b h = refl
or_left false b h = absurd (cc h)

or_right : (a b : Bool) → b ≡ true → (a || b) ≡ true
or_right true b h = refl
or_right false b h = h

module _ (bytes : ℕ → Part) (mark : Option ℕ) (width : ℕ) where
  -- what was new stays new
  stays_new : (count more : ℕ) → (highest bytes mark width count).is_new ≡ true → (highest bytes mark width (more + count)).is_new ≡ true
  stays_new count zero h = let same : count ≡ 0 + count = omega arith in subst (λ n. (highest bytes mark width n).is_new ≡ true) same h
  stays_new count (suc more) h =
      let next : suc (more + count) ≡ suc more + count = omega arith in
      subst (λ n. (highest bytes mark width n).is_new ≡ true) next (or_left (highest bytes mark width (more + count)).is_new (bytes (width - 1 - (more + count))).is_new (stays_new count more h))

  to_whole : (count : ℕ) → count ≤ width → (highest bytes mark width count).is_new ≡ true → (highest bytes mark width width).is_new ≡ true
  to_whole count le h = let sum : width - count + count ≡ width = omega (arith, le) in subst (λ n. (highest bytes mark width n).is_new ≡ true) sum (stays_new count (width - count) h)

  -- without a mark a value is new
  pub new_unmarked : mark ≡ None → (highest bytes mark width width).is_new ≡ true
  new_unmarked none = to_whole 0 (omega arith) (ap is_none none)

  -- and with a byte that is new
  pub new_by : (j : ℕ) → j < width → (bytes j).is_new ≡ true → (highest bytes mark width width).is_new ≡ true
  new_by j lt new =
      let count = width - 1 - j in
      let here : j ≡ width - 1 - count = omega (arith, lt) in
      to_whole (suc count) (omega (arith, lt)) (or_right (highest bytes mark width count).is_new (bytes (width - 1 - count)).is_new (subst (λ i. (bytes i).is_new ≡ true) here new))
