-- The value of an integer that is read byte by byte.
use Rattle.std.proofs.Common.{◌≡◌, ℕ, suc, ◌+◌, ◌*◌, ◌%◌, ◌^◌, ◌<◌, ◌≤◌, List, [], ◌∷◌, min, sym, ap, subst, ◌∙◌, arith}
use Rattle.std.specs.Prelude.{bit_and}
use Rattle.std.proofs.Math.Nat.{mod-lt, mul-le-mul, pow-le-pow_right, pow-suc}
use Rattle.std.proofs.lemmas.Nat.{and_mask}
use Rattle.wm_module_bytes.specs.Reading.{value_of}

seven_bits : (b : ℕ) → bit_and b 127 ≡ b % 128
seven_bits b = and_mask b 7

-- before the fifth byte no sum is too large
scale_below : (scale k : ℕ) → scale ≡ 128 ^ k → k < 5 → scale ≤ 268435456
scale_below scale k is below =
    let four : k ≤ 4 = omega arith in
    let some : 0 < 128 = omega arith in
    subst (λ (x : ℕ). x ≤ 268435456) (sym is) (pow-le-pow_right some four)

pub digit_added : (number scale k b part product sum : ℕ) → scale ≡ 128 ^ k → k < 5 → number < scale → part ≡ bit_and b 127 → product ≡ min (part * scale) 18446744073709551615
    → sum ≡ min (number + product) 18446744073709551615 → sum ≡ number + scale * (b % 128)
digit_added number scale k b part product sum is below small masked multiplied added =
    let bits : part ≡ b % 128 = masked ∙ seven_bits b in
    let low : b % 128 < 128 = mod-lt b (omega arith) in
    let few : part ≤ 127 = omega (arith, bits, low) in
    let most : scale ≤ 268435456 = scale_below scale k is below in
    let bound : part * scale ≤ 127 * 268435456 = mul-le-mul few most in
    let exact : product ≡ part * scale = omega (arith, multiplied, bound) in
    let whole : sum ≡ number + part * scale = omega (arith, added, exact, bound, small, most) in
    whole ∙ ap (λ (x : ℕ). number + x * scale) bits ∙ omega arith

pub scale_exact : (scale k new : ℕ) → scale ≡ 128 ^ k → k < 5 → new ≡ min (scale * 128) 18446744073709551615 → new ≡ scale * 128
scale_exact scale k new is below multiplied =
    let most : scale ≤ 268435456 = scale_below scale k is below in omega (arith, multiplied, most)

pub scale_more : (scale k new : ℕ) → scale ≡ 128 ^ k → new ≡ scale * 128 → new ≡ 128 ^ (k + 1)
scale_more scale k new is exact =
    let one : suc k ≡ k + 1 = omega arith in exact ∙ ap (λ (x : ℕ). x * 128) is ∙ sym (pow-suc 128 k) ∙ ap (λ (x : ℕ). 128 ^ x) one

pub small_more : (number scale new b sum : ℕ) → number < scale → new ≡ scale * 128 → sum ≡ number + scale * (b % 128) → sum < new
small_more number scale new b sum small is added =
    let below : b % 128 < 128 = mod-lt b (omega arith) in
    let low : b % 128 ≤ 127 = omega arith in
    let same : scale ≤ scale = omega arith in
    let bound : scale * (b % 128) ≤ scale * 127 = mul-le-mul same low in
    omega (arith, is, added, bound, small)

pub value_more : (number scale new b sum value : ℕ) (text todo : List ℕ) → value ≡ number + scale * value_of text → text ≡ b ∷ todo → new ≡ scale * 128 → sum ≡ number + scale * (b % 128)
    → value ≡ sum + new * value_of todo
value_more number scale new b sum value text todo before is scaled added =
    before ∙ ap (λ (t : List ℕ). number + scale * value_of t) is ∙ regroup number scale (b % 128) (value_of todo)
    ∙ ap (λ (x : ℕ). x + scale * 128 * value_of todo) (sym added) ∙ ap (λ (x : ℕ). sum + x * value_of todo) (sym scaled)
  where
    regroup : (n s d v : ℕ) → n + s * (d + 128 * v) ≡ n + s * d + s * 128 * v
    regroup n s d v = omega arith

pub value_last : (number scale b sum value : ℕ) (text : List ℕ) → value ≡ number + scale * value_of text → text ≡ b ∷ [] → sum ≡ number + scale * (b % 128) → value ≡ sum
value_last number scale b sum value text before is added =
    before ∙ ap (λ (t : List ℕ). number + scale * value_of t) is ∙ regroup number scale (b % 128) ∙ sym added
  where
    regroup : (n s d : ℕ) → n + s * (d + 128 * 0) ≡ n + s * d
    regroup n s d = omega arith

pub value_none : (text todo : List ℕ) → todo ≡ text → value_of text ≡ 0 + 1 * value_of todo
value_none text todo is = let same : value_of todo ≡ value_of text = ap value_of is in omega (arith, same)
