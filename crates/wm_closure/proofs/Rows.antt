-- Rows of one width, one after the other.
use Rattle.std.proofs.Common.{◌≢◌, ℕ, ◌+◌, ◌*◌, ◌<◌, ◌≤◌, arith, ◌⊎◌, inl, inr, ⊎_elim}
use Rattle.std.proofs.lemmas.Bool.{cases_lt}
use Rattle.std.proofs.Math.Nat.{mul-le-mul_right}

-- the row of an earlier node ends before that of a later one
pub row_before : (width a b : ℕ) → a < b → a * width + width ≤ b * width
row_before width a b l =
    let next : a + 1 ≤ b = omega arith in
    let p : (a + 1) * width ≤ b * width = mul-le-mul_right width next in
    omega (arith, p)

-- an entry of another row is before this row or after it
pub row_apart : (width a b lane : ℕ) → a ≢ b → lane < width → (a * width + lane < b * width) ⊎ (b * width + width ≤ a * width + lane)
row_apart width a b lane d inside = ⊎_elim
    (λ (l : a < b). let p : a * width + width ≤ b * width = row_before width a b l in inl (omega (arith, p, inside)))
    (λ (l : b ≤ a).
    let less : b < a = omega (arith, l, d) in
    let p : b * width + width ≤ a * width = row_before width b a less in inr (omega (arith, p)))
    (cases_lt a b)

-- entries of two rows are at two places
pub places_apart : (width a b l m : ℕ) → a ≢ b → l < width → m < width → a * width + l ≢ b * width + m
places_apart width a b l m d li mi e = ⊎_elim
    (λ (p : a * width + l < b * width). omega (arith, p, e))
    (λ (p : b * width + width ≤ a * width + l). omega (arith, p, e, mi))
    (row_apart width a b l d li)
