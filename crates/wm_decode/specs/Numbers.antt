-- Integers as bytes (Core 1.0, section 5.2.2): seven bits in each byte, the low ones first, and 128 is added if another
-- byte follows.
use Rattle.std.specs.Prelude.{◌≡◌, ◌^◌, ℕ, ◌+◌, ◌-◌, ◌*◌, ◌/◌, ◌<◌, ◌≤◌, List, [], ◌∷◌}

-- The bytes spell an unsigned integer from 0 to most, which is 2 ^ N - 1. There are at most N / 7 of them, rounded up,
-- and unused bits are 0.
pub data Unsigned : ℕ → List ℕ → ℕ → Type 0 where
  last : {most b : ℕ} → b < 128 → b ≤ most → Unsigned most (b ∷ []) b
  more : {most b high : ℕ} {text : List ℕ} → b < 128 → 128 ≤ most → Unsigned (most / 128) text high → Unsigned most ((128 + b) ∷ text) (b + 128 * high)

-- The bytes spell a signed integer, given as its two's complement: b, or most - b for -1 - b. Unused bits repeat the
-- sign.
pub data Signed : ℕ → List ℕ → ℕ → Type 0 where
  positive : {most b : ℕ} → b < 64 → b ≤ most / 2 → Signed most (b ∷ []) b
  negative : {most b : ℕ} → b < 64 → b ≤ most / 2 → Signed most ((127 - b) ∷ []) (most - b)
  signed_more : {most b high : ℕ} {text : List ℕ} → b < 128 → 128 ≤ most → Signed (most / 128) text high → Signed most ((128 + b) ∷ text) (b + 128 * high)

-- The bytes spell a u32, such as a count, a size or an index.
abbrev pub U32 : List ℕ → ℕ → Type 0
U32 text n = Unsigned (2 ^ 32 - 1) text n

-- The greatest integer of some number of bits.
abbrev pub IsMost : ℕ → Type 0
IsMost most = (k : ℕ) × (most + 1 ≡ 2 ^ k)

abbrev pub IsBytes : List ℕ → Type 0
IsBytes [] = Unit {0}
IsBytes (b ∷ bytes) = (b < 256) × IsBytes bytes
