-- The bytes of integers, as the decoder's grammar has them, are those that a reader of bytes reads.
use Rattle.std.proofs.Common.{◌≡◌, ℕ, zero, suc, ◌+◌, ◌-◌, ◌*◌, ◌/◌, ◌%◌, ◌^◌, ◌<◌, ◌≤◌, List, [], ◌++◌, length, ap, subst, ◌∙◌, arith}
use Rattle.std.proofs.Math.Nat.{mod-eq_of_lt, pow-suc}
use Rattle.wm_decode.specs.Numbers.{Unsigned, U32, Signed, last, more, positive, negative, signed_more}
use Rattle.wm_decode.specs.Vectors.{Each, no_more, one_more}
use Rattle.wm_module_bytes.specs.Reading.{AreNumbers, IsNumber, IsSized, value_of}
use Rattle.wm_module_bytes.specs.Reading as read

low_bits : (b : ℕ) → b < 128 → b % 128 ≡ b
low_bits b below = mod-eq_of_lt below

high_bits : (b : ℕ) → b < 128 → (128 + b) % 128 ≡ b
high_bits b below = omega arith

pub unsigned_number : {most n : ℕ} {text : List ℕ} → Unsigned most text n → IsNumber text
unsigned_number (last below fits) = read.last below
unsigned_number (more {b = b} below room high) =
    let above : 128 ≤ 128 + b = omega arith in read.more above (unsigned_number high)

pub unsigned_value : {most n : ℕ} {text : List ℕ} → Unsigned most text n → value_of text ≡ n
unsigned_value (last {b = b} below fits) =
    let low = low_bits b below in omega (arith, low)
unsigned_value (more {b = b} {high = high} {text = text} below room rest) =
    let low = high_bits b below in
    let value = unsigned_value rest in
    ap (λ (x : ℕ). x + 128 * value_of text) low ∙ ap (λ (x : ℕ). b + 128 * x) value

-- an integer below a power of 128 has at most so many bytes
seventh : (most k : ℕ) → most < 128 ^ suc k → most / 128 < 128 ^ k
seventh most k below =
    let power : 128 ^ suc k ≡ 128 ^ k * 128 = pow-suc 128 k in omega (arith, below, power)

pub unsigned_short : {most n : ℕ} {text : List ℕ} (k : ℕ) → Unsigned most text n → most < 128 ^ suc k → length text ≤ suc k
unsigned_short k (last below fits) most_below = omega arith
unsigned_short zero (more below room high) most_below = absurd (omega (arith, room, most_below))
unsigned_short (suc k) (more {most = most} below room high) most_below =
    let shorter = unsigned_short k high (seventh most (suc k) most_below) in omega (arith, shorter)

pub signed_number : {most n : ℕ} {text : List ℕ} → Signed most text n → IsNumber text
signed_number (positive {b = b} below fits) =
    let low : b < 128 = omega arith in read.last low
signed_number (negative {b = b} below fits) =
    let low : 127 - b < 128 = omega arith in read.last low
signed_number (signed_more {b = b} below room high) =
    let above : 128 ≤ 128 + b = omega arith in read.more above (signed_number high)

pub signed_short : {most n : ℕ} {text : List ℕ} (k : ℕ) → Signed most text n → most < 128 ^ suc k → length text ≤ suc k
signed_short k (positive below fits) most_below = omega arith
signed_short k (negative below fits) most_below = omega arith
signed_short zero (signed_more below room high) most_below = absurd (omega (arith, room, most_below))
signed_short (suc k) (signed_more {most = most} below room high) most_below =
    let shorter = signed_short k high (seventh most (suc k) most_below) in omega (arith, shorter)

-- ---- integers of 32 and 64 bits

pub u32_number : {text : List ℕ} {n : ℕ} → U32 text n → IsNumber text
u32_number spelled = unsigned_number spelled

pub u32_value : {text : List ℕ} {n : ℕ} → U32 text n → value_of text ≡ n
u32_value spelled = unsigned_value spelled

pub u32_short : {text : List ℕ} {n : ℕ} → U32 text n → length text ≤ 5
u32_short spelled = unsigned_short 4 spelled (omega arith)

pub u32_shorter : {text : List ℕ} {n : ℕ} → U32 text n → length text ≤ 10
u32_shorter spelled = let short = u32_short spelled in omega (arith, short)

pub signed_32_short : {text : List ℕ} {n : ℕ} → Signed (2 ^ 32 - 1) text n → length text ≤ 10
signed_32_short spelled =
    let short = signed_short 4 spelled (omega arith) in omega (arith, short)

pub signed_64_short : {text : List ℕ} {n : ℕ} → Signed (2 ^ 64 - 1) text n → length text ≤ 10
signed_64_short spelled = signed_short 9 spelled (omega arith)

pub sized : {size contents : List ℕ} → U32 size (length contents) → IsSized size contents
sized spelled = record { number = u32_number spelled; short = u32_short spelled; sized = u32_value spelled }

-- one integer, and two
pub one_number : {text : List ℕ} → IsNumber text → length text ≤ 10 → AreNumbers 1 (text ++ [])
one_number number short = read.one_more number short read.no_number

pub two_numbers : {first second : List ℕ} → IsNumber first → length first ≤ 10 → IsNumber second → length second ≤ 10 → AreNumbers 2 (first ++ (second ++ []))
two_numbers number short other other_short = read.one_more number short (one_number other other_short)

pub each_numbers : {text : List ℕ} {xs : List ℕ} → Each U32 text xs → AreNumbers (length xs) text
each_numbers no_more = read.no_number
each_numbers (one_more {text = text} {rest = rest} {xs = xs} spelled each) =
    let count : 1 + length xs ≡ suc (length xs) = omega arith in
    subst (λ (n : ℕ). AreNumbers n (text ++ rest)) count (read.one_more (u32_number spelled) (u32_shorter spelled) (each_numbers each))
