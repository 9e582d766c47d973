-- Bytes followed by zeros.
use Rattle.std.proofs.Common.{◌≡◌, ◌<◌, ◌≤◌, ◌-◌, ◌++◌, ℕ, List, [], All, None, Some, ap, ◌∙◌, length, get_or, replicate, arith}
use Rattle.std.specs.List.{slice_get}
use Rattle.std.proofs.Math.ListN.{get_or-append}
use Rattle.std.proofs.Math.Seq.{get_or-append_right}
use Rattle.std.proofs.lemmas.Option.{slice_get-get_or, slice_get_past}
use Rattle.std.proofs.lemmas.List.{append-nil, get_or-replicate, length-append, length-replicate}
use Rattle.std.proofs.lemmas.List.Elements.{All-append, All-replicate}
use Rattle.std.proofs.lemmas.Grind.{same_number_lists}
use Rattle.wm_event.specs.Initial.{with_zeros}

pub length_with_zeros : (bytes : List ℕ) (len : ℕ) → length bytes ≤ len → length (with_zeros bytes len) ≡ len
length_with_zeros bytes len fits =
    let behind : length (replicate {A = ℕ} (len - length bytes) 0) ≡ len - length bytes = length-replicate (len - length bytes) 0 in
    let both = length-append bytes (replicate (len - length bytes) 0) in
    omega (arith, behind, both)

pub item_there : (bytes : List ℕ) (len k : ℕ) → k < length bytes → get_or (with_zeros bytes len) k 0 ≡ get_or bytes k 0
item_there bytes len k within = get_or-append bytes (replicate (len - length bytes) 0) 0 k within

pub item_behind : (bytes : List ℕ) (len k : ℕ) → length bytes ≤ k → k < len → get_or (with_zeros bytes len) k 0 ≡ 0
item_behind bytes len k behind within =
    get_or-append_right bytes (replicate (len - length bytes) 0) k 0 behind ∙ get_or-replicate (len - length bytes) (k - length bytes) 0 0 (omega arith)

pub byte_there : (bytes : List ℕ) (len k : ℕ) → length bytes ≤ len → k < length bytes → slice_get (with_zeros bytes len) k ≡ Some (get_or bytes k 0)
byte_there bytes len k fits within =
    let long = length_with_zeros bytes len fits in
    slice_get-get_or (with_zeros bytes len) k 0 (omega (arith, long)) ∙ ap Some (item_there bytes len k within)

pub byte_behind : (bytes : List ℕ) (len k : ℕ) → length bytes ≤ len → length bytes ≤ k → k < len → slice_get (with_zeros bytes len) k ≡ Some 0
byte_behind bytes len k fits behind within =
    let long = length_with_zeros bytes len fits in
    slice_get-get_or (with_zeros bytes len) k 0 (omega (arith, long)) ∙ ap Some (item_behind bytes len k behind within)

pub byte_past : (bytes : List ℕ) (len k : ℕ) → length bytes ≤ len → len ≤ k → slice_get (with_zeros bytes len) k ≡ None
byte_past bytes len k fits past =
    let long = length_with_zeros bytes len fits in
    slice_get_past (with_zeros bytes len) k (omega (arith, long))

pub no_zeros : (bytes : List ℕ) (len : ℕ) → len ≡ length bytes → with_zeros bytes len ≡ bytes
no_zeros bytes len e =
    let none : len - length bytes ≡ 0 = omega (arith, e) in
    ap (λ (n : ℕ). bytes ++ replicate n 0) none ∙ append-nil bytes

pub only_zeros : (bytes : List ℕ) (len : ℕ) → bytes ≡ [] → with_zeros bytes len ≡ replicate len 0
only_zeros bytes len e =
    let all : len - 0 ≡ len = omega arith in
    ap (λ (l : List ℕ). with_zeros l len) e ∙ ap (λ (n : ℕ). replicate n 0) all

pub bytes_with_zeros : (bytes : List ℕ) (len : ℕ) → All (λ b. b < 256) bytes → All (λ b. b < 256) (with_zeros bytes len)
bytes_with_zeros bytes len fit =
    let zero-fits : 0 < 256 = omega arith in
    All-append (λ b. b < 256) bytes (replicate (len - length bytes) 0) fit (All-replicate (λ b. b < 256) (len - length bytes) 0 zero-fits)

-- lists of one length are the same where they show the same at each place
pub same_shown : (xs ys : List ℕ) → length xs ≡ length ys → ((k : ℕ) → k < length xs → slice_get xs k ≡ slice_get ys k) → xs ≡ ys
same_shown xs ys long each =
    same_number_lists xs ys long (λ k lt. inside k (slice_get-get_or xs k 0 lt) (slice_get-get_or ys k 0 (omega (arith, lt, long))) (each k lt))
  where
    inside : (k : ℕ) → slice_get xs k ≡ Some (get_or xs k 0) → slice_get ys k ≡ Some (get_or ys k 0) → slice_get xs k ≡ slice_get ys k → get_or xs k 0 ≡ get_or ys k 0
    inside k a b e = grind (arith, a, b, e)
