-- Integers that are read byte by byte.
use Rattle.std.proofs.Common.{◌≡◌, ℕ, zero, suc, ◌+◌, ◌<◌, ◌≤◌, List, [], ◌∷◌, length, drop, Some, None, refl, sym, ap, subst, ◌∙◌, slice_get, arith}
use Rattle.std.proofs.lemmas.List.{drop-drop}
use Rattle.std.proofs.lemmas.Option.{none-some, same_Some}
use Rattle.wm_module_bytes.specs.declared.byte_reader.ByteReader.{ByteReader}
use Rattle.wm_module_bytes.specs.Reading.{IsNumber, Moves, Next, last, more}
use Rattle.wm_module_bytes.proofs.Steps.{moves_none, moves_twice}

-- the first byte from a position on
pub first_byte : (xs : List ℕ) (n b : ℕ) (rest : List ℕ) → drop n xs ≡ b ∷ rest → slice_get xs n ≡ Some b
first_byte [] zero b rest is = absurd (cc)
first_byte [] (suc n) b rest is = absurd (cc)
first_byte (x ∷ xs) zero b rest is = let same : x ≡ b = cc in ap Some same
first_byte (x ∷ xs) (suc n) b rest is = first_byte xs n b rest is

pub after_first : (xs : List ℕ) (n b : ℕ) (rest : List ℕ) → drop n xs ≡ b ∷ rest → drop (n + 1) xs ≡ rest
after_first xs n b rest is = sym (drop-drop 1 n xs) ∙ ap (drop 1) is

pub next_byte : (reader : ByteReader) (b : ℕ) (text : List ℕ) → Next reader (b ∷ text) → slice_get reader.bytes.now reader.at ≡ Some b
next_byte reader b text next = first_byte reader.bytes.now reader.at b _ next.begins

pub next_after : (old new : ByteReader) (b : ℕ) (text : List ℕ) → Next old (b ∷ text) → Moves old new 1 → Next new text
next_after old new b text next moves =
    subst (λ (r : ByteReader). Next r text) (sym moves) (record { rest = next.rest; begins = after_first old.bytes.now old.at b _ next.begins })

-- the rest of an integer's bytes, after some of them
pub record Partly (start now : ByteReader) (text : List ℕ) (count : ℕ) : Type 0 where
  pub todo : List ℕ
  pub next : Next now todo
  pub number : IsNumber todo
  pub moved : Moves start now count
  pub sum : count + length todo ≡ length text

pub partly_none : (start : ByteReader) (text : List ℕ) → Next start text → IsNumber text → (part : Partly start start text 0) × (part.todo ≡ text)
partly_none start text next is = (record { todo = text; next = next; number = is; moved = moves_none start; sum = omega arith }, refl)

-- what a further byte is
pub data ByteOf (start new : ByteReader) (text : List ℕ) (count b : ℕ) : List ℕ → Type 0 where
  at_last : b < 128 → Moves start new (length text) → count + 1 ≡ length text → ByteOf start new text count b (b ∷ [])
  before_last : {rest : List ℕ} → 128 ≤ b → Next new rest → IsNumber rest → Moves start new (count + 1) → count + 1 + length rest ≡ length text → ByteOf start new text count b (b ∷ rest)

byte_step : {start now new : ByteReader} {text todo : List ℕ} {count b : ℕ} → IsNumber todo → Next now todo → Moves start now count → count + length todo ≡ length text
    → slice_get now.bytes.now now.at ≡ Some b → Moves now new 1 → ByteOf start new text count b todo
byte_step {start} {now} {new} {text} {count = count} {b = b} (last {b = x} below) next moved sum is moves =
    let same : x ≡ b = same_Some x b (sym (next_byte now x [] next) ∙ is) in
    let is_below : b < 128 = subst (λ (y : ℕ). y < 128) same below in
    let all : count + 1 ≡ length text = sum in
    subst (λ (y : ℕ). ByteOf start new text count b (y ∷ [])) (sym same) (at_last is_below (moves_twice start now new count 1 (length text) moved moves all) all)
byte_step {start} {now} {new} {text} {count = count} {b = b} (more {b = x} {text = rest} high number) next moved sum is moves =
    let same : x ≡ b = same_Some x b (sym (next_byte now x rest next) ∙ is) in
    let is_high : 128 ≤ b = subst (λ (y : ℕ). 128 ≤ y) same high in
    let left : count + 1 + length rest ≡ length text = omega (arith, sum) in
    subst (λ (y : ℕ). ByteOf start new text count b (y ∷ rest)) (sym same)
    (before_last is_high (next_after now new x rest next moves) number (moves_twice start now new count 1 (count + 1) moved moves refl) left)

pub byte_read : (start now new : ByteReader) (text : List ℕ) (count b : ℕ) (part : Partly start now text count) → slice_get now.bytes.now now.at ≡ Some b → Moves now new 1
    → ByteOf start new text count b part.todo
byte_read start now new text count b part is moves = byte_step part.number part.next part.moved part.sum is moves

-- an integer that is not yet read has a further byte
first_of : {todo : List ℕ} {now : ByteReader} → IsNumber todo → Next now todo → slice_get now.bytes.now now.at ≡ None → ⊥
first_of {now = now} (last {b = x} below) next none = none-some x (sym none ∙ next_byte now x [] next)
first_of {now = now} (more {b = x} {text = rest} high number) next none = none-some x (sym none ∙ next_byte now x rest next)

pub no_byte : {start now : ByteReader} {text : List ℕ} {count : ℕ} → Partly start now text count → slice_get now.bytes.now now.at ≡ None → ⊥
no_byte part none = first_of part.number part.next none

some_length : {todo : List ℕ} → IsNumber todo → 0 < length todo
some_length (last below) = omega arith
some_length (more high number) = omega arith

pub not_all : {start now : ByteReader} {text : List ℕ} {count : ℕ} → Partly start now text count → count < length text
not_all part = let some = some_length part.number in omega (arith, some, part.sum)

-- the last byte
last_step : {start new : ByteReader} {text todo : List ℕ} {count b : ℕ} → ByteOf start new text count b todo → b < 128 → Moves start new (length text) × (todo ≡ b ∷ [])
last_step (at_last below moves all) lt = (moves, refl)
last_step (before_last high next number moves left) lt = absurd (omega arith)

pub last_read : (start now new : ByteReader) (text : List ℕ) (count b : ℕ) (part : Partly start now text count) → slice_get now.bytes.now now.at ≡ Some b → Moves now new 1 → b < 128
    → Moves start new (length text) × (part.todo ≡ b ∷ [])
last_read start now new text count b part is moves lt = last_step (byte_read start now new text count b part is moves) lt

-- a byte before the last
more_step : {start new : ByteReader} {text todo : List ℕ} {count b : ℕ} → ByteOf start new text count b todo → 128 ≤ b → (part : Partly start new text (count + 1)) × (todo ≡ b ∷ part.todo)
more_step (at_last below moves all) high = absurd (omega arith)
more_step (before_last {rest = rest} is_high next number moves left) high = (record { todo = rest; next = next; number = number; moved = moves; sum = left }, refl)

pub more_read : (start now new : ByteReader) (text : List ℕ) (count b : ℕ) (part : Partly start now text count) → slice_get now.bytes.now now.at ≡ Some b → Moves now new 1 → 128 ≤ b
    → (next : Partly start new text (count + 1)) × (part.todo ≡ b ∷ next.todo)
more_read start now new text count b part is moves high = more_step (byte_read start now new text count b part is moves) high
