-- One text after another.
use Rattle.std.proofs.Common.{◌≡◌, ℕ, ◌+◌, ◌<◌, ◌≤◌, List, ◌++◌, length, drop, min, Option, None, refl, sym, ap, subst, ◌∙◌, append_assoc, length-append, length-drop, arith}
use Rattle.std.proofs.lemmas.List.{drop-drop, drop_at}
use Rattle.wm_module_bytes.specs.declared.byte_reader.ByteReader.{ByteReader}
use Rattle.std.proofs.lemmas.Option.{none-some}
use Rattle.wm_module_bytes.specs.Reading.{Moves, Next, Reads}

pub next_front : (reader : ByteReader) (first second : List ℕ) → Next reader (first ++ second) → Next reader first
next_front reader first second next = record { rest = second ++ next.rest; begins = next.begins ∙ append_assoc first second next.rest }

-- the bytes after a text
pub dropped : (xs : List ℕ) (n : ℕ) (first rest : List ℕ) → drop n xs ≡ first ++ rest → drop (n + length first) xs ≡ rest
dropped xs n first rest is = sym (drop-drop (length first) n xs) ∙ ap (drop (length first)) is ∙ drop_at first rest (length first) refl

pub next_past : (old new : ByteReader) (first second : List ℕ) → Next old (first ++ second) → Moves old new (length first) → Next new second
next_past old new first second next moves = subst (λ (r : ByteReader). Next r second) (sym moves) (record {
  rest = next.rest;
  begins = dropped old.bytes.now old.at first (second ++ next.rest) (next.begins ∙ append_assoc first second next.rest);
})

-- a text that comes next is within the bytes
pub within : (reader : ByteReader) (text : List ℕ) → Next reader text → 0 < length text → reader.at + length text ≤ length reader.bytes.now
within reader text next some =
    let count : length (drop reader.at reader.bytes.now) ≡ length text + length next.rest = ap length next.begins ∙ length-append text next.rest in
    omega (arith, count, some, length-drop reader.at reader.bytes.now)

pub moves_twice : (start now new : ByteReader) (n m k : ℕ) → Moves start now n → Moves now new m → n + m ≡ k → Moves start new k
moves_twice start now new n m k first second sum =
    let same : start.at + n + m ≡ start.at + k = omega arith in
    second ∙ ap (λ (r : ByteReader). record r { at = r.at + m }) first ∙ ap (λ (x : ℕ). record start { at = x }) same

pub moves_none : (reader : ByteReader) → Moves reader reader 0
moves_none reader = let same : reader.at + 0 ≡ reader.at = omega arith in ap (λ (n : ℕ). record reader { at = n }) (sym same)

-- a sum that stays within the bytes is exact
pub skipped : (reader : ByteReader) (count sum : ℕ) (text : List ℕ) → Next reader text → length text ≡ count → reader.at < 18446744073709551616 → length reader.bytes.now < 18446744073709551616
    → sum ≡ min (reader.at + count) 18446744073709551615 → Moves reader (record reader { at = sum }) count
skipped reader count sum text next same fits bounded is =
    let all : length (drop reader.at reader.bytes.now) ≡ length text + length next.rest = ap length next.begins ∙ length-append text next.rest in
    let exact : sum ≡ reader.at + count = omega (arith, is, all, same, fits, bounded, length-drop reader.at reader.bytes.now) in
    ap (λ (n : ℕ). record reader { at = n }) exact

pub moves_both : (start now new : ByteReader) (first second : List ℕ) → Moves start now (length first) → Moves now new (length second) → Moves start new (length (first ++ second))
moves_both start now new first second one two = moves_twice start now new (length first) (length second) (length (first ++ second)) one two (sym (length-append first second))

-- one text is read, and then another
pub reads_both : {X Y : Type 0} (start now new : ByteReader) (text first second : List ℕ) (one : Option X) (two : Option Y) (x : X) (y : Y) → text ≡ first ++ second
    → Reads start now first one x → Reads now new second two y → Reads start new text two y
reads_both start now new text first second one two x y parts a b = record {
  gives = b.gives;
  moves = subst (λ (t : List ℕ). Moves start new (length t)) (sym parts) (moves_both start now new first second a.moves b.moves);
}

pub next_parts : (reader : ByteReader) (text other : List ℕ) → text ≡ other → Next reader text → Next reader other
next_parts reader text other same next = subst (Next reader) same next

-- what is read is there
pub always : {X : Type 0} {start now : ByteReader} {text : List ℕ} {answer : Option X} {x : X} → Reads start now text answer x → answer ≡ None → ⊥
always {x = x} read none = none-some x (sym none ∙ read.gives)
