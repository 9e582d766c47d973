-- What is read from bytes, from a position on.
use Rattle.std.specs.Prelude.{◌≡◌, ℕ, ◌+◌, ◌*◌, ◌%◌, ◌<◌, ◌≤◌, List, [], ◌∷◌, ◌++◌, length, drop, Option, Some}
use Rattle.wm_module_bytes.specs.declared.byte_reader.ByteReader.{ByteReader}
use Rattle.wm_module_bytes.specs.declared.byte_reader.Section.{Section}

-- these bytes come next
pub record Next (reader : ByteReader) (text : List ℕ) : Type 0 where
  pub rest : List ℕ
  pub begins : drop reader.at reader.bytes.now ≡ text ++ rest

-- the reader goes past this number of bytes
abbrev pub Moves : ByteReader → ByteReader → ℕ → Type 0
Moves old new count = new ≡ record old { at = old.at + count }

-- the bytes are those of an integer (Core 1.0, section 5.2.2): each but the last is 128 or more
pub data IsNumber : List ℕ → Type 0 where
  last : {b : ℕ} → b < 128 → IsNumber (b ∷ [])
  more : {b : ℕ} {text : List ℕ} → 128 ≤ b → IsNumber text → IsNumber (b ∷ text)

-- the unsigned integer of these bytes: seven bits in each, the low ones first
abbrev pub value_of : List ℕ → ℕ
value_of [] = 0
value_of (b ∷ text) = b % 128 + 128 * value_of text

-- the bytes are those of this number of integers, each of at most ten bytes
pub data AreNumbers : ℕ → List ℕ → Type 0 where
  no_number : AreNumbers 0 []
  one_more : {n : ℕ} {text rest : List ℕ} → IsNumber text → length text ≤ 10 → AreNumbers n rest → AreNumbers (1 + n) (text ++ rest)

-- the answer is given, and the reader goes past the text
pub record Reads {X : Type 0} (old new : ByteReader) (text : List ℕ) (answer : Option X) (x : X) : Type 0 where
  pub gives : answer ≡ Some x
  pub moves : Moves old new (length text)

-- an integer of at most five bytes that comes next is the answer
abbrev pub ReadsNumber : ByteReader → ByteReader → Option ℕ → Type 0
ReadsNumber old new answer = (text : List ℕ) → Next old text → IsNumber text → length text ≤ 5 → Reads old new text answer (value_of text)

-- an integer of at most ten bytes that comes next is skipped
abbrev pub SkipsNumber : ByteReader → ByteReader → Option (Unit {0}) → Type 0
SkipsNumber old new answer = (text : List ℕ) → Next old text → IsNumber text → length text ≤ 10 → Reads old new text answer (tt {0})

-- this number of integers that come next are skipped
abbrev pub SkipsNumbers : ℕ → ByteReader → ByteReader → Option (Unit {0}) → Type 0
SkipsNumbers count old new answer = (text : List ℕ) → Next old text → AreNumbers count text → Reads old new text answer (tt {0})

-- the first bytes are the size of the others
pub record IsSized (size contents : List ℕ) : Type 0 where
  pub number : IsNumber size
  pub short : length size ≤ 5
  pub sized : value_of size ≡ length contents

-- the answer is the section of this number with these contents, and the reader goes past it
pub record FindsSection (old new : ByteReader) (id : ℕ) (size contents : List ℕ) (answer : Option Section) : Type 0 where
  pub section : Section
  pub gives : answer ≡ Some section
  pub is_id : section.id ≡ id
  pub is_start : section.start ≡ old.at + (1 + length size)
  pub moves : Moves old new (1 + (length size + length contents))

-- a section that comes next is the answer
abbrev pub ReadsSection : ByteReader → ByteReader → Option Section → Type 0
ReadsSection old new answer = (id : ℕ) (size contents : List ℕ) → Next old (id ∷ (size ++ contents)) → IsSized size contents → FindsSection old new id size contents answer
