-- Integers that are skipped one after the other.
use Rattle.std.proofs.Common.{◌≡◌, ℕ, ◌+◌, ◌<◌, ◌≤◌, List, ◌++◌, length, Option, None, refl, sym, ap, subst, ◌∙◌, length-append, arith}
use Rattle.std.proofs.lemmas.Option.{none-some}
use Rattle.wm_module_bytes.specs.declared.byte_reader.ByteReader.{ByteReader}
use Rattle.wm_module_bytes.specs.Reading.{AreNumbers, IsNumber, Moves, Next, Reads, no_number, one_more}
use Rattle.wm_module_bytes.proofs.Steps.{moves_none, moves_twice, next_front, next_past}

-- the rest of the integers, this number of them
pub record NumbersPartly (start now : ByteReader) (text : List ℕ) (left : ℕ) : Type 0 where
  pub todo : List ℕ
  pub next : Next now todo
  pub numbers : AreNumbers left todo
  pub done : ℕ
  pub moved : Moves start now done
  pub sum : done + length todo ≡ length text

pub numbers_none : (start : ByteReader) (text : List ℕ) (count left : ℕ) → count ≡ left → Next start text → AreNumbers count text → NumbersPartly start start text left
numbers_none start text count left same next numbers =
    record { todo = text; next = next; numbers = subst (λ (n : ℕ). AreNumbers n text) same numbers; done = 0; moved = moves_none start; sum = omega arith }

-- the first of them
pub record FirstNumber (left : ℕ) (todo : List ℕ) : Type 0 where
  pub first : List ℕ
  pub rest : List ℕ
  pub parts : todo ≡ first ++ rest
  pub number : IsNumber first
  pub short : length first ≤ 10
  pub after : ℕ
  pub count : left ≡ 1 + after
  pub numbers : AreNumbers after rest

pub first_number : {left : ℕ} {todo : List ℕ} → AreNumbers left todo → 0 < left → FirstNumber left todo
first_number no_number some = absurd (omega arith)
first_number (one_more {n = n} {text = text} {rest = rest} number short numbers) some =
    record { first = text; rest = rest; parts = refl; number = number; short = short; after = n; count = refl; numbers = numbers }

pub first_next : {now : ByteReader} {todo : List ℕ} {left : ℕ} → (f : FirstNumber left todo) → Next now todo → Next now (f.first ++ f.rest)
first_next {now} f next = subst (λ (text : List ℕ). Next now text) f.parts next

pub none_left : {todo : List ℕ} {left : ℕ} → AreNumbers left todo → left ≡ 0 → length todo ≡ 0
none_left no_number none = refl
none_left (one_more number short numbers) none = absurd (omega arith)

module _ (start now new : ByteReader) (text : List ℕ) (left : ℕ) (part : NumbersPartly start now text left) (some : 0 < left) (answer : Option (Unit {0})) where
  skips : ((first : List ℕ) → Next now first → IsNumber first → length first ≤ 10 → Reads now new first answer (tt {0})) → (f : FirstNumber left part.todo) → Reads now new f.first answer (tt {0})
  skips reads f = reads f.first (next_front now f.first f.rest (first_next f part.next)) f.number f.short

  -- each can be skipped
  pub never_stops : ((first : List ℕ) → Next now first → IsNumber first → length first ≤ 10 → Reads now new first answer (tt {0})) → answer ≡ None → ⊥
  never_stops reads none = none-some (tt {0}) (sym none ∙ (skips reads (first_number part.numbers some)).gives)

  pub numbers_more : ((first : List ℕ) → Next now first → IsNumber first → length first ≤ 10 → Reads now new first answer (tt {0})) → (after : ℕ) → left ≡ 1 + after → NumbersPartly start new text after
  numbers_more reads after count =
      let f = first_number part.numbers some in
      let read = skips reads f in
      let same : f.after ≡ after = omega (arith, f.count, count) in
      let lengths : length part.todo ≡ length f.first + length f.rest = ap length f.parts ∙ length-append f.first f.rest in
      record {
        todo = f.rest;
        next = next_past now new f.first f.rest (first_next f part.next) read.moves;
        numbers = subst (λ (n : ℕ). AreNumbers n f.rest) same f.numbers;
        done = part.done + length f.first;
        moved = moves_twice start now new part.done (length f.first) (part.done + length f.first) part.moved read.moves refl;
        sum = omega (arith, lengths, part.sum);
      }

pub numbers_all : (start now : ByteReader) (text : List ℕ) (left : ℕ) → NumbersPartly start now text left → left ≡ 0 → Moves start now (length text)
numbers_all start now text left part none =
    let empty = none_left part.numbers none in
    let all : part.done ≡ length text = omega (arith, empty, part.sum) in subst (Moves start now) all part.moved
