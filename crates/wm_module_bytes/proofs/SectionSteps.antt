-- A section is read: its number, its size, its contents.
use Rattle.std.proofs.Common.{◌≡◌, ℕ, ◌+◌, ◌<◌, ◌≤◌, List, ◌∷◌, ◌++◌, length, Option, Some, None, refl, sym, ap, ◌∙◌, length-append, slice_get, arith}
use Rattle.std.specs.Prelude.{IsSome}
use Rattle.std.proofs.lemmas.Option.{none-some, same_Some}
use Rattle.wm_module_bytes.specs.declared.byte_reader.ByteReader.{ByteReader}
use Rattle.wm_module_bytes.specs.declared.byte_reader.Section.{Section}
use Rattle.wm_module_bytes.specs.Reading.{FindsSection, IsSized, Moves, Next, Reads, ReadsNumber, value_of}
use Rattle.wm_module_bytes.proofs.NumberSteps.{next_after, next_byte}
use Rattle.wm_module_bytes.proofs.Steps.{moves_twice, next_front, within}

pub some_none : {X : Type 0} (answer : Option X) → IsSome answer → answer ≡ None → ⊥
some_none None is none = absurd (cc)
some_none (Some x) is none = none-some x (sym none)

module _ (start : ByteReader) (id : ℕ) (size contents : List ℕ) (next : Next start (id ∷ (size ++ contents))) (sized : IsSized size contents) where
  pub id_there : (answer : Option ℕ) → answer ≡ slice_get start.bytes.now start.at → answer ≡ None → ⊥
  id_there answer is none = none-some id (sym none ∙ is ∙ next_byte start id (size ++ contents) next)

  pub id_is : (answer : Option ℕ) (b : ℕ) → answer ≡ slice_get start.bytes.now start.at → answer ≡ Some b → b ≡ id
  id_is answer b is given = same_Some b id (sym given ∙ is ∙ next_byte start id (size ++ contents) next)

  module _ (second third : ByteReader) (first_moves : Moves start second 1) (size_answer : Option ℕ) (reads : ReadsNumber second third size_answer) where
    at_size : Next second (size ++ contents)
    at_size = next_after start second id (size ++ contents) next first_moves

    size_read : Reads second third size size_answer (value_of size)
    size_read = reads size (next_front second size contents at_size) sized.number sized.short

    pub size_there : size_answer ≡ None → ⊥
    size_there none = none-some (value_of size) (sym none ∙ size_read.gives)

    pub size_is : (count : ℕ) → size_answer ≡ Some count → count ≡ length contents
    size_is count given = same_Some count (value_of size) (sym given ∙ size_read.gives) ∙ sized.sized

    both_moves : Moves start third (1 + length size)
    both_moves = moves_twice start second third 1 (length size) (1 + length size) first_moves size_read.moves refl

    pub room : (count : ℕ) → count ≡ length contents → third.at + count ≤ length third.bytes.now
    room count same =
        let some : 0 < length (id ∷ (size ++ contents)) = omega arith in
        let all = within start (id ∷ (size ++ contents)) next some in
        let place : third.at ≡ start.at + (1 + length size) = ap (λ (r : ByteReader). r.at) both_moves in
        let bytes : length third.bytes.now ≡ length start.bytes.now = ap (λ (r : ByteReader). length r.bytes.now) both_moves in
        omega (arith, all, place, bytes, same, length-append size contents)

    pub section_read : (fourth : ByteReader) (count : ℕ) (section : Section) → count ≡ length contents → Moves third fourth count → section.id ≡ id → section.start ≡ third.at
        → FindsSection start fourth id size contents (Some section)
    section_read fourth count section same moves is_id is_start = record {
      section = section;
      gives = refl;
      is_id = is_id;
      is_start = is_start ∙ ap (λ (r : ByteReader). r.at) both_moves;
      moves = moves_twice start third fourth (1 + length size) count (1 + (length size + length contents)) both_moves moves (omega arith);
    }
