-- The immediates of an opcode are skipped: an alignment, a vector of integers.
use Rattle.std.proofs.Common.{◌≡◌, ℕ, ◌<◌, ◌≤◌, List, ◌++◌, length, Option, Some, None, refl, sym, subst, ◌∙◌, arith}
use Rattle.std.proofs.lemmas.Option.{same_Some}
use Rattle.wm_module_bytes.specs.declared.byte_reader.ByteReader.{ByteReader}
use Rattle.wm_module_bytes.specs.Instructions.{HasVector, IsAlignment, alone, with_memory}
use Rattle.wm_module_bytes.specs.Reading.{AreNumbers, Moves, Next, Reads, ReadsNumber, SkipsNumber, SkipsNumbers, value_of}
use Rattle.wm_module_bytes.proofs.Steps.{always, next_front, next_parts, next_past, reads_both}

-- ---- an alignment

module _ (start second : ByteReader) (answer : Option ℕ) (reads : ReadsNumber start second answer) where
  pub alignment_there : {text : List ℕ} → IsAlignment text → Next start text → answer ≡ None → ⊥
  alignment_there (alone {text = text} number short low) next none = always (reads text next number short) none
  alignment_there (with_memory {text = text} {memory = memory} number short high is_memory short_memory) next none = always (reads text (next_front start text memory next) number short) none

  pub low_alignment : {text : List ℕ} → IsAlignment text → Next start text → (value : ℕ) → answer ≡ Some value → value < 64 → Moves start second (length text)
  low_alignment (alone {text = text} number short low) next value given below = (reads text next number short).moves
  low_alignment (with_memory {text = text} {memory = memory} number short high is_memory short_memory) next value given below =
      let same : value ≡ value_of text = same_Some value (value_of text) (sym given ∙ (reads text (next_front start text memory next) number short).gives) in absurd (omega arith)

  module _ (third : ByteReader) (memory_answer : Option (Unit {0})) (skips : SkipsNumber second third memory_answer) where
    pub high_alignment : {text : List ℕ} → IsAlignment text → Next start text → (value : ℕ) → answer ≡ Some value → 64 ≤ value → Reads start third text memory_answer (tt {0})
    high_alignment (alone {text = text} number short low) next value given above =
        let same : value ≡ value_of text = same_Some value (value_of text) (sym given ∙ (reads text next number short).gives) in absurd (omega arith)
    high_alignment (with_memory {text = text} {memory = memory} number short high is_memory short_memory) next value given above =
        let first = reads text (next_front start text memory next) number short in
        reads_both start second third (text ++ memory) text memory answer memory_answer (value_of text) tt refl first (skips memory (next_past start second text memory next first.moves) is_memory short_memory)

-- ---- a vector

module _ (n : ℕ) (start second third : ByteReader) (text : List ℕ) (next : Next start text) (has : HasVector n text) (count_answer : Option ℕ) (counts : ReadsNumber start second count_answer)
    (count : ℕ) (given : count_answer ≡ Some count) (items_answer : Option (Unit {0})) (skips : SkipsNumbers count second third items_answer) where
  parts_next : Next start (has.count ++ (has.items ++ has.others))
  parts_next = next_parts start text (has.count ++ (has.items ++ has.others)) has.parts next

  count_read : Reads start second has.count count_answer (value_of has.count)
  count_read = counts has.count (next_front start has.count (has.items ++ has.others) parts_next) has.is_count has.short

  items_next : Next second (has.items ++ has.others)
  items_next = next_past start second has.count (has.items ++ has.others) parts_next count_read.moves

  items_read : Reads second third has.items items_answer (tt {0})
  items_read =
      let same : value_of has.count ≡ count = same_Some (value_of has.count) count (sym count_read.gives ∙ given) in
      skips has.items (next_front second has.items has.others items_next) (subst (λ (k : ℕ). AreNumbers k has.items) same has.are_items)

  pub items_there : items_answer ≡ None → ⊥
  items_there none = always items_read none

  pub vector_read : (fourth : ByteReader) (answer : Option (Unit {0})) → SkipsNumbers n third fourth answer → Reads start fourth text answer (tt {0})
  vector_read fourth answer more =
      let others = more has.others (next_past second third has.items has.others items_next items_read.moves) has.are_others in
      let rest = reads_both second third fourth (has.items ++ has.others) has.items has.others items_answer answer tt tt refl items_read others in
      reads_both start second fourth text has.count (has.items ++ has.others) count_answer answer (value_of has.count) tt has.parts count_read rest
