-- The declarations of locals are passed.
use Rattle.std.proofs.Common.{◌≡◌, ℕ, suc, ◌+◌, List, [], ◌∷◌, ◌++◌, length, Option, Some, None, refl, sym, ap, subst, ◌∙◌, append_assoc, append-nil, length-append, arith}
use Rattle.std.proofs.lemmas.Option.{same_Some}
use Rattle.wm_ast.specs.declared.types.ValType.{ValType}
use Rattle.wm_decode.specs.Instructions.{value_type}
use Rattle.wm_decode.specs.Numbers.{U32}
use Rattle.wm_decode.specs.Parts.{Locals, no_locals, locals}
use Rattle.wm_module_bytes.specs.declared.byte_reader.ByteReader.{ByteReader}
use Rattle.wm_module_bytes.specs.Reading.{Moves, Next, Reads, ReadsNumber, SkipsNumber, value_of}
use Rattle.wm_module_bytes.proofs.Steps.{always, moves_both, moves_twice, next_front, next_parts, next_past}
use Rattle.wm_sites.specs.Bodies.{LocalsText}
use Rattle.wm_sites.proofs.Series.{Ahead, First, Series, at_place, first, next_text, no_text, passed}
use Rattle.wm_sites.proofs.Spelled.{u32_number, u32_short, u32_shorter, u32_value}

-- one declaration: how many locals, and their type
pub record Declaration (text : List ℕ) : Type 0 where
  pub count : List ℕ
  pub ty : ValType
  pub number : ℕ
  pub parts : text ≡ count ++ (value_type ty ∷ [])
  pub counted : U32 count number

declarations : {n : ℕ} {text : List ℕ} {types : List ValType} → Locals text n types → Series Declaration n text
declarations no_locals = no_text
declarations (locals {count = count} {text = text} {entries = n} {n = number} ty counted more) =
    let one : 1 + n ≡ suc n = omega arith in
    let item : Declaration (count ++ (value_type ty ∷ [])) = record { count = count; ty = ty; number = number; parts = refl; counted = counted } in
    subst (λ (k : ℕ). Series Declaration k (count ++ value_type ty ∷ text)) one
    (subst (Series Declaration (1 + n)) (append_assoc count (value_type ty ∷ []) text) (next_text item (declarations more)))

-- so many declarations are ahead, of these locals
pub record LocalsAhead (start now : ByteReader) (text : List ℕ) (left : ℕ) : Type 0 where
  pub ahead : Ahead Declaration now (start.at + length text) [] left
  pub done : ℕ
  pub moved : Moves start now done

-- ---- the count

module _ (start second : ByteReader) (text : List ℕ) (next : Next start text) (has : LocalsText text) (answer : Option ℕ) (reads : ReadsNumber start second answer) where
  both_next : Next start (has.count ++ has.locals)
  both_next = next_parts start text (has.count ++ has.locals) has.parts next

  count_read : Reads start second has.count answer (value_of has.count)
  count_read = reads has.count (next_front start has.count has.locals both_next) (u32_number has.counted) (u32_short has.counted)

  pub count_there : answer ≡ None → ⊥
  count_there none = always count_read none

  pub locals_none : (count left : ℕ) → answer ≡ Some count → left ≡ count → LocalsAhead start second text left
  locals_none count left given same =
      let moved : second.at ≡ start.at + length has.count = ap (λ (r : ByteReader). r.at) count_read.moves in
      let number : has.declarations ≡ left = sym (u32_value has.counted) ∙ same_Some (value_of has.count) count (sym count_read.gives ∙ given) ∙ sym same in
      let whole : length text ≡ length has.count + length has.locals = ap length has.parts ∙ length-append has.count has.locals in
      record {
        ahead = record {
          todo = has.locals;
          series = subst (λ (k : ℕ). Series Declaration k has.locals) number (declarations has.declared);
          next = next_parts second has.locals (has.locals ++ []) (sym (append-nil has.locals)) (next_past start second has.count has.locals both_next count_read.moves);
          sum = omega (arith, moved, whole);
        };
        done = length has.count;
        moved = count_read.moves;
      }

-- ---- a declaration

module _ (start now second : ByteReader) (text : List ℕ) (left : ℕ) (ahead : LocalsAhead start now text left) (answer : Option (Unit {0})) (skips : SkipsNumber now second answer) where
  module _ (after : ℕ) (some : left ≡ 1 + after) where
    f : First Declaration now (start.at + length text) [] after
    f = first after ahead.ahead some

    item_next : Next now (f.item.count ++ (value_type f.item.ty ∷ []))
    item_next = next_parts now f.text (f.item.count ++ (value_type f.item.ty ∷ [])) f.item.parts f.next

    number_skipped : Reads now second f.item.count answer (tt {0})
    number_skipped = skips f.item.count (next_front now f.item.count (value_type f.item.ty ∷ []) item_next) (u32_number f.item.counted) (u32_shorter f.item.counted)

    pub number_there : answer ≡ None → ⊥
    number_there none = always number_skipped none

    pub locals_more : (third : ByteReader) → ((type : List ℕ) → Next second type → length type ≡ 1 → Moves second third 1) → LocalsAhead start third text after
    locals_more third skips_type =
        let type = value_type f.item.ty ∷ [] in
        let moves = skips_type type (next_past now second f.item.count type item_next number_skipped.moves) refl in
        let both = moves_both now second third f.item.count type number_skipped.moves moves in
        let moves_text = subst (λ (t : List ℕ). Moves now third (length t)) (sym f.item.parts) both in
        record {
          ahead = passed third f moves_text;
          done = ahead.done + length f.text;
          moved = moves_twice start now third ahead.done (length f.text) (ahead.done + length f.text) ahead.moved moves_text refl;
        }

pub locals_all : (start now : ByteReader) (text : List ℕ) (left : ℕ) → LocalsAhead start now text left → left ≡ 0 → Moves start now (length text)
locals_all start now text left part none =
    let place = at_place part.ahead none in
    let moved : now.at ≡ start.at + part.done = ap (λ (r : ByteReader). r.at) part.moved in
    let all : part.done ≡ length text = omega (arith, place, moved) in subst (Moves start now) all part.moved
