-- An instruction is skipped, and where each opcode of a body begins is noted.
use Rattle.std.proofs.Common.{◌≡◌, ◌≢◌, ℕ, ◌+◌, ◌-◌, ◌<◌, ◌≤◌, List, [], ◌∷◌, ◌++◌, length, drop, Option, Some, None, option_map, sym, ap, subst, ◌∙◌, append-nil, slice_get, ⊎_elim, arith}
use Rattle.std.proofs.lemmas.Bool.{cases_lt}
use Rattle.std.proofs.lemmas.Option.{none-some, same_Some}
use Rattle.wm_module_bytes.specs.declared.byte_reader.ByteReader.{ByteReader}
use Rattle.wm_module_bytes.specs.declared.instruction.Immediates.{Immediates}
use Rattle.wm_module_bytes.specs.declared.instruction.Immediates.TheVariants.{Access}
use Rattle.wm_module_bytes.specs.declared.instruction.Opcode.{Opcode}
use Rattle.wm_module_bytes.specs.Instructions.{HasImmediates, ReadsOpcode, in_ranges, plain_ranges}
use Rattle.wm_module_bytes.specs.Reading.{Next, Reads}
use Rattle.wm_module_bytes.proofs.Steps.{always, next_front, next_parts, next_past, reads_both}
use Rattle.wm_sites.specs.Bodies.{OpcodeFollows, SkipsLocals, SkipsOpcode, in_one_memory}
use Rattle.wm_sites.specs.Offsets.{OpcodeText, OpcodeTexts, no_opcode, opcode}
use Rattle.wm_sites.proofs.OpcodeShapes.{IsKnown, Shape, opcode_shape}
use Rattle.wm_sites.proofs.Series.{AheadOrNoted, First, Series, at_place, first, next_text, no_text, noted_more, passed}

-- ---- an instruction

-- the form of an opcode's immediates is the answer, if it is known
abbrev pub FindsForm : Opcode → Option Immediates → Type 0
FindsForm op answer =
    (op.byte < 0xFC → answer ≡ option_map in_one_memory (in_ranges op.byte plain_ranges))
    × (op.byte ≡ 0xFE → op.code ≢ 0x03 → answer ≡ Some (in_one_memory (Access 0)))

form_found : (op : Opcode) (form : Immediates) (answer : Option Immediates) → IsKnown op form → FindsForm op answer → answer ≡ Some form
form_found op form answer known finds = ⊎_elim
    (λ (plain : (op.byte < 0xFC) × (option_map in_one_memory (in_ranges op.byte plain_ranges) ≡ Some form)). finds.0 plain.0 ∙ plain.1)
    (λ (atomic : (op.byte ≡ 0xFE) × (op.code ≢ 0x03) × (form ≡ in_one_memory (Access 0))). finds.1 atomic.0 atomic.1 ∙ ap Some (sym atomic.2))
    known

module _ (start second : ByteReader) (text : List ℕ) (next : Next start text) (is : OpcodeText text) (op_answer : Option Opcode) (reads : ReadsOpcode start second op_answer) where
  abbrev s : Shape text
  s = opcode_shape is

  both_next : Next start (s.first ++ s.rest)
  both_next = next_parts start text (s.first ++ s.rest) s.parts next

  opcode_read : Reads start second s.first op_answer s.op
  opcode_read = reads s.first s.op (next_front start s.first s.rest both_next) s.is_opcode

  pub opcode_there : op_answer ≡ None → ⊥
  opcode_there none = always opcode_read none

  module _ (op : Opcode) (given : op_answer ≡ Some op) (form_answer : Option Immediates) (finds : FindsForm op form_answer) where
    same : s.op ≡ op
    same = same_Some s.op op (sym opcode_read.gives ∙ given)

    form_is : form_answer ≡ Some s.form
    form_is = form_found s.op s.form form_answer s.known (subst (λ (o : Opcode). FindsForm o form_answer) (sym same) finds)

    pub form_there : form_answer ≡ None → ⊥
    form_there none = none-some s.form (sym none ∙ form_is)

    pub instruction_skipped : (form : Immediates) → form_answer ≡ Some form → (third : ByteReader) (answer : Option (Unit {0}))
        → ((rest : List ℕ) → Next second rest → HasImmediates form rest → Reads second third rest answer (tt {0})) → Reads start third text answer (tt {0})
    instruction_skipped form found third answer skips =
        let same_form : s.form ≡ form = same_Some s.form form (sym form_is ∙ found) in
        let rest = skips s.rest (next_past start second s.first s.rest both_next opcode_read.moves) (subst (λ (f : Immediates). HasImmediates f s.rest) same_form s.has) in
        reads_both start second third text s.first s.rest op_answer answer s.op tt s.parts opcode_read rest

-- ---- the opcodes of a body

opcode_series : {n : ℕ} {text : List ℕ} → OpcodeTexts n text → Series OpcodeText n text
opcode_series no_opcode = no_text
opcode_series (opcode is more) = next_text is (opcode_series more)

-- so many opcodes were passed; the opcode is ahead, or where it begins was noted
abbrev pub OpcodeAhead : {bytes : List ℕ} {body n offset : ℕ} → OpcodeFollows bytes body n offset → ByteReader → ℕ → List ℕ → Type 0
OpcodeAhead {n = n} {offset = offset} o now count notes = AheadOrNoted OpcodeText now offset o.rest count n offset notes

module _ {bytes : List ℕ} {body n offset : ℕ} (o : OpcodeFollows bytes body n offset) (start second : ByteReader) (same : start.bytes.now ≡ bytes) (at : start.at ≡ body)
    (answer : Option (Unit {0})) (skips : SkipsLocals start second answer) where
  all_next : Next start (o.locals ++ (o.earlier ++ o.rest))
  all_next = record {
    rest = [];
    begins = ap (λ (k : ℕ). drop k start.bytes.now) at ∙ ap (drop body) same ∙ o.parts ∙ sym (append-nil (o.locals ++ (o.earlier ++ o.rest)));
  }

  locals_skipped : Reads start second o.locals answer (tt {0})
  locals_skipped = skips o.locals (next_front start o.locals (o.earlier ++ o.rest) all_next) o.declared

  pub locals_there : answer ≡ None → ⊥
  locals_there none = always locals_skipped none

  pub opcode_none : OpcodeAhead o second 0 []
  opcode_none = record {
    ahead = λ least.
        let left : n ≡ n - 0 = omega arith in
        let moved : second.at ≡ start.at + length o.locals = ap (λ (r : ByteReader). r.at) locals_skipped.moves in
        record {
          todo = o.earlier;
          series = subst (λ (k : ℕ). Series OpcodeText k o.earlier) left (opcode_series o.skipped);
          next = next_past start second o.locals (o.earlier ++ o.rest) all_next locals_skipped.moves;
          sum = omega (arith, moved, at, o.is_offset);
        };
    is_noted = λ none. absurd (omega (arith, none));
  }

module _ {bytes : List ℕ} {body n offset : ℕ} (o : OpcodeFollows bytes body n offset) (now : ByteReader) (count : ℕ) (notes : List ℕ) (ahead : OpcodeAhead o now count notes) where
  -- the next opcode, if the own one comes later
  next_opcode : count < n → First OpcodeText now offset o.rest (n - (count + 1))
  next_opcode later =
      let least : count ≤ n = omega (arith, later) in
      let left : n - count ≡ 1 + (n - (count + 1)) = omega (arith, later) in first (n - (count + 1)) (ahead.ahead least) left

  noted : (new : List ℕ) → length notes ≡ count → new ≡ notes ++ now.at ∷ [] → n < count + 1 → slice_get new n ≡ Some offset
  noted new all is = noted_more notes new count n now.at offset all is ahead.is_noted λ here.
      let least : count ≤ n = omega (arith, here) in
      let none : n - count ≡ 0 = omega (arith, here) in at_place (ahead.ahead least) none

  module _ (second : ByteReader) (answer : Option (Unit {0})) (skips : SkipsOpcode now second answer) (new : List ℕ) (all : length notes ≡ count) (is : new ≡ notes ++ now.at ∷ []) where
    opcode_skipped : (later : count < n) → Reads now second (next_opcode later).text answer (tt {0})
    opcode_skipped later = skips (next_opcode later).text (next_opcode later).next (next_opcode later).item

    -- the opcode is noted and passed
    pub opcode_more : OpcodeAhead o second (count + 1) new
    opcode_more = record {
      ahead = λ past. let later : count < n = omega (arith, past) in passed second (next_opcode later) (opcode_skipped later).moves;
      is_noted = noted new all is;
    }

    -- none comes after an opcode that can't be skipped
    pub opcode_last : answer ≡ None → slice_get new n ≡ Some offset
    opcode_last none = ⊎_elim
        (λ (later : count < n). absurd (always (opcode_skipped later) none))
        (λ (past : n ≤ count). let below : n < count + 1 = omega (arith, past) in noted new all is below)
        (cases_lt count n)
