-- The sections before the code section are passed.
use Rattle.std.proofs.Common.{◌≡◌, ◌≢◌, ℕ, ◌+◌, ◌<◌, ◌≤◌, List, ◌∷◌, ◌++◌, length, drop, Option, Some, None, sym, ap, subst, ◌∙◌, append_assoc, length-append, arith}
use Rattle.std.proofs.lemmas.Option.{none-some, same_Some}
use Rattle.wm_decode.specs.Module.{header}
use Rattle.wm_module_bytes.specs.declared.byte_reader.ByteReader.{ByteReader}
use Rattle.wm_module_bytes.specs.declared.byte_reader.Section.{Section}
use Rattle.wm_module_bytes.specs.Reading.{Moves, Next, ReadsSection}
use Rattle.wm_module_bytes.proofs.Steps.{next_front, next_parts, next_past, within}
use Rattle.wm_sites.specs.Bodies.{code_start}
use Rattle.wm_sites.specs.Offsets.{HasCode, OtherSections, no_section, section}
use Rattle.wm_sites.proofs.Spelled.{sized}

module _ {bytes before items : List ℕ} (code : HasCode bytes before items) where
  abbrev contents : List ℕ
  contents = code.count ++ items

  abbrev pub code_text : List ℕ
  code_text = 10 ∷ (code.size ++ (code.count ++ items))

  -- the bytes are the header, the other sections, the code section and more
  pub code_parts : bytes ≡ header ++ (code.sections ++ (code_text ++ code.after))
  code_parts =
      code.parts ∙ ap (λ (xs : List ℕ). xs ++ (items ++ code.after)) code.before_is
      ∙ append_assoc header (code.sections ++ (10 ∷ (code.size ++ code.count))) (items ++ code.after)
      ∙ ap (λ (xs : List ℕ). header ++ xs) (append_assoc code.sections (10 ∷ (code.size ++ code.count)) (items ++ code.after))
      ∙ ap (λ (xs : List ℕ). header ++ (code.sections ++ (10 ∷ xs))) (regroup code.size code.count items code.after)
    where
      regroup : (a b c d : List ℕ) → (a ++ b) ++ (c ++ d) ≡ (a ++ (b ++ c)) ++ d
      regroup a b c d = simp append_assoc

  -- so many sections were passed, and the others and the code section come next
  pub record SectionsAhead (now : ByteReader) (count : ℕ) : Type 0 where
    pub todo : List ℕ
    pub others : OtherSections todo
    pub next : Next now (todo ++ code_text)
    pub same : now.bytes.now ≡ bytes
    pub sum : now.at + length todo ≡ 8 + length code.sections
    pub passed : 8 + count ≤ now.at

  pub sections_none : (start : ByteReader) → start.bytes.now ≡ bytes → start.at ≡ 8 → SectionsAhead start 0
  sections_none start same at =
      let parts : start.bytes.now ≡ header ++ (code.sections ++ (code_text ++ code.after)) = same ∙ code_parts in
      record {
        todo = code.sections;
        others = code.others;
        next = record {
          rest = code.after;
          begins = ap (λ (n : ℕ). drop n start.bytes.now) at ∙ ap (drop 8) parts ∙ sym (append_assoc code.sections code_text code.after);
        };
        same = same;
        sum = omega (arith, at);
        passed = omega (arith, at);
      }

  -- the section that comes next
  data NextSection (now new : ByteReader) (answer : Option Section) (count : ℕ) : Type 0 where
    is_code : (found : Section) → answer ≡ Some found → found.id ≡ 10 → found.start ≡ code_start code → NextSection now new answer count
    is_other : (found : Section) → answer ≡ Some found → found.id ≢ 10 → SectionsAhead new (count + 1) → NextSection now new answer count

  reads : (now new : ByteReader) (answer : Option Section) (count : ℕ) {todo : List ℕ} → OtherSections todo → Next now (todo ++ code_text) → now.bytes.now ≡ bytes
      → now.at + length todo ≡ 8 + length code.sections → 8 + count ≤ now.at → ReadsSection now new answer → NextSection now new answer count
  reads now new answer count no_section next same sum passed reads_section =
      let found = reads_section 10 code.size contents next (sized code.sized) in
      is_code found.section found.gives found.is_id (omega (arith, found.is_start, sum))
  reads now new answer count (section {id = id} {size = size} {rest = rest} content other spelled others) next same sum passed reads_section =
      let all : Next now ((id ∷ (size ++ content)) ++ (rest ++ code_text)) = next_parts now ((id ∷ (size ++ (content ++ rest))) ++ code_text) ((id ∷ (size ++ content)) ++ (rest ++ code_text)) regroup next in
      let found = reads_section id size content (next_front now (id ∷ (size ++ content)) (rest ++ code_text) all) (sized spelled) in
      let whole : length (id ∷ (size ++ content)) ≡ 1 + (length size + length content) = omega (arith, length-append size content) in
      let moves : Moves now new (length (id ∷ (size ++ content))) = subst (Moves now new) (sym whole) found.moves in
      let place : new.at ≡ now.at + (1 + (length size + length content)) = ap (λ (r : ByteReader). r.at) found.moves in
      is_other found.section found.gives (λ is. other (sym found.is_id ∙ is)) (record {
        todo = rest;
        others = others;
        next = next_past now new (id ∷ (size ++ content)) (rest ++ code_text) all moves;
        same = ap (λ (r : ByteReader). r.bytes.now) found.moves ∙ same;
        sum = omega (arith, sum, place, length-append size (content ++ rest), length-append content rest);
        passed = omega (arith, passed, place);
      })
    where
      regroup : (id ∷ (size ++ (content ++ rest))) ++ code_text ≡ (id ∷ (size ++ content)) ++ (rest ++ code_text)
      regroup = simp append_assoc

  next_section : (now new : ByteReader) (answer : Option Section) (count : ℕ) → SectionsAhead now count → ReadsSection now new answer → NextSection now new answer count
  next_section now new answer count ahead reads_section = reads now new answer count ahead.others ahead.next ahead.same ahead.sum ahead.passed reads_section

  pub section_there : (now new : ByteReader) (answer : Option Section) (count : ℕ) → SectionsAhead now count → ReadsSection now new answer → answer ≡ None → ⊥
  section_there now new answer count ahead reads_section none = elim (next_section now new answer count ahead reads_section) [
    | is_code found given id start ↦ none-some found (sym none ∙ given)
    | is_other found given id more ↦ none-some found (sym none ∙ given)
  ]

  pub code_found : (now new : ByteReader) (answer : Option Section) (count : ℕ) (read : Section) → SectionsAhead now count → ReadsSection now new answer → answer ≡ Some read → read.id ≡ 10 → read.start ≡ code_start code
  code_found now new answer count read ahead reads_section is ten = elim (next_section now new answer count ahead reads_section) [
    | is_code found given id start ↦ ap (λ (s : Section). s.start) (same_Some read found (sym is ∙ given)) ∙ start
    | is_other found given other more ↦ absurd (other (sym (ap (λ (s : Section). s.id) (same_Some read found (sym is ∙ given))) ∙ ten))
  ]

  pub other_found : (now new : ByteReader) (answer : Option Section) (count : ℕ) (read : Section) → SectionsAhead now count → ReadsSection now new answer → answer ≡ Some read → read.id ≢ 10 → SectionsAhead new (count + 1)
  other_found now new answer count read ahead reads_section is other = elim (next_section now new answer count ahead reads_section) [
    | is_code found given id start ↦ absurd (other (ap (λ (s : Section). s.id) (same_Some read found (sym is ∙ given)) ∙ id))
    | is_other found given not_ten more ↦ more
  ]

  -- each section takes a byte, so they end before the bytes do
  pub sections_end : (now : ByteReader) (count : ℕ) → SectionsAhead now count → length bytes ≤ count → ⊥
  sections_end now count ahead all =
      let some : 0 < length (ahead.todo ++ code_text) = omega (arith, length-append ahead.todo code_text) in
      let end = within now (ahead.todo ++ code_text) ahead.next some in
      let same : length now.bytes.now ≡ length bytes = ap length ahead.same in
      omega (arith, end, same, all, ahead.passed)
