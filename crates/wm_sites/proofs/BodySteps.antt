-- The bodies of functions are passed, and where each begins is noted.
use Rattle.std.proofs.Common.{◌≡◌, ℕ, ◌+◌, ◌-◌, ◌<◌, ◌≤◌, List, [], ◌∷◌, ◌++◌, length, drop, Option, Some, None, refl, sym, ap, subst, ◌∙◌, append_assoc, append-nil, length-append, slice_get, ⊎_elim, arith}
use Rattle.std.proofs.lemmas.Bool.{cases_lt}
use Rattle.std.proofs.lemmas.Option.{same_Some}
use Rattle.wm_decode.specs.Module.{header}
use Rattle.wm_decode.specs.Numbers.{U32}
use Rattle.wm_module_bytes.specs.declared.byte_reader.ByteReader.{ByteReader}
use Rattle.wm_module_bytes.specs.Reading.{Moves, Next, Reads, ReadsNumber, value_of}
use Rattle.wm_module_bytes.proofs.Steps.{always, dropped, moves_both, next_front, next_parts, next_past}
use Rattle.wm_sites.specs.Bodies.{BodyBegins, code_start}
use Rattle.wm_sites.specs.Offsets.{HasCode, SizedItems, item, no_item}
use Rattle.wm_sites.proofs.CodeSection.{code_parts}
use Rattle.wm_sites.proofs.Series.{AheadOrNoted, First, Series, at_place, at_tail, first, next_text, no_text, noted_more, passed}
use Rattle.wm_sites.proofs.Spelled.{u32_number, u32_short, u32_value}

-- ---- the code section's items

module _ {bytes before items : List ℕ} (code : HasCode bytes before items) (start : ByteReader) (same : start.bytes.now ≡ bytes) (at : start.at ≡ code_start code) where
  -- the bytes before the contents of the code section
  abbrev front : List ℕ
  front = header ++ (code.sections ++ (10 ∷ code.size))

  place : code_start code ≡ 0 + length front
  place = omega (arith, length-append code.sections (10 ∷ code.size))

  regroup : header ++ (code.sections ++ ((10 ∷ (code.size ++ (code.count ++ items))) ++ code.after)) ≡ front ++ (code.count ++ (items ++ code.after))
  regroup = simp append_assoc

  count_next : Next start (code.count ++ (items ++ code.after))
  count_next = record {
    rest = [];
    begins =
        ap (λ (n : ℕ). drop n start.bytes.now) (at ∙ place) ∙ ap (drop (0 + length front)) (same ∙ code_parts code ∙ regroup)
        ∙ dropped (front ++ (code.count ++ (items ++ code.after))) 0 front (code.count ++ (items ++ code.after)) refl ∙ sym (append-nil (code.count ++ (items ++ code.after)));
  }

  -- the count of functions is read
  module _ (second : ByteReader) (answer : Option ℕ) (reads : ReadsNumber start second answer) where
    count_read : Reads start second code.count answer (value_of code.count)
    count_read = reads code.count (next_front start code.count (items ++ code.after) count_next) (u32_number code.counted) (u32_short code.counted)

    pub functions_read : answer ≡ Some code.functions
    functions_read = count_read.gives ∙ ap Some (u32_value code.counted)

    pub items_next : Next second (items ++ code.after)
    items_next = next_past start second code.count (items ++ code.after) count_next count_read.moves

    pub items_place : second.at ≡ length before
    items_place =
        let moved : second.at ≡ start.at + length code.count = ap (λ (r : ByteReader). r.at) count_read.moves in
        let whole : length before ≡ length (header ++ (code.sections ++ (10 ∷ (code.size ++ code.count)))) = ap length code.before_is in
        omega (arith, moved, at, whole, length-append code.sections (10 ∷ (code.size ++ code.count)), length-append code.size code.count)

-- ---- the bodies

pub record SizedItem (text : List ℕ) : Type 0 where
  pub size : List ℕ
  pub content : List ℕ
  pub parts : text ≡ size ++ content
  pub sized : U32 size (length content)

sized_series : {f : ℕ} {text : List ℕ} → SizedItems f text → Series SizedItem f text
sized_series no_item = no_text
sized_series (item {f = f} {size = size} {rest = rest} content spelled more) =
    subst (Series SizedItem (1 + f)) (append_assoc size content rest)
    (next_text (record { size = size; content = content; parts = refl; sized = spelled }) (sized_series more))

-- so many bodies were passed; the function's body is ahead, or where it begins was noted
abbrev pub BodyAhead : {bytes : List ℕ} {f offset : ℕ} → BodyBegins bytes f offset → ByteReader → ℕ → List ℕ → Type 0
BodyAhead {f = f} {offset = offset} b now count notes = AheadOrNoted SizedItem now (length b.front + length b.bodies) (b.size ++ (b.rest ++ b.section.after)) count f offset notes

pub body_none : {bytes : List ℕ} {f offset : ℕ} (b : BodyBegins bytes f offset) (now : ByteReader) → Next now (b.items ++ b.section.after) → now.at ≡ length b.front → BodyAhead b now 0 []
body_none {f = f} b now next at = record {
  ahead = λ least.
      let left : f ≡ f - 0 = omega arith in
      record {
        todo = b.bodies;
        series = subst (λ (n : ℕ). Series SizedItem n b.bodies) left (sized_series b.earlier);
        next = next_parts now (b.items ++ b.section.after) (b.bodies ++ (b.size ++ (b.rest ++ b.section.after)))
            (ap (λ (xs : List ℕ). xs ++ b.section.after) b.parts ∙ append_assoc b.bodies (b.size ++ b.rest) b.section.after ∙ ap (λ (xs : List ℕ). b.bodies ++ xs) (append_assoc b.size b.rest b.section.after)) next;
        sum = ap (λ (n : ℕ). n + length b.bodies) at;
      };
  is_noted = λ none. absurd (omega (arith, none));
}

module _ {bytes : List ℕ} {f offset : ℕ} (b : BodyBegins bytes f offset) (now second : ByteReader) (count : ℕ) (notes : List ℕ) (ahead : BodyAhead b now count notes)
    (answer : Option ℕ) (reads : ReadsNumber now second answer) where
  -- the size of the function's own body
  own_size : f ≡ count → Reads now second b.size answer (value_of b.size)
  own_size here =
      let least : count ≤ f = omega (arith, here) in
      let none : f - count ≡ 0 = omega (arith, here) in
      reads b.size (next_front now b.size (b.rest ++ b.section.after) (at_tail (ahead.ahead least) none)) (u32_number b.sized) (u32_short b.sized)

  -- the next body, if the function's own comes later
  next_item : count < f → First SizedItem now (length b.front + length b.bodies) (b.size ++ (b.rest ++ b.section.after)) (f - (count + 1))
  next_item later =
      let least : count ≤ f = omega (arith, later) in
      let left : f - count ≡ 1 + (f - (count + 1)) = omega (arith, later) in first (f - (count + 1)) (ahead.ahead least) left

  item_next : (later : count < f) → Next now ((next_item later).item.size ++ (next_item later).item.content)
  item_next later =
      let i = next_item later in next_parts now i.text (i.item.size ++ i.item.content) i.item.parts i.next

  next_size : (later : count < f) → Reads now second (next_item later).item.size answer (value_of (next_item later).item.size)
  next_size later =
      let i = (next_item later).item in reads i.size (next_front now i.size i.content (item_next later)) (u32_number i.sized) (u32_short i.sized)

  pub size_there : count ≤ f → answer ≡ None → ⊥
  size_there least none = ⊎_elim
      (λ (later : count < f). always (next_size later) none)
      (λ (past : f ≤ count). let here : f ≡ count = omega (arith, least, past) in always (own_size here) none)
      (cases_lt count f)

  -- the body is noted and passed
  pub body_more : (third : ByteReader) (size : ℕ) (new : List ℕ) → answer ≡ Some size → ((text : List ℕ) → Next second text → length text ≡ size → Moves second third size) → length notes ≡ count
      → new ≡ notes ++ second.at ∷ [] → BodyAhead b third (count + 1) new
  body_more third size new given skips all noted = record {
    ahead = λ past.
        let later : count < f = omega (arith, past) in
        let i = next_item later in
        let read = next_size later in
        let same : length i.item.content ≡ size = sym (u32_value i.item.sized) ∙ same_Some (value_of i.item.size) size (sym read.gives ∙ given) in
        let moves = skips i.item.content (next_past now second i.item.size i.item.content (item_next later) read.moves) same in
        let both = moves_both now second third i.item.size i.item.content read.moves (subst (Moves second third) (sym same) moves) in
        passed third i (subst (λ (t : List ℕ). Moves now third (length t)) (sym i.item.parts) both);
    is_noted = noted_more notes new count f second.at offset all noted ahead.is_noted λ here.
        let least : count ≤ f = omega (arith, here) in
        let none : f - count ≡ 0 = omega (arith, here) in
        let moved : second.at ≡ now.at + length b.size = ap (λ (r : ByteReader). r.at) (own_size here).moves in
        omega (arith, moved, at_place (ahead.ahead least) none, b.is_offset);
  }

-- ---- all bodies

pub start_is : {bytes before items : List ℕ} (code : HasCode bytes before items) (answer : Option ℕ) (start : ℕ) → answer ≡ Some (code_start code) → answer ≡ Some start → start ≡ code_start code
start_is code answer start is given = same_Some start (code_start code) (sym given ∙ is)

-- a function below the count was noted, if the loop came to its end or to bytes without a size
pub body_noted : {bytes : List ℕ} {f offset : ℕ} (b : BodyBegins bytes f offset) (now : ByteReader) (count functions : ℕ) (notes : List ℕ) → BodyAhead b now count notes → b.section.functions ≡ functions
    → (f < functions → count ≤ f → ⊥) → slice_get notes f ≡ Some offset
body_noted {f = f} {offset = offset} b now count functions notes ahead same not_later =
    let below : f < functions = omega (arith, b.is_function, same) in
    ⊎_elim (λ (less : f < count). ahead.is_noted less) (λ (past : count ≤ f). absurd (not_later below past)) (cases_lt f count)
