-- Texts that are passed one after the other, up to one of them.
use Rattle.std.proofs.Common.{◌≡◌, ℕ, ◌+◌, ◌-◌, ◌<◌, ◌≤◌, List, [], ◌∷◌, ◌++◌, length, Some, refl, ap, subst, ◌∙◌, append_assoc, length-append, slice_get, ⊎_elim, arith}
use Rattle.std.proofs.lemmas.Bool.{cases_lt}
use Rattle.wm_races.proofs.ListLemmas.{get-left, get-right}
use Rattle.wm_module_bytes.specs.declared.byte_reader.ByteReader.{ByteReader}
use Rattle.wm_module_bytes.specs.Reading.{Moves, Next}
use Rattle.wm_module_bytes.proofs.Steps.{next_front, next_parts, next_past}

pub data Series (Item : List ℕ → Type 0) : ℕ → List ℕ → Type 0 where
  no_text : Series Item 0 []
  next_text : {n : ℕ} {text rest : List ℕ} → Item text → Series Item n rest → Series Item (1 + n) (text ++ rest)

-- so many texts come before this place, at which the tail comes
pub record Ahead (Item : List ℕ → Type 0) (now : ByteReader) (place : ℕ) (tail : List ℕ) (left : ℕ) : Type 0 where
  pub todo : List ℕ
  pub series : Series Item left todo
  pub next : Next now (todo ++ tail)
  pub sum : now.at + length todo ≡ place

empty : {Item : List ℕ → Type 0} {left : ℕ} {todo : List ℕ} → Series Item left todo → left ≡ 0 → todo ≡ []
empty no_text none = refl
empty (next_text item series) none = absurd (omega arith)

pub at_tail : {Item : List ℕ → Type 0} {now : ByteReader} {place : ℕ} {tail : List ℕ} {left : ℕ} → Ahead Item now place tail left → left ≡ 0 → Next now tail
at_tail {now = now} {tail = tail} ahead none = next_parts now (ahead.todo ++ tail) tail (ap (λ (t : List ℕ). t ++ tail) (empty ahead.series none)) ahead.next

pub at_place : {Item : List ℕ → Type 0} {now : ByteReader} {place : ℕ} {tail : List ℕ} {left : ℕ} → Ahead Item now place tail left → left ≡ 0 → now.at ≡ place
at_place {now = now} ahead none =
    let length_none : length ahead.todo ≡ 0 = ap length (empty ahead.series none) in omega (arith, length_none, ahead.sum)

-- the text that comes next
pub record First (Item : List ℕ → Type 0) (now : ByteReader) (place : ℕ) (tail : List ℕ) (after : ℕ) : Type 0 where
  pub text : List ℕ
  pub item : Item text
  pub next : Next now text
  pub rest : List ℕ
  pub series : Series Item after rest
  pub more : Next now (text ++ (rest ++ tail))
  pub sum : now.at + (length text + length rest) ≡ place

first_of : {Item : List ℕ → Type 0} (now : ByteReader) (place : ℕ) (tail : List ℕ) (after : ℕ) {left : ℕ} {todo : List ℕ} → Series Item left todo → Next now (todo ++ tail) → now.at + length todo ≡ place
    → left ≡ 1 + after → First Item now place tail after
first_of now place tail after no_text next sum count = absurd (omega arith)
first_of {Item} now place tail after (next_text {n = n} {text = text} {rest = rest} item series) next sum count =
    let same : n ≡ after = omega arith in
    let all : Next now (text ++ (rest ++ tail)) = next_parts now ((text ++ rest) ++ tail) (text ++ (rest ++ tail)) (append_assoc text rest tail) next in
    record {
      text = text;
      item = item;
      next = next_front now text (rest ++ tail) all;
      rest = rest;
      series = subst (λ (k : ℕ). Series Item k rest) same series;
      more = all;
      sum = omega (arith, sum, length-append text rest);
    }

pub first : {Item : List ℕ → Type 0} {now : ByteReader} {place : ℕ} {tail : List ℕ} {left : ℕ} (after : ℕ) → Ahead Item now place tail left → left ≡ 1 + after → First Item now place tail after
first {now = now} {place = place} {tail = tail} after ahead count = first_of now place tail after ahead.series ahead.next ahead.sum count

pub passed : {Item : List ℕ → Type 0} {now : ByteReader} (new : ByteReader) {place : ℕ} {tail : List ℕ} {after : ℕ} → (f : First Item now place tail after) → Moves now new (length f.text)
    → Ahead Item new place tail after
passed {now = now} new {tail = tail} f moves =
    let moved : new.at ≡ now.at + length f.text = ap (λ (r : ByteReader). r.at) moves in
    record { todo = f.rest; series = f.series; next = next_past now new f.text (f.rest ++ tail) f.more moves; sum = omega (arith, f.sum, moved) }

-- text n is ahead, or what is noted of it has been noted
pub record AheadOrNoted (Item : List ℕ → Type 0) (now : ByteReader) (place : ℕ) (tail : List ℕ) (count n noted : ℕ) (notes : List ℕ) : Type 0 where
  pub ahead : count ≤ n → Ahead Item now place tail (n - count)
  pub is_noted : n < count → slice_get notes n ≡ Some noted

-- one more is noted
pub noted_more : (notes new : List ℕ) (count n note noted : ℕ) → length notes ≡ count → new ≡ notes ++ note ∷ [] → (n < count → slice_get notes n ≡ Some noted) → (n ≡ count → note ≡ noted) → n < count + 1
    → slice_get new n ≡ Some noted
noted_more notes new count n note noted all is before here below = ⊎_elim
    (λ (less : n < count). ap (λ (xs : List ℕ). slice_get xs n) is ∙ get-left notes (note ∷ []) n noted (before less))
    (λ (past : count ≤ n).
    let same : n ≡ count = omega (arith, past, below) in
    let last : n ≡ 0 + length notes = omega (arith, same, all) in
    ap (λ (xs : List ℕ). slice_get xs n) is ∙ get-right notes (note ∷ []) n 0 noted last (ap Some (here same)))
    (cases_lt n count)
