-- What a byte adds to the lines that precede it.
use Rattle.std.proofs.Common.{◌≡◌, ℕ, zero, suc, ◌+◌, ◌-◌, ◌<◌, ◌≤◌, Bool, List, [], ◌∷◌, ◌++◌, length, get_or, map, min, take, nat_eq, true, false, refl, sym, ap, ◌∙◌, subst, append_assoc, ⊎_elim, arith}
use Rattle.std.proofs.lemmas.Bool.{cases_lt, eqb-true}
use Rattle.std.proofs.Math.Seq.{take-append-add}
use Rattle.std.proofs.lemmas.List.{append-nil, get_or-take, length-drop, length-take, length-take-le, take-append-drop, take-append-le, take-take, take_all, take_more}
use Rattle.std.specs.Prelude.{◌==◌, ⊤, drop}
use Rattle.memchr.specs.Find.{Nowhere, Passes, is_byte}
use Rattle.wm_stream.specs.Lines.{Splits, SplitsOn, cut_lines, extended, last_line, lines_after}

extended_within : (limit : ℕ) (line bytes : List ℕ) → length line ≤ limit → extended limit (take limit line) bytes ≡ take limit (line ++ bytes)
extended_within limit line bytes le =
    let whole : take limit line ≡ line = take_all limit line le in
    let room : limit ≡ length line + (limit - length line) = omega (arith, le) in
    ap (λ first. extended limit first bytes) whole ∙ sym (ap (λ n. take n (line ++ bytes)) room ∙ take-append-add line bytes (limit - length line))

extended_past : (limit : ℕ) (line bytes : List ℕ) → limit ≤ length line → extended limit (take limit line) bytes ≡ take limit (line ++ bytes)
extended_past limit line bytes le =
    let full : limit - length (take limit line) ≡ 0 = grind (arith, le, length-take-le limit line le) in
    ap (λ n. take limit line ++ take n bytes) full ∙ append-nil (take limit line) ∙ sym (take-append-le limit line bytes le)

-- the kept bytes of a line with more bytes
pub extended_is : (limit : ℕ) (line bytes : List ℕ) → extended limit (take limit line) bytes ≡ take limit (line ++ bytes)
extended_is limit line bytes = ⊎_elim (λ (l : length line < limit). extended_within limit line bytes (omega (arith, l))) (extended_past limit line bytes) (cases_lt (length line) limit)

-- ---- the lines of a text that grows

pub begins : (limit : ℕ) → Splits limit [] [] []
begins limit = record { line = []; kept = sym (take_all limit [] (omega arith)); splits = λ rest. refl }

pub after_newline : (limit : ℕ) (bytes : List ℕ) (lines : List (List ℕ)) (begun : List ℕ) → Splits limit bytes lines begun
    → Splits limit (bytes ++ 10 ∷ []) (lines ++ begun ∷ []) []
after_newline limit bytes lines begun is = record {
  line = [];
  kept = sym (take_all limit [] (omega arith));
  splits = λ rest.
      ap (cut_lines limit) (append_assoc bytes (10 ∷ []) rest)
      ∙ is.splits (10 ∷ rest)
      ∙ ap (λ first. lines ++ first ∷ map (take limit) (lines_after [] rest)) (sym is.kept)
      ∙ sym (append_assoc lines (begun ∷ []) (map (take limit) (lines_after [] rest)));
}

other_byte : (line : List ℕ) (byte : ℕ) (rest : List ℕ) → nat_eq byte 10 ≡ false → lines_after line (byte ∷ rest) ≡ lines_after (line ++ byte ∷ []) rest
other_byte line byte rest other = rw other refl

-- no byte of these is a newline
abbrev pub HasNoNewline : List ℕ → Type 0
HasNoNewline [] = ⊤
HasNoNewline (byte ∷ bytes) = (nat_eq byte 10 ≡ false) × HasNoNewline bytes

other_bytes : (line bytes rest : List ℕ) → HasNoNewline bytes → lines_after line (bytes ++ rest) ≡ lines_after (line ++ bytes) rest
other_bytes line [] rest none = ap (λ first. lines_after first rest) (sym (append-nil line))
other_bytes line (byte ∷ bytes) rest none =
    other_byte line byte (bytes ++ rest) none.0 ∙ other_bytes (line ++ byte ∷ []) bytes rest none.1 ∙ ap (λ first. lines_after first rest) (append_assoc line (byte ∷ []) bytes)

pub after_bytes : (limit : ℕ) (bytes : List ℕ) (lines : List (List ℕ)) (begun more : List ℕ) → HasNoNewline more → Splits limit bytes lines begun
    → Splits limit (bytes ++ more) lines (extended limit begun more)
after_bytes limit bytes lines begun more none is = record {
  line = is.line ++ more;
  kept = ap (λ k. extended limit k more) is.kept ∙ extended_is limit is.line more;
  splits = λ rest.
      ap (cut_lines limit) (append_assoc bytes more rest)
      ∙ is.splits (more ++ rest)
      ∙ ap (λ (all : List (List ℕ)). lines ++ map (take limit) all) (other_bytes is.line more rest none);
}

-- ---- its end

cut_last : (limit : ℕ) (line : List ℕ) → 0 < limit → map (take limit) (last_line line) ≡ last_line (take limit line)
cut_last limit [] some = ap last_line (sym (take_all limit [] (omega arith)))
cut_last zero (byte ∷ bytes) some = absurd (omega (arith, some))
cut_last (suc n) (byte ∷ bytes) some = refl

pub ends : (limit : ℕ) (bytes : List ℕ) (lines : List (List ℕ)) (begun : List ℕ) → 0 < limit → Splits limit bytes lines begun
    → cut_lines limit bytes ≡ lines ++ last_line begun
ends limit bytes lines begun some is =
    ap (cut_lines limit) (sym (append-nil bytes)) ∙ is.splits [] ∙ ap (λ more. lines ++ more) (cut_last limit is.line some ∙ ap last_line (sym is.kept))

-- what follows adds lines
pub goes_on : (limit : ℕ) (bytes : List ℕ) (lines : List (List ℕ)) (begun rest : List ℕ) → Splits limit bytes lines begun
    → (others : List (List ℕ)) × (cut_lines limit (bytes ++ rest) ≡ lines ++ others)
goes_on limit bytes lines begun rest is = (map (take limit) (lines_after is.line rest), is.splits rest)

-- ---- line by line

pub no_newline : (bytes : List ℕ) → ((k : ℕ) → k < length bytes → (get_or bytes k 0 == 10) ≡ true → ⊥) → HasNoNewline bytes
no_newline [] none = tt
no_newline (byte ∷ bytes) none = (not_true (nat_eq byte 10) (none 0 (omega arith)), no_newline bytes (λ k l. none (suc k) (omega (arith, l))))
  where
    not_true : (b : Bool) → (b ≡ true → ⊥) → b ≡ false
    not_true true never = absurd (never refl)
    not_true false never = refl

-- a newline, with what precedes it and what follows
pub at_newline : (left : List ℕ) (e : ℕ) → e < length left → get_or left e 0 ≡ 10 → (take e left ++ 10 ∷ []) ++ take (length left - (e + 1)) (drop (e + 1) left) ≡ left
at_newline left e l is =
    let rest : take (length left - (e + 1)) (drop (e + 1) left) ≡ drop (e + 1) left = take_all (length left - (e + 1)) (drop (e + 1) left) (omega (arith, length-drop (e + 1) left)) in
    let first : take e left ++ 10 ∷ [] ≡ take (e + 1) left = sym (take_more left e 0 l ∙ ap (λ byte. take e left ++ byte ∷ []) is) in
    ap (λ more. (take e left ++ 10 ∷ []) ++ more) rest ∙ ap (λ most. most ++ drop (e + 1) left) first ∙ take-append-drop (e + 1) left

pub none_before : (left : List ℕ) (e : ℕ) → e ≤ length left → Nowhere (Passes (is_byte 10) left) 0 e → HasNoNewline (take e left)
none_before left e le none = no_newline (take e left) (λ k l is.
    let below : k < e = omega (arith, l, length-take-le e left le) in
    none k (omega arith) below (subst (λ byte. (byte == 10) ≡ true) (get_or-take e left k 0 below) is))

-- ---- part by part

pub splits_none : (limit : ℕ) (begun : List ℕ) → SplitsOn limit begun [] [] begun
splits_none limit begun = λ bytes before h. rw (append-nil bytes, append-nil before) h

-- the bytes up to a newline, and the newline
pub newline_ends : (limit : ℕ) (begun more : List ℕ) → HasNoNewline more → SplitsOn limit begun (more ++ 10 ∷ []) (extended limit begun more ∷ []) []
newline_ends limit begun more none = λ bytes before h.
    subst (λ all. Splits limit all (before ++ extended limit begun more ∷ []) []) (append_assoc bytes more (10 ∷ []))
    (after_newline limit (bytes ++ more) before (extended limit begun more) (after_bytes limit bytes before begun more none h))

-- bytes with no newline
pub continues : (limit : ℕ) (begun more : List ℕ) → HasNoNewline more → SplitsOn limit begun more [] (extended limit begun more)
continues limit begun more none = λ bytes before h.
    subst (λ lines. Splits limit (bytes ++ more) lines (extended limit begun more)) (sym (append-nil before)) (after_bytes limit bytes before begun more none h)

-- a part, and then another
pub splits_then : (limit : ℕ) (begun between next part rest : List ℕ) (lines more : List (List ℕ)) → SplitsOn limit begun part lines between → SplitsOn limit between rest more next
    → SplitsOn limit begun (part ++ rest) (lines ++ more) next
splits_then limit begun between next part rest lines more first second = λ bytes before h.
    subst (λ all. Splits limit all (before ++ (lines ++ more)) next) (append_assoc bytes part rest)
    (subst (λ all. Splits limit ((bytes ++ part) ++ rest) all next) (append_assoc before lines more) (second (bytes ++ part) (before ++ lines) (first bytes before h)))

-- each part ends some lines
pub splits_some : (limit : ℕ) (begun part : List ℕ) → (lines : List (List ℕ)) × (next : List ℕ) × SplitsOn limit begun part lines next
splits_some limit begun [] = ([], begun, splits_none limit begun)
splits_some limit begun (byte ∷ part) = go (nat_eq byte 10) refl (splits_some limit [] part) (splits_some limit (extended limit begun (byte ∷ [])) part)
  where
    go : (b : Bool) → nat_eq byte 10 ≡ b → ((lines : List (List ℕ)) × (next : List ℕ) × SplitsOn limit [] part lines next)
        → ((lines : List (List ℕ)) × (next : List ℕ) × SplitsOn limit (extended limit begun (byte ∷ [])) part lines next)
        → (lines : List (List ℕ)) × (next : List ℕ) × SplitsOn limit begun (byte ∷ part) lines next
    go true is ended continued =
        let line = extended limit begun [] in
        let newline : byte ≡ 10 = eqb-true byte 10 is in (
          line ∷ ended.0,
          ended.1,
          subst (λ first. SplitsOn limit begun (first ∷ part) (line ∷ ended.0) ended.1) (sym newline)
              (splits_then limit begun [] ended.1 (10 ∷ []) part (line ∷ []) ended.0 (newline_ends limit begun [] tt) ended.2),
        )
    go false is ended continued = (
      continued.0,
      continued.1,
      splits_then limit begun (extended limit begun (byte ∷ [])) continued.1 (byte ∷ []) part [] continued.0 (continues limit begun (byte ∷ []) (is, tt)) continued.2,
    )

-- ---- the kept bytes of a line within a part

pub extended_none : (limit : ℕ) (bytes : List ℕ) → extended limit [] bytes ≡ take limit bytes
extended_none limit bytes = let room : limit - 0 ≡ limit = omega arith in ap (λ n. take n bytes) room

pub cut_within : (limit e : ℕ) (left : List ℕ) → take (min e limit) left ≡ extended limit [] (take e left)
cut_within limit e left = ⊎_elim
    (λ (short : e < limit).
    let least : min e limit ≡ e = omega (arith, short) in
    ap (λ n. take n left) least ∙ sym (extended_none limit (take e left) ∙ take_all limit (take e left) (omega (arith, short, length-take e left))))
    (λ (long : limit ≤ e).
    let least : min e limit ≡ limit = omega (arith, long) in
    ap (λ n. take n left) least ∙ sym (extended_none limit (take e left) ∙ take-take limit e left long))
    (cases_lt e limit)
