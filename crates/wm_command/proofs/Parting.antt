-- The pieces of a word, as it is cut once.
use Rattle.std.proofs.Common.{◌≡◌, ℕ, ◌<◌, List, [], ◌∷◌, get_or, true, false, Option, None, Some, Bor, refl, ap, ◌∙◌, inl, inr}
use Rattle.std.proofs.lemmas.Bool.{and_left, and_right, cases_Bool, ne_eqb}
use Rattle.std.proofs.lemmas.Bool.Decides.{Decides-eqb}
use Rattle.std.proofs.lemmas.List.Elements.{All-from_get_or}
use Rattle.std.proofs.lemmas.List.Splits.{slice_split-cons_no, slice_split-cons_yes, slice_split_at, slice_split_none}
use Rattle.std.proofs.lemmas.Str.Pattern.{IsSplitOnceResult, split_parts}
use Rattle.std.specs.Char.{is_ascii_digit}
use Rattle.std.specs.List.{list_all, onto_first, slice_split}
use Rattle.std.specs.Prelude.{◌==◌, ◌⊎◌, MatchOption}
use Rattle.wm_command.specs.Numbers.{pieces}

-- if a word is not cut, it is the only piece; otherwise the first piece comes before the others
pub cut_once : (code : ℕ) (word : List ℕ) (r : Option (Bor (List ℕ) × Bor (List ℕ))) → IsSplitOnceResult code word r → code < 128
    → MatchOption r (pieces code word ≡ word ∷ []) (λ cut. pieces code word ≡ cut.0.now ∷ pieces code cut.1.now)
unfolding pieces
cut_once code word None h ascii =
    let absent = split_parts code word None h ascii in
    slice_split_none (λ byte. byte == code) word (All-from_get_or (λ byte. (byte == code) ≡ false) word 0 (λ i inside. ne_eqb (get_or word i 0) code (absent i inside)))
cut_once code word (Some cut) h ascii =
    let parts = split_parts code word (Some cut) h ascii in
    ap (slice_split (λ byte. byte == code)) parts.0
    ∙ slice_split_at (λ byte. byte == code) cut.0.now code cut.1.now
    (All-from_get_or (λ byte. (byte == code) ≡ false) cut.0.now 0 (λ i inside. ne_eqb (get_or cut.0.now i 0) code (parts.1 i inside)))
    ((Decides-eqb code code).1 refl)

-- a word is one piece, or it is several and not of digits alone
abbrev pub IsWhole : ℕ → List ℕ → Type 0
IsWhole code word = (pieces code word ≡ word ∷ [])
    ⊎ ((first : List ℕ) × (second : List ℕ) × (others : List (List ℕ)) × (pieces code word ≡ first ∷ second ∷ others) × (list_all is_ascii_digit word ≡ false))

grown_cut : (code byte : ℕ) (bytes : List ℕ) → is_ascii_digit code ≡ false → (byte == code) ≡ true → IsWhole code bytes → IsWhole code (byte ∷ bytes)
unfolding pieces
grown_cut code byte bytes other same whole =
    let first : pieces code (byte ∷ bytes) ≡ [] ∷ pieces code bytes = slice_split-cons_yes (λ b. b == code) byte bytes same in
    let no_digit : list_all is_ascii_digit (byte ∷ bytes) ≡ false = and_left (is_ascii_digit byte) (list_all is_ascii_digit bytes) (ap is_ascii_digit ((Decides-eqb byte code).0 same) ∙ other) in
    elim whole [
      | inl one ↦ inr ([], bytes, [], first ∙ ap (λ l. [] ∷ l) one, no_digit)
      | inr more ↦ inr ([], more.0, more.1 ∷ more.2, first ∙ ap (λ l. [] ∷ l) more.3, no_digit)
    ]

grown_on : (code byte : ℕ) (bytes : List ℕ) → (byte == code) ≡ false → IsWhole code bytes → IsWhole code (byte ∷ bytes)
unfolding pieces
grown_on code byte bytes differs whole =
    let on : pieces code (byte ∷ bytes) ≡ onto_first byte (pieces code bytes) = slice_split-cons_no (λ b. b == code) byte bytes differs in
    elim whole [
      | inl one ↦ inl (on ∙ ap (onto_first byte) one)
      | inr more ↦ inr (byte ∷ more.0, more.1, more.2, on ∙ ap (onto_first byte) more.3, and_right (is_ascii_digit byte) (list_all is_ascii_digit bytes) more.4)
    ]

nothing_whole : (code : ℕ) → IsWhole code []
unfolding pieces
nothing_whole code = inl refl

pub digits_whole : (code : ℕ) (word : List ℕ) → is_ascii_digit code ≡ false → IsWhole code word
digits_whole code [] other = nothing_whole code
digits_whole code (byte ∷ bytes) other =
    elim (cases_Bool (byte == code)) [
      | inl same ↦ grown_cut code byte bytes other same (digits_whole code bytes other)
      | inr differs ↦ grown_on code byte bytes differs (digits_whole code bytes other)
    ]
