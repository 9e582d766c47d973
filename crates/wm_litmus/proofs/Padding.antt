-- A line of the table, as it is written.
use Rattle.std.proofs.Common.{◌≡◌, ℕ, zero, suc, ◌-◌, ◌^◌, List, [], ◌∷◌, ◌++◌, length, map, false, codes, refl, sym, ap, ◌∙◌, append_assoc, arith}
use Rattle.std.proofs.lemmas.List.{append-nil, map-append}
use Rattle.std.proofs.lemmas.List.Concat.{flat_map-append}
use Rattle.std.specs.Fmt.{char_count, decimal, format_spec, padded_integral}
use Rattle.std.specs.List.{flat_map, repeat}
use Rattle.std.specs.Prelude.{String, replicate, string_bytes}
use Rattle.std.specs.declared.alloc.Global.{Global}
use lib.Utf8.{encode}
use Rattle.wm_litmus.specs.Counts.{row_of}
use Rattle.wm_litmus.specs.Table.{count_text, row_text}

repeat_space : (n : ℕ) → repeat {A = ℕ} n (32 ∷ []) ≡ replicate n 32
repeat_space zero = refl
repeat_space (suc n) = ap (λ l. 32 ∷ l) (repeat_space n)

shape : (digits : List ℕ) → padded_integral (format_spec 32 3 0 8 (2 ^ 64 - 1)) false [] digits
    ≡ repeat {A = ℕ} (8 - length digits - 0 - 0) (32 ∷ []) ++ [] ++ [] ++ [] ++ (digits ++ repeat {A = ℕ} (8 - length digits - 0 - 0 - (8 - length digits - 0 - 0)) (32 ∷ []))
unfolding padded_integral char_count encode
shape digits = refl

finish : (p q n : ℕ) (digits : List ℕ) → p ≡ n → q ≡ 0 → repeat {A = ℕ} p (32 ∷ []) ++ [] ++ [] ++ [] ++ (digits ++ repeat {A = ℕ} q (32 ∷ [])) ≡ replicate n 32 ++ digits
finish p q n digits e z = rw (e, z) (simp append-nil (ap (λ l. l ++ digits) (repeat_space n)))

padded_is : (digits : List ℕ) → padded_integral (format_spec 32 3 0 8 (2 ^ 64 - 1)) false [] digits ≡ replicate (8 - length digits) 32 ++ digits
padded_is digits =
    let p = 8 - length digits - 0 - 0 in
    let all : p ≡ 8 - length digits = omega arith in
    let none : p - p ≡ 0 = omega arith in
    shape digits ∙ finish p (p - p) (8 - length digits) digits all none

regroup : (a b c d : List ℕ) → ((a ++ b) ++ c) ++ d ≡ a ++ (b ++ (c ++ d))
regroup a b c d = simp append_assoc

line_is : (outcome : List ℕ) (count : ℕ) → padded_integral (format_spec 32 3 0 8 (2 ^ 64 - 1)) false [] (decimal count) ++ (codes "  " ++ (outcome ++ codes "\n"))
    ≡ row_text record { outcome = outcome; count = count }
line_is outcome count =
    ap (λ number. number ++ (codes "  " ++ (outcome ++ codes "\n"))) (padded_is (decimal count)) ∙ sym (regroup (count_text count) (codes "  ") outcome (10 ∷ []))

pub row_written : (text written line : List ℕ) (entries : List (String Global × ℕ)) (entry : String Global × ℕ)
    → text ≡ flat_map row_text (map row_of entries)
    → line ≡ padded_integral (format_spec 32 3 0 8 (2 ^ 64 - 1)) false [] (decimal entry.1) ++ (codes "  " ++ (string_bytes entry.0 ++ codes "\n"))
    → written ≡ text ++ line → written ≡ flat_map row_text (map row_of (entries ++ entry ∷ []))
row_written text written line entries entry before is more =
    more ∙ ap (λ t. t ++ line) before ∙ ap (λ l. flat_map row_text (map row_of entries) ++ l) (is ∙ line_is (string_bytes entry.0) entry.1 ∙ sym (append-nil (row_text (row_of entry))))
    ∙ sym (flat_map-append row_text (map row_of entries) (map row_of (entry ∷ [])))
    ∙ ap (flat_map row_text) (sym (map-append row_of entries (entry ∷ [])))
