-- Laws of taking tokens from the bytes of a text.
use Rattle.std.proofs.Common.{◌≡◌, ℕ, zero, suc, ◌+◌, ◌-◌, ◌<◌, ◌≤◌, Bool, true, false, cond, ◌==◌, ◌||◌, ◌⊎◌, inl, inr, List, [], ◌∷◌, ◌++◌, length, take, drop, Some, None, get_or, append_assoc, Option, option_and_then, refl, sym, ap, ap₂, ◌∙◌, subst, arith}
use Rattle.std.proofs.lemmas.Bool.{cases_eq, ne_eqb, and_parts, or_parts, not-true, leb-true, or_cases, eqb-true}
use Rattle.std.proofs.lemmas.List.{append-nil, drop_all, take_all}
use Rattle.std.specs.List.{prefix_len}
use Rattle.std.specs.Char.{is_ascii_digit}
use Rattle.json.specs.Lex.{Lexeme, Mode, token, operator, space, other, class, lex, lex_byte, between, in_string, string_token, fresh, after_value, after_comma, punctuate}
use Rattle.json.specs.Print.{IsNumber}
use Rattle.json.specs.Run.{is_plain}
use Rattle.json.specs.Text.{content, plain, after_backslash, prepend}
use Rattle.json.specs.Token.{begin_array, end_array, number, string}
use Rattle.json.specs.Word.{ends_word, head, is_space, after_whole, after_fraction, after_exponent, after_number}
use Rattle.json.proofs.Printed.Numbers.{lex-number}
use Rattle.wm_logfile.specs.TokensLeft.{begins_at, closes_at, tokens_left, EndsItem}
use Rattle.wm_logfile.specs.declared.quick.reader.Place.{Place}
use Rattle.wm_logfile.specs.declared.quick.reader.Place.TheVariants.{Fresh, AfterValue, AfterComma}

-- ---- a text that is only digits

first_digit : (b : Bool) (n m : ℕ) → cond b (1 + n) 0 ≡ suc m → (b ≡ true) × (n ≡ m)
first_digit true n m e = (refl, omega (arith, e))
first_digit false n m e = absurd (omega (arith, e))

digits_number : (ds : List ℕ) → 0 < length ds → (head ds ≡ 48 → length ds ≡ 1) → prefix_len is_ascii_digit ds ≡ length ds → IsNumber ds
unfolding after_number
digits_number [] some alone all = absurd (omega (arith, some))
digits_number (d ∷ ds) some alone all = go ds (cases_eq d 48) alone all
  where
    go : (es : List ℕ) → (d ≡ 48) ⊎ (d ≡ 48 → ⊥) → (head (d ∷ es) ≡ 48 → length (d ∷ es) ≡ 1) → prefix_len is_ascii_digit (d ∷ es) ≡ length (d ∷ es) → IsNumber (d ∷ es)
    go [] (inl e) one same = rw e refl
    go (e ∷ es) (inl is) one same = absurd (omega (arith, one is))
    go es (inr ne) one same =
        let first = first_digit (is_ascii_digit d) (prefix_len is_ascii_digit es) (length es) same in
        let low : 48 ≤ d = leb-true 48 d (and_parts _ _ first.0).0 in
        let whole : after_whole (d ∷ es) ≡ Some [] = rw (ne_eqb d 48 ne, same, ne_eqb (suc (length es)) 0 (λ e. omega (arith, e))) (ap Some (drop_all (length es) es (omega arith))) in
        let plus : (d == 45) ≡ false = ne_eqb d 45 (λ e. omega (arith, low, e)) in
        ap (λ o. option_and_then after_exponent (option_and_then after_fraction o)) (ap (λ b. after_whole (cond b es (d ∷ es))) plus ∙ whole)

run_byte : (b : Bool) (d n : ℕ) (ds : List ℕ) → b ≡ is_ascii_digit d → prefix_len is_ascii_digit (take n ds) ≡ length (take n ds) → prefix_len is_ascii_digit (take (cond b (1 + n) 0) (d ∷ ds)) ≡ length (take (cond b (1 + n) 0) (d ∷ ds))
run_byte false d n ds is e = refl
run_byte true d n ds is e =
    let next : 1 + n ≡ suc n = omega arith in
    subst (λ k. prefix_len is_ascii_digit (take k (d ∷ ds)) ≡ length (take k (d ∷ ds))) (sym next) (ap (λ b. cond b (1 + prefix_len is_ascii_digit (take n ds)) 0) (sym is) ∙ omega (arith, e))

run_digits : (ds : List ℕ) → prefix_len is_ascii_digit (take (prefix_len is_ascii_digit ds) ds) ≡ length (take (prefix_len is_ascii_digit ds) ds)
run_digits [] = refl
run_digits (d ∷ ds) = run_byte (is_ascii_digit d) d (prefix_len is_ascii_digit ds) ds refl (run_digits ds)

joined : (n : ℕ) (ds : List ℕ) → ds ≡ take n ds ++ drop n ds
joined zero ds = refl
joined (suc n) [] = refl
joined (suc n) (d ∷ ds) = ap (λ l. d ∷ l) (joined n ds)

digits_lexed : (n : ℕ) (text digits rest : List ℕ) → n ≡ prefix_len is_ascii_digit text → digits ≡ take n text → rest ≡ drop n text → 0 < length digits → (head digits ≡ 48 → length digits ≡ 1) → ends_word rest ≡ true
    → lex between text ≡ token (number digits) ∷ lex between rest
digits_lexed n text digits rest is front back some alone ended =
    let all : prefix_len is_ascii_digit digits ≡ length digits = rw (front, is) (run_digits text) in
    let whole : text ≡ digits ++ rest = joined n text ∙ ap₂ (λ a b. a ++ b) (sym front) (sym back) in
    ap (lex between) whole ∙ lex-number digits rest (digits_number digits some alone all) ended

-- ---- a string without escapes

in_kind : (o s : Bool) (x : ℕ) (xs : List ℕ) (k : Mode → List Lexeme) → lex_byte in_string (cond o operator (cond s space other)) x xs k ≡ k in_string
in_kind true s x xs k = refl
in_kind false true x xs k = refl
in_kind false false x xs k = refl

in_byte : (x : ℕ) (xs : List ℕ) → is_plain x ≡ true → lex in_string (x ∷ xs) ≡ lex in_string xs
unfolding lex
in_byte x xs is =
    let none = or_parts ((x == 34) || (x == 92)) _ (not-true _ is) in
    let tests = or_parts (x == 34) _ none.0 in
    rw (tests.0, tests.1) (in_kind _ _ x xs (λ m. lex m xs))

prepend_twice : (a b : List ℕ) (r : Option (List ℕ)) → prepend a (prepend b r) ≡ prepend (a ++ b) r
prepend_twice a b None = refl
prepend_twice a b (Some s) = ap Some (sym (append_assoc a b s))

prepend_nothing : (r : Option (List ℕ)) → prepend [] r ≡ r
prepend_nothing None = refl
prepend_nothing (Some s) = refl

content_run-byte : (b : Bool) (x n : ℕ) (xs : List ℕ) → b ≡ is_plain x → content plain xs ≡ prepend (take n xs) (content plain (drop n xs))
    → content plain (x ∷ xs) ≡ prepend (take (cond b (1 + n) 0) (x ∷ xs)) (content plain (drop (cond b (1 + n) 0) (x ∷ xs)))
unfolding content
content_run-byte false x n xs is e = sym (prepend_nothing _)
content_run-byte true x n xs is e =
    let next : suc n ≡ 1 + n = omega arith in
    let none = or_parts ((x == 34) || (x == 92)) _ (not-true _ (sym is)) in
    let tests = or_parts (x == 34) _ none.0 in
    (λ i. cond (tests.0 i) (Some []) (cond (tests.1 i) (content after_backslash xs) (cond (none.1 i) None (prepend (x ∷ []) (e i)))))
    ∙ prepend_twice (x ∷ []) (take n xs) _ ∙ ap (λ k. prepend (take k (x ∷ xs)) (content plain (drop k (x ∷ xs)))) next

content_run : (xs : List ℕ) → content plain xs ≡ prepend (take (prefix_len is_plain xs) xs) (content plain (drop (prefix_len is_plain xs) xs))
content_run [] = sym (prepend_nothing _)
content_run (x ∷ xs) = content_run-byte (is_plain x) x (prefix_len is_plain xs) xs refl (content_run xs)

in_run-byte : (b : Bool) (x n : ℕ) (xs : List ℕ) → b ≡ is_plain x → lex in_string xs ≡ lex in_string (drop n xs) → lex in_string (x ∷ xs) ≡ lex in_string (drop (cond b (1 + n) 0) (x ∷ xs))
in_run-byte false x n xs is e = refl
in_run-byte true x n xs is e =
    let next : suc n ≡ 1 + n = omega arith in
    in_byte x xs (sym is) ∙ e ∙ ap (λ k. lex in_string (drop k (x ∷ xs))) next

in_run : (xs : List ℕ) → lex in_string xs ≡ lex in_string (drop (prefix_len is_plain xs) xs)
in_run [] = refl
in_run (x ∷ xs) = in_run-byte (is_plain x) x (prefix_len is_plain xs) xs refl (in_run xs)

string_lexed : (n : ℕ) (text front rest : List ℕ) → n ≡ prefix_len is_plain text → front ≡ take n text → drop n text ≡ 34 ∷ rest → lex between (34 ∷ text) ≡ token (string front) ∷ lex between rest
unfolding lex content
string_lexed n text front rest is same closed =
    let plain_part : content plain text ≡ Some front =
    subst (λ k. content plain text ≡ prepend (take k text) (content plain (drop k text))) (sym is) (content_run text) ∙ ap (λ l. prepend (take n text) (content plain l)) closed ∙ ap Some (append-nil (take n text) ∙ sym same) in
    let after : lex in_string text ≡ lex between rest = subst (λ k. lex in_string text ≡ lex in_string (drop k text)) (sym is) (in_run text) ∙ ap (lex in_string) closed in
    ap₂ (λ o l. token (string_token o) ∷ l) plain_part after

-- ---- blanks

pub all_but_first : (t : List ℕ) → take (length t - 1) (drop 1 t) ≡ drop 1 t
all_but_first [] = refl
all_but_first (x ∷ t) = let n : suc (length t) - 1 ≡ length t = omega arith in ap (λ k. take k t) n ∙ take_all (length t) t (omega arith)

is_blank_class : (x : ℕ) → is_space x ≡ true → class x ≡ space
is_blank_class x is = go (or_cases _ _ is)
  where
    go3 : ((x == 32) ≡ true) ⊎ ((x == 9) ≡ true) → class x ≡ space
    go3 (inl e) = rw (eqb-true x 32 e) refl
    go3 (inr e) = rw (eqb-true x 9 e) refl

    go2 : (((x == 32) || (x == 9)) ≡ true) ⊎ ((x == 10) ≡ true) → class x ≡ space
    go2 (inl e) = go3 (or_cases _ _ e)
    go2 (inr e) = rw (eqb-true x 10 e) refl

    go : (((x == 32) || (x == 9) || (x == 10)) ≡ true) ⊎ ((x == 13) ≡ true) → class x ≡ space
    go (inl e) = go2 (or_cases _ _ e)
    go (inr e) = rw (eqb-true x 13 e) refl

pub first_and_rest : (text : List ℕ) (x : ℕ) → 0 < length text → get_or text 0 0 ≡ x → text ≡ x ∷ drop 1 text
first_and_rest [] x some is = absurd (omega (arith, some))
first_and_rest (y ∷ text) x some is = ap (λ z. z ∷ text) is

blank_first : (x : ℕ) (text : List ℕ) → class x ≡ space → lex between (x ∷ text) ≡ lex between text
unfolding lex
blank_first x text is = ap (λ c. lex_byte between c x text (λ m. lex m text)) is

pub blank_passed : (start text : List ℕ) → lex between text ≡ lex between start → 0 < length text → is_space (get_or text 0 0) ≡ true → lex between (drop 1 text) ≡ lex between start
blank_passed start [] same some is = absurd (omega (arith, some))
blank_passed start (x ∷ text) same some is = sym (blank_first x text (is_blank_class x is)) ∙ same

-- ---- what is left after a token

pub begin_left : (p : Place) (text at rest : List ℕ) → begins_at p ≡ true → lex between at ≡ lex between text → at ≡ 91 ∷ rest → tokens_left p text ≡ begin_array ∷ tokens_left Fresh rest
unfolding lex punctuate
begin_left Fresh text at rest may same is = ap (punctuate fresh) (sym same ∙ ap (lex between) is)
begin_left AfterValue text at rest may same is = absurd cc
begin_left AfterComma text at rest may same is = ap (punctuate after_comma) (sym same ∙ ap (lex between) is)

pub end_left : (p : Place) (text at rest : List ℕ) → closes_at p ≡ true → lex between at ≡ lex between text → at ≡ 93 ∷ rest → tokens_left p text ≡ end_array ∷ punctuate after_value (lex between rest)
unfolding lex punctuate
end_left Fresh text at rest may same is = ap (punctuate fresh) (sym same ∙ ap (lex between) is)
end_left AfterValue text at rest may same is = ap (punctuate after_value) (sym same ∙ ap (lex between) is)
end_left AfterComma text at rest may same is = absurd cc

pub none_left : (p : Place) (text at : List ℕ) → closes_at p ≡ true → lex between at ≡ lex between text → at ≡ [] → tokens_left p text ≡ []
unfolding lex punctuate
none_left Fresh text at may same is = ap (punctuate fresh) (sym same ∙ ap (lex between) is)
none_left AfterValue text at may same is = ap (punctuate after_value) (sym same ∙ ap (lex between) is)
none_left AfterComma text at may same is = absurd cc

pub comma_left : (text at rest : List ℕ) → lex between at ≡ lex between text → at ≡ 44 ∷ rest → tokens_left AfterComma rest ≡ punctuate after_value (lex between text)
unfolding lex punctuate
comma_left text at rest same is = sym (ap (punctuate after_value) (sym same ∙ ap (lex between) is))

pub value_left : (text at : List ℕ) → lex between at ≡ lex between text → tokens_left AfterValue at ≡ punctuate after_value (lex between text)
value_left text at same = ap (punctuate after_value) same

number_left : (p : Place) (text at digits rest : List ℕ) → begins_at p ≡ true → lex between at ≡ lex between text → lex between at ≡ token (number digits) ∷ lex between rest → tokens_left p text ≡ number digits ∷ punctuate after_value (lex between rest)
unfolding punctuate
number_left Fresh text at digits rest may same is = ap (punctuate fresh) (sym same ∙ is)
number_left AfterValue text at digits rest may same is = absurd cc
number_left AfterComma text at digits rest may same is = ap (punctuate after_comma) (sym same ∙ is)

pub digits_left : (p : Place) (text at digits rest : List ℕ) (n : ℕ) → begins_at p ≡ true → lex between at ≡ lex between text → n ≡ prefix_len is_ascii_digit at → digits ≡ take n at → rest ≡ drop n at → 0 < length digits → (head digits ≡ 48 → length digits ≡ 1) → ends_word rest ≡ true
    → tokens_left p text ≡ number digits ∷ punctuate after_value (lex between rest)
digits_left p text at digits rest n may same is front back some alone ended = number_left p text at digits rest may same (digits_lexed n at digits rest is front back some alone ended)

text_left : (p : Place) (text at front rest next : List ℕ) → begins_at p ≡ true → lex between at ≡ lex between text → lex between at ≡ token (string front) ∷ lex between rest → lex between next ≡ lex between rest → EndsItem next
    → tokens_left p text ≡ string front ∷ punctuate after_value (lex between next)
unfolding lex punctuate
text_left AfterValue text at front rest next may same is then ends = absurd cc
text_left Fresh text at front rest next may same is then (inl e) = ap (punctuate fresh) (sym same ∙ is ∙ ap (λ l. token (string front) ∷ l) (sym then)) ∙ rw e refl
text_left Fresh text at front rest next may same is then (inr e) = ap (punctuate fresh) (sym same ∙ is ∙ ap (λ l. token (string front) ∷ l) (sym then)) ∙ rw e refl
text_left AfterComma text at front rest next may same is then (inl e) = ap (punctuate after_comma) (sym same ∙ is ∙ ap (λ l. token (string front) ∷ l) (sym then)) ∙ rw e refl
text_left AfterComma text at front rest next may same is then (inr e) = ap (punctuate after_comma) (sym same ∙ is ∙ ap (λ l. token (string front) ∷ l) (sym then)) ∙ rw e refl

pub plain_left : (p : Place) (text at begun front rest next : List ℕ) (n : ℕ) → begins_at p ≡ true → lex between at ≡ lex between text → at ≡ 34 ∷ begun → n ≡ prefix_len is_plain begun → front ≡ take n begun → drop n begun ≡ 34 ∷ rest
    → lex between next ≡ lex between rest → EndsItem next → tokens_left p text ≡ string front ∷ punctuate after_value (lex between next)
plain_left p text at begun front rest next n may same is run same_front closed then ends =
    text_left p text at front rest next may same (ap (lex between) is ∙ string_lexed n begun front rest run same_front closed) then ends

pub empty_text : (t : List ℕ) → length t ≡ 0 → t ≡ []
empty_text [] e = refl
empty_text (x ∷ t) e = absurd (omega (arith, e))

-- the text after its first byte
pub cut : (t : List ℕ) (x : ℕ) → t ≡ x ∷ drop 1 t → t ≡ x ∷ take (length t - 1) (drop 1 t)
cut t x is = is ∙ ap (λ u. x ∷ u) (sym (all_but_first t))
