-- What parsing a word of digits gives.
use Rattle.std.proofs.Common.{◌≡◌, ℕ, zero, suc, ◌<◌, ◌≤◌, ◌^◌, inl, inr, true≢false, List, length, Bool, true, false, Option, None, Some, refl, sym, ap, ◌∙◌, arith, rules}
use Rattle.std.proofs.lemmas.Bool.{cases_Bool, cond-false, cond-true, false_from_ne_true}
use Rattle.std.proofs.lemmas.Bool.Decides.{Decides-ltb}
use Rattle.std.proofs.lemmas.Str.Parse.{IsDigitsTest, IsNumeralModel, numerals_by_value, parse_digits}
use Rattle.std.specs.Char.{is_ascii_digit}
use Rattle.std.specs.List.{list_all}
use Rattle.std.specs.Prelude.{Result, Ok, Err, cond, nat_lt, ◌&&◌}
use Rattle.std.specs.Result.{OkIff, result_ok}
use Rattle.std.specs.Str.Parse.{ParsesUnsigned, digits_value}
use Rattle.wm_command.specs.Numbers.{below, number_below, number_of}
use Rattle.wm_command.specs.Words.{not_zero}

tells : IsDigitsTest (λ ds. list_all is_ascii_digit ds ≡ true)
tells = search rules

own : IsNumeralModel (λ ds. list_all is_ascii_digit ds ≡ true) (digits_value 10)
own = numerals_by_value _ tells

chosen : (b d : Bool) (v : ℕ) → b ≡ true → d ≡ true → cond (b && d) (Some v) None ≡ Some v
chosen b d v p q = rw (p, q) refl

unchosen : (b d : Bool) (v : ℕ) → b ≡ false → cond (b && d) (Some v) None ≡ None
unchosen b d v p = rw p refl

other_chosen : (b d : Bool) (v : ℕ) → d ≡ false → cond (b && d) (Some v) None ≡ None
other_chosen true d v q = rw q refl
other_chosen false d v q = refl

-- digits spell their number
number_of_digits : (word : List ℕ) → 0 < length word → list_all is_ascii_digit word ≡ true → number_of word ≡ Some (digits_value 10 word)
unfolding number_of
number_of_digits word long digits = chosen (nat_lt 0 (length word)) (list_all is_ascii_digit word) (digits_value 10 word) ((Decides-ltb 0 (length word)).1 long) digits

number_of_none : (word : List ℕ) → nat_lt 0 (length word) ≡ false → number_of word ≡ None
unfolding number_of
number_of_none word short = unchosen (nat_lt 0 (length word)) (list_all is_ascii_digit word) (digits_value 10 word) short

-- what has another character spells no number
pub number_of_others : (word : List ℕ) → list_all is_ascii_digit word ≡ false → number_of word ≡ None
unfolding number_of
number_of_others word other = other_chosen (nat_lt 0 (length word)) (list_all is_ascii_digit word) (digits_value 10 word) other

pub number_below_others : (limit : ℕ) (word : List ℕ) → list_all is_ascii_digit word ≡ false → number_below limit word ≡ None
number_below_others limit word other = ap (below limit) (number_of_others word other)

below_yes : (limit n : ℕ) → n < limit → below limit (Some n) ≡ Some n
below_yes limit n small = cond-true (nat_lt n limit) (Some n) None ((Decides-ltb n limit).1 small)

below_no : (limit n : ℕ) → (n < limit → ⊥) → below limit (Some n) ≡ None
below_no limit n large = cond-false (nat_lt n limit) (Some n) None (false_from_ne_true (nat_lt n limit) (λ is. large ((Decides-ltb n limit).0 is)))

parsed_as : {E : Type 0} (limit : ℕ) (word : List ℕ) (r : Result ℕ E) → OkIff r ((0 < length word) × (digits_value 10 word < limit)) (digits_value 10 word)
    → list_all is_ascii_digit word ≡ true → result_ok r ≡ number_below limit word
parsed_as limit word (Ok number) h digits =
    sym (ap (below limit) (number_of_digits word h.0.0 digits) ∙ below_yes limit (digits_value 10 word) h.0.1 ∙ ap Some (sym h.1))
parsed_as limit word (Err fault) h digits =
    elim (cases_Bool (nat_lt 0 (length word))) [
      | inl long ↦ let some : 0 < length word = (Decides-ltb 0 (length word)).0 long in
          sym (ap (below limit) (number_of_digits word some digits) ∙ below_no limit (digits_value 10 word) (λ small. h (some, small)))
      | inr short ↦ sym (ap (below limit) (number_of_none word short))
    ]

-- what `parse` reads of digits
pub parsed : {E : Type 0} (word : List ℕ) (r : Result ℕ E) → ParsesUnsigned 64 10 word r → list_all is_ascii_digit word ≡ true → result_ok r ≡ number_below (2 ^ 64) word
parsed word r h digits = parsed_as (2 ^ 64) word r (parse_digits own 64 word r h digits) digits

below_below : (a b : ℕ) (o : Option ℕ) → a ≤ b → below a (below b o) ≡ below a o
below_below a b None le = refl
below_below a b (Some n) le =
    elim (cases_Bool (nat_lt n b)) [
      | inl small ↦ ap (below a) (cond-true (nat_lt n b) (Some n) None small)
      | inr large ↦ ap (below a) (cond-false (nat_lt n b) (Some n) None large) ∙ sym (below_no a n (λ less. let small : n < b = omega arith in true≢false (sym ((Decides-ltb n b).1 small) ∙ large)))
    ]

-- a number of 32 bits by the one of 64 bits
pub small_as : (word : List ℕ) (o : Option ℕ) → o ≡ number_below (2 ^ 64) word → number_below (2 ^ 32) word ≡ below (2 ^ 32) o
small_as word o is = sym (ap (below (2 ^ 32)) is ∙ below_below (2 ^ 32) (2 ^ 64) (number_of word) (omega arith))

-- a number that fits
pub fitted : {E : Type 0} (limit n : ℕ) (r : Result ℕ E) → OkIff r (n < limit) n → result_ok r ≡ below limit (Some n)
fitted limit n (Ok number) h = ap Some h.1 ∙ sym (below_yes limit n h.0)
fitted limit n (Err fault) h = sym (below_no limit n h)

-- the number of rounds
pub count_as : (word : List ℕ) (o : Option ℕ) → o ≡ number_below (2 ^ 32) word → number_below 10001 word ≡ below 10001 o
count_as word o is = sym (ap (below 10001) is ∙ below_below 10001 (2 ^ 32) (number_of word) (omega arith))

pub counted : (n : ℕ) → 1 ≤ n → n ≤ 10000 → not_zero (below 10001 (Some n)) ≡ Some n
counted zero some most = absurd (omega arith)
counted (suc n) some most = ap not_zero (below_yes 10001 (suc n) (omega arith))

pub uncounted : (n : ℕ) → (1 ≤ n → n ≤ 10000 → ⊥) → not_zero (below 10001 (Some n)) ≡ None
uncounted zero out = ap not_zero (below_yes 10001 zero (omega arith))
uncounted (suc n) out = ap not_zero (below_no 10001 (suc n) (λ less. out (omega arith) (omega arith)))

-- the number of nodes
pub some_nodes : (n : ℕ) → 1 ≤ n → not_zero (Some n) ≡ Some n
some_nodes zero some = absurd (omega arith)
some_nodes (suc n) some = refl

pub no_nodes : (n : ℕ) → (1 ≤ n → ⊥) → not_zero (Some n) ≡ None
no_nodes zero none = refl
no_nodes (suc n) none = absurd (none (omega arith))
