-- A thread with one end has no other.
use Rattle.std.proofs.Common.{◌≡◌, ℕ, zero, suc, ◌+◌, ◌<◌, ◌≤◌, Bool, true, false, cond, List, [], ◌∷◌, length, Some, slice_get, sym, ap, subst, ◌∙◌, inl, inr, arith}
use Rattle.std.specs.Prelude.{count_by, ◌==◌}
use Rattle.std.proofs.lemmas.Bool.{cases_Bool, eq-eqb, eqb-true}
use Rattle.std.proofs.Math.Nat.{eq-or-lt_of_le}
use Rattle.std.proofs.lemmas.List.Sums.{sum_by-cons}
use Rattle.std.proofs.lemmas.Option.{get_or_from_slice_get, slice_get-get_or, slice_get_within}
use Rattle.wm_run.specs.declared.rounds.ended.ThreadEnd.{ThreadEnd}
use Rattle.wm_run.specs.Ends.{IsEndIn, ends_of}

pub counted : {X : Type 0} (p : X → Bool) (x : X) (xs : List X) → p x ≡ true → count_by p (x ∷ xs) ≡ 1 + count_by p xs
counted p x xs is = sum_by-cons (λ y. cond (p y) 1 0) x xs ∙ ap (λ (b : Bool). cond b 1 0 + count_by p xs) is

pub uncounted : {X : Type 0} (p : X → Bool) (x : X) (xs : List X) → p x ≡ false → count_by p (x ∷ xs) ≡ count_by p xs
uncounted p x xs is =
    let more : count_by p (x ∷ xs) ≡ 0 + count_by p xs = sum_by-cons (λ y. cond (p y) 1 0) x xs ∙ ap (λ (b : Bool). cond b 1 0 + count_by p xs) is in
    omega (arith, more)

pub first_is : {X : Type 0} (y : X) (ys : List X) (x : X) → slice_get (y ∷ ys) 0 ≡ Some x → y ≡ x
first_is y ys x is = get_or_from_slice_get (y ∷ ys) 0 x x is

pub among_others : {X : Type 0} (y : X) (ys : List X) (k : ℕ) (x : X) → slice_get (y ∷ ys) (suc k) ≡ Some x → slice_get ys k ≡ Some x
among_others y ys k x is =
    let within : suc k < length (y ∷ ys) = slice_get_within (y ∷ ys) (suc k) x is in
    let lt : k < length ys = omega (arith, within) in
    slice_get-get_or ys k x lt ∙ ap Some (get_or_from_slice_get (y ∷ ys) (suc k) x x is)

some_counted : {X : Type 0} (p : X → Bool) (xs : List X) (k : ℕ) (x : X) → slice_get xs k ≡ Some x → p x ≡ true → 0 < count_by p xs
some_counted p [] k x is passes = absurd (let within : k < 0 = slice_get_within [] k x is in omega (arith, within))
some_counted p (y ∷ ys) zero x is passes =
    let first : p y ≡ true = ap p (first_is y ys x is) ∙ passes in
    (let n = counted p y ys first in omega (arith, n))
some_counted p (y ∷ ys) (suc k) x is passes =
    let more : 0 < count_by p ys = some_counted p ys k x (among_others y ys k x is) passes in
    let n = sum_by-cons (λ z. cond (p z) 1 0) y ys in
    omega (arith, n, more)

only_one : {X : Type 0} (p : X → Bool) (xs : List X) (i j : ℕ) (x y : X) → count_by p xs ≡ 1 → slice_get xs i ≡ Some x → slice_get xs j ≡ Some y → p x ≡ true → p y ≡ true → x ≡ y
only_one p [] i j x y one is_x is_y passes_x passes_y = absurd (let within : i < 0 = slice_get_within [] i x is_x in omega (arith, within))
only_one p (z ∷ zs) zero zero x y one is_x is_y passes_x passes_y = sym (first_is z zs x is_x) ∙ first_is z zs y is_y
only_one p (z ∷ zs) zero (suc j) x y one is_x is_y passes_x passes_y =
    let n = counted p z zs (ap p (first_is z zs x is_x) ∙ passes_x) in
    let more = some_counted p zs j y (among_others z zs j y is_y) passes_y in
    absurd (omega (arith, n, more, one))
only_one p (z ∷ zs) (suc i) zero x y one is_x is_y passes_x passes_y =
    let n = counted p z zs (ap p (first_is z zs y is_y) ∙ passes_y) in
    let more = some_counted p zs i x (among_others z zs i x is_x) passes_x in
    absurd (omega (arith, n, more, one))
only_one p (z ∷ zs) (suc i) (suc j) x y one is_x is_y passes_x passes_y =
    elim (cases_Bool (p z)) [
      | inl is ↦
          let n = counted p z zs is in
          let more = some_counted p zs i x (among_others z zs i x is_x) passes_x in
          absurd (omega (arith, n, more, one))
      | inr is_not ↦ only_one p zs i j x y (sym (uncounted p z zs is_not) ∙ one) (among_others z zs i x is_x) (among_others z zs j y is_y) passes_x passes_y
    ]

pub only_end : (ends : List ThreadEnd) (t : ℕ) (x y : ThreadEnd) → ends_of ends t ≡ 1 → IsEndIn ends t x → IsEndIn ends t y → x ≡ y
only_end ends t x y one is_x is_y = only_one (λ e. e.thread == t) ends is_x.0.0 is_y.0.0 x y one is_x.0.1 is_y.0.1 (eq-eqb x.thread t is_x.1) (eq-eqb y.thread t is_y.1)

-- ---- what holds of the ends of the first threads

-- what holds of the end of one thread more
pub one_more_end : (P : ℕ → ThreadEnd → Type 0) (ends : List ThreadEnd) (n : ℕ) (e : ThreadEnd) → ends_of ends n ≡ 1 → IsEndIn ends n e → P n e → ((t : ℕ) (x : ThreadEnd) → t < n → IsEndIn ends t x → P t x)
    → (t : ℕ) (x : ThreadEnd) → t < n + 1 → IsEndIn ends t x → P t x
one_more_end P ends n e one is holds below t x lt in_ends =
    let within : t ≤ n = omega (arith, lt) in
    elim (eq-or-lt_of_le within) [
      | inl same ↦
          let here : IsEndIn ends n x = subst (λ k. IsEndIn ends k x) same in_ends in
          subst (λ k. P k x) (sym same) (subst (P n) (only_end ends n e x one is here) holds)
      | inr less ↦ below t x less in_ends
    ]

-- ---- a thread that has one has it

pub one_later : {X : Type 0} (x : X) (xs : List X) (k : ℕ) (y : X) → slice_get xs k ≡ Some y → slice_get (x ∷ xs) (suc k) ≡ Some y
one_later x xs k y is =
    let lt : k < length xs = slice_get_within xs k y is in
    slice_get-get_or (x ∷ xs) (suc k) y (omega (arith, lt)) ∙ ap Some (get_or_from_slice_get xs k y y is)

find : {X : Type 0} (p : X → Bool) (xs : List X) → 0 < count_by p xs → (x : X) × ((k : ℕ) × (slice_get xs k ≡ Some x)) × (p x ≡ true)
find p [] some = absurd (omega (arith, some))
find {X = X} p (x ∷ xs) some =
    elim (cases_Bool (p x)) [
      | inl is ↦ (x, (0, slice_get-get_or (x ∷ xs) 0 x (omega arith)), is)
      | inr is_not ↦
          let n = uncounted p x xs is_not in
          let more : 0 < count_by p xs = omega (arith, n, some) in
          let rest = find p xs more in
          (rest.0, (suc rest.1.0, one_later x xs rest.1.0 rest.0 rest.1.1), rest.2)
    ]

pub some_end : (ends : List ThreadEnd) (t : ℕ) → ends_of ends t ≡ 1 → (e : ThreadEnd) × IsEndIn ends t e
some_end ends t one =
    let found = find (λ e. e.thread == t) ends (omega (arith, one)) in
    (found.0, (found.1, eqb-true found.0.thread t found.2))
