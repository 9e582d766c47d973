-- Arguments taken one after the other.
use Rattle.std.proofs.Common.{◌≡◌, ℕ, zero, suc, ◌+◌, ◌<◌, ◌^◌, List, [], ◌∷◌, ◌++◌, length, take, get_or, Bool, true, false, ◌||◌, refl, sym, ap, ◌∙◌, arith}
use Rattle.std.specs.Prelude.{nat_le}
use Rattle.std.proofs.lemmas.Bool.Decides.{nat_tests}
use Rattle.wm_num.specs.Number.{bits_of}
use Rattle.wm_ast.specs.declared.types.ValType.{ValType}
use Rattle.wm_ast.specs.Types.{width_of}
use Rattle.wm_machine.specs.declared.value.TypedValue.{TypedValue}
use Rattle.wm_machine.specs.Values.{typed}
use Rattle.wm_machine.specs.Start.{any_past, arguments}

or_right : (b c : Bool) → c ≡ true → (b || c) ≡ true
or_right true c h = refl
or_right false c h = h

neither : (b c : Bool) → (b || c) ≡ false → (b ≡ false) × (c ≡ false)
neither true c h = cc
neither false c h = (refl, h)

or_false : (b c : Bool) → b ≡ false → c ≡ false → (b || c) ≡ false
or_false true c h k = cc
or_false false c h k = k

below_of : (m n : ℕ) → nat_le m n ≡ false → n < m
below_of m n h = grind (arith, nat_tests)

pub past_here : (params : List ValType) (args : List ℕ) (k : ℕ) (d : ValType) → k < length params → length args ≡ length params → nat_le (2 ^ bits_of (width_of (get_or params k d))) (get_or args k 0) ≡ true → any_past params args ≡ true
past_here [] args k d lt le h = absurd (omega arith)
past_here (t ∷ ps) [] k d lt le h = absurd (omega arith)
past_here (t ∷ ps) (a ∷ xs) zero d lt le h = rw h refl
past_here (t ∷ ps) (a ∷ xs) (suc k) d lt le h = or_right _ (any_past ps xs) (past_here ps xs k d (omega arith) (omega arith) h)

none_past_suc : (params : List ValType) (args : List ℕ) (k : ℕ) (d : ValType) → k < length params → length args ≡ length params → any_past (take k params) (take k args) ≡ false → nat_le (2 ^ bits_of (width_of (get_or params k d))) (get_or args k 0) ≡ false → any_past (take (suc k) params) (take (suc k) args) ≡ false
none_past_suc [] args k d lt le n h = absurd (omega arith)
none_past_suc (t ∷ ps) [] k d lt le n h = absurd (omega arith)
none_past_suc (t ∷ ps) (a ∷ xs) zero d lt le n h = or_false _ false h refl
none_past_suc (t ∷ ps) (a ∷ xs) (suc k) d lt le n h =
    let b = neither _ (any_past (take k ps) (take k xs)) n in
    or_false _ (any_past (take (suc k) ps) (take (suc k) xs)) b.0 (none_past_suc ps xs k d (omega arith) (omega arith) b.1 h)

pub none_past_more : (params : List ValType) (args : List ℕ) (k : ℕ) (d : ValType) → k < length params → length args ≡ length params → any_past (take k params) (take k args) ≡ false → nat_le (2 ^ bits_of (width_of (get_or params k d))) (get_or args k 0) ≡ false → any_past (take (k + 1) params) (take (k + 1) args) ≡ false
none_past_more params args k d lt le n h =
    let e : suc k ≡ k + 1 = omega arith in
    ap (λ (j : ℕ). any_past (take j params) (take j args)) (sym e) ∙ none_past_suc params args k d lt le n h

pub fits_here : (params : List ValType) (args : List ℕ) (k : ℕ) (d : ValType) → k < length params → length args ≡ length params → any_past params args ≡ false → get_or args k 0 < 2 ^ bits_of (width_of (get_or params k d))
fits_here [] args k d lt le h = absurd (omega arith)
fits_here (t ∷ ps) [] k d lt le h = absurd (omega arith)
fits_here (t ∷ ps) (a ∷ xs) zero d lt le h = below_of _ a (neither _ (any_past ps xs) h).0
fits_here (t ∷ ps) (a ∷ xs) (suc k) d lt le h = fits_here ps xs k d (omega arith) (omega arith) (neither _ (any_past ps xs) h).1

arguments_suc : (params : List ValType) (args : List ℕ) (k : ℕ) (d : ValType) → k < length params → length args ≡ length params → arguments (take (suc k) params) (take (suc k) args) ≡ arguments (take k params) (take k args) ++ typed (width_of (get_or params k d)) (get_or args k 0) ∷ []
arguments_suc [] args k d lt le = absurd (omega arith)
arguments_suc (t ∷ ps) [] k d lt le = absurd (omega arith)
arguments_suc (t ∷ ps) (a ∷ xs) zero d lt le = refl
arguments_suc (t ∷ ps) (a ∷ xs) (suc k) d lt le = ap (λ (vs : List TypedValue). typed (width_of t) a ∷ vs) (arguments_suc ps xs k d (omega arith) (omega arith))

pub arguments_more : (params : List ValType) (args : List ℕ) (k : ℕ) (d : ValType) → k < length params → length args ≡ length params → arguments (take (k + 1) params) (take (k + 1) args) ≡ arguments (take k params) (take k args) ++ typed (width_of (get_or params k d)) (get_or args k 0) ∷ []
arguments_more params args k d lt le =
    let e : suc k ≡ k + 1 = omega arith in
    ap (λ (j : ℕ). arguments (take j params) (take j args)) (sym e) ∙ arguments_suc params args k d lt le
