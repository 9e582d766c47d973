-- The ends of two logs.
use Rattle.std.proofs.Common.{◌≡◌, ℕ, zero, suc, ◌<◌, ◌≤◌, List, [], ◌∷◌, length, map, Some, refl, sym, ap, ◌∙◌, arith}
use Rattle.std.specs.Prelude.{slice_get}
use Rattle.std.proofs.lemmas.Option.{none-some, same_Some}
use Rattle.wm_event.specs.declared.log.ThreadLog.{ThreadLog}
use Rattle.wm_explore.specs.Executions.{ends_of}

pub same_length : (xs ys : List ThreadLog) → ends_of xs ≡ ends_of ys → length xs ≡ length ys
same_length [] [] same = refl
same_length [] (y ∷ ys) same = absurd (cc same)
same_length (x ∷ xs) [] same = absurd (cc same)
same_length (x ∷ xs) (y ∷ ys) same = ap suc (same_length xs ys (cc same))

map_at : {X Y : Type 0} (f : X → Y) (xs : List X) (i : ℕ) (x : X) → slice_get xs i ≡ Some x → slice_get (map f xs) i ≡ Some (f x)
map_at f [] i x is = absurd (none-some x is)
map_at f (y ∷ xs) zero x is = ap Some (ap f (same_Some y x is))
map_at f (y ∷ xs) (suc i) x is = map_at f xs i x is

pub end_at : (xs ys : List ThreadLog) (i : ℕ) (t u : ThreadLog) → ends_of xs ≡ ends_of ys → slice_get xs i ≡ Some t → slice_get ys i ≡ Some u → t.end ≡ u.end
end_at xs ys i t u same at_x at_y =
    same_Some t.end u.end (sym (map_at (λ (t : ThreadLog). t.end) xs i t at_x) ∙ ap (λ es. slice_get es i) same ∙ map_at (λ (t : ThreadLog). t.end) ys i u at_y)

pub same_ends : (xs ys : List ThreadLog) (n : ℕ) → length xs ≡ length ys → length xs ≤ n
    → ((i : ℕ) (t u : ThreadLog) → i < n → slice_get xs i ≡ Some t → slice_get ys i ≡ Some u → t.end ≡ u.end) → ends_of xs ≡ ends_of ys
same_ends [] [] n count all each = refl
same_ends [] (y ∷ ys) n count all each = absurd (omega (arith, count))
same_ends (x ∷ xs) [] n count all each = absurd (omega (arith, count))
same_ends (x ∷ xs) (y ∷ ys) zero count all each = absurd (omega (arith, all))
same_ends (x ∷ xs) (y ∷ ys) (suc n) count all each =
    ap (λ e. e ∷ ends_of xs) (each 0 x y (omega arith) refl refl)
    ∙ ap (λ es. y.end ∷ es) (same_ends xs ys n (omega (arith, count)) (omega (arith, all)) (λ i t u lt. each (suc i) t u (omega (arith, lt))))
