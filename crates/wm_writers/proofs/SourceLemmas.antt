-- The bytes of a read that meet a need, while they are gathered.
use Rattle.std.proofs.Common.{◌≡◌, ℕ, ◌+◌, ◌<◌, ◌≤◌, ◌++◌, zero, suc, List, [], ◌∷◌, Some, length, slice_get, refl, ap, subst, arith, ◌⊎◌, inl, inr, ⊎_elim}
use Rattle.std.specs.Prelude.{All}
use Rattle.std.proofs.lemmas.Bool.{cases_lt}
use Rattle.std.proofs.lemmas.Option.{same_Some, slice_get_within}
use Rattle.wm_event.specs.LoggedRun.{LoggedRun, execution}
use Rattle.wm_event.specs.Witness.{writers_in}
use Rattle.wm_writers.specs.Answer.{HasByte, IsByteOf, IsSource}
use Rattle.wm_writers.specs.Forced.{Meets}
use Rattle.wm_writers.specs.declared.need.Need.{Need}
use Rattle.wm_writers.specs.declared.source.ByteFit.{ByteFit}
use Rattle.wm_writers.proofs.AllLemmas.{all-none}
use Rattle.wm_writers.proofs.ListLemmas.{all-more, at-first, at-last}

-- each byte below n that meets the need, once, the lowest first
pub record AreBelow (run : LoggedRun) (need : Need) (n : ℕ) (bytes : List ByteFit) : Type 0 where
  pub each : All (IsByteOf run need) bytes
  pub all : (k : ℕ) → k < n → Meets (execution run) need k → HasByte bytes k
  pub rising : (i j : ℕ) (a b : ByteFit) → i < j → slice_get bytes i ≡ Some a → slice_get bytes j ≡ Some b → a.byte < b.byte
  pub below : (i : ℕ) (a : ByteFit) → slice_get bytes i ≡ Some a → a.byte < n

-- what is in a list with one more item is in the list, or is the item after it
last_or : {X : Type 0} (xs : List X) (x y : X) (n : ℕ) → slice_get (xs ++ x ∷ []) n ≡ Some y → (slice_get xs n ≡ Some y) ⊎ ((n ≡ length xs) × (x ≡ y))
last_or [] x y zero at = inr (refl, same_Some x y at)
last_or [] x y (suc n) at = absurd (cc)
last_or (z ∷ zs) x y zero at = inl at
last_or (z ∷ zs) x y (suc n) at = ⊎_elim
    (λ (h : slice_get zs n ≡ Some y). inl h)
    (λ (h : (n ≡ length zs) × (x ≡ y)). inr (ap suc h.0, h.1))
    (last_or zs x y n at)

module _ (run : LoggedRun) (need : Need) where
  pub below-none : AreBelow run need 0 []
  below-none = record {
    each = all-none (IsByteOf run need);
    all = λ k l meets. absurd (omega arith);
    rising = λ i j a b l at_a at_b. absurd (cc);
    below = λ i a at. absurd (cc);
  }

  pub below-same : (n : ℕ) (bytes : List ByteFit) → AreBelow run need n bytes → (Meets (execution run) need n → ⊥) → AreBelow run need (n + 1) bytes
  below-same n bytes are not = record {
    each = are.each;
    all = λ k l meets.
        ⊎_elim
        (λ (h : k < n). are.all k h meets)
        (λ (h : n ≤ k). let same : k ≡ n = omega (arith, h, l) in absurd (not (subst (Meets (execution run) need) same meets)))
        (cases_lt k n);
    rising = are.rising;
    below = λ i a at. let l = are.below i a at in omega (arith, l);
  }

  pub below-more : (n : ℕ) (bytes : List ByteFit) (b : ByteFit) → AreBelow run need n bytes → IsByteOf run need b → b.byte ≡ n → AreBelow run need (n + 1) (bytes ++ b ∷ [])
  below-more n bytes b are is here = record {
    each = all-more (IsByteOf run need) bytes b are.each is;
    all = λ k l meets.
        ⊎_elim
        (λ (h : k < n). let at = are.all k h meets in (at.0, at.1, at-first bytes b at.1 at.0 at.2, at.3))
        (λ (h : n ≤ k). (length bytes, b, at-last bytes b, omega (arith, h, l, here)))
        (cases_lt k n);
    rising = λ i j u v l at_u at_v.
        ⊎_elim
        (λ (s : slice_get bytes j ≡ Some v).
        ⊎_elim
        (λ (r : slice_get bytes i ≡ Some u). are.rising i j u v l r s)
        (λ (r : (i ≡ length bytes) × (b ≡ u)). let inside = slice_get_within bytes j v s in let e = r.0 in absurd (omega (arith, l, inside, e)))
        (last_or bytes b u i at_u))
        (λ (s : (j ≡ length bytes) × (b ≡ v)).
        ⊎_elim
        (λ (r : slice_get bytes i ≡ Some u). let low = are.below i u r in let e = ap (λ (x : ByteFit). x.byte) s.1 in omega (arith, low, e, here))
        (λ (r : (i ≡ length bytes) × (b ≡ u)). let e = r.0 in let f = s.0 in absurd (omega (arith, l, e, f)))
        (last_or bytes b u i at_u))
        (last_or bytes b v j at_v);
    below = λ i a at.
        ⊎_elim
        (λ (r : slice_get bytes i ≡ Some a). let l = are.below i a r in omega (arith, l))
        (λ (r : (i ≡ length bytes) × (b ≡ a)). let e = ap (λ (x : ByteFit). x.byte) r.1 in omega (arith, e, here))
        (last_or bytes b a i at);
  }

  pub below-all : (n : ℕ) (bytes : List ByteFit) → length (writers_in run.witness need.reader) ≤ n → AreBelow run need n bytes → IsSource run (record { need = need; bytes = bytes })
  below-all n bytes long are = record {
    each = are.each;
    all = λ there k meets. are.all k (let inside = slice_get_within (writers_in run.witness need.reader) k need.writer meets.0 in omega (arith, inside, long)) meets;
    rising = are.rising;
  }
