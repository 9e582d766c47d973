-- Outcomes are counted, one after the other.
use Rattle.std.proofs.Common.{◌≡◌, ℕ, zero, suc, ◌+◌, ◌<◌, ◌≤◌, List, [], ◌∷◌, ◌++◌, length, true, false, cond, Some, refl, sym, ap, ◌∙◌, subst, inl, inr, true≢false, arith}
use Rattle.std.specs.BTreeMap.{BTreeMap, IsOrdered, UpdatesBy, get_by_text}
use Rattle.std.specs.Cmp.Lexicographic.{slice_cmp}
use Rattle.std.specs.Ordering.{nat_cmp}
use Rattle.std.specs.Prelude.{String, string_bytes}
use Rattle.std.specs.String.{string_cmp}
use Rattle.std.specs.declared.alloc.Global.{Global}
use Rattle.std.specs.Str.{bytes_eq}
use Rattle.std.proofs.lemmas.Bool.{cases_Bool, cond-false, cond-true, false_from_ne_true}
use Rattle.std.proofs.lemmas.List.Sums.{count_by-le-length, sum_by_push}
use Rattle.std.proofs.lemmas.Map.Text.{btree_map_updates_text}
use Rattle.std.proofs.lemmas.Option.{none-some, same_Some}
use Rattle.std.proofs.lemmas.Slice.Eq.{bytes_eq-Decides}
use Rattle.wm_litmus.specs.Counts.{Counts, entry_of, next_count}
use Rattle.wm_litmus.specs.Table.{times}

times_more : (q k : List ℕ) (came : List (List ℕ)) → times q (came ++ k ∷ []) ≡ times q came + cond (bytes_eq q k) 1 0
times_more q k came = sum_by_push (λ other. cond (bytes_eq q other) 1 0) came k

entry_next : (n : ℕ) → Some (next_count (entry_of n)) ≡ entry_of (n + 1)
entry_next zero = refl
entry_next (suc n) = let e : suc n + 1 ≡ suc (suc n) = omega arith in ap Some e ∙ sym (ap entry_of e)

same_other : (q k : List ℕ) → bytes_eq k q ≡ false → bytes_eq q k ≡ false
same_other q k apart = false_from_ne_true (bytes_eq q k) (λ is. true≢false (sym ((bytes_eq-Decides k q).1 (sym ((bytes_eq-Decides q k).0 is))) ∙ apart))

pub counts_more : (came : List (List ℕ)) (k : List ℕ) (old new : BTreeMap (String Global) ℕ) (count : ℕ) → Counts came old → IsOrdered string_cmp new
    → UpdatesBy string_cmp (λ key. slice_cmp nat_cmp k (string_bytes key)) old new (Some count) → count ≡ next_count (get_by_text old k) → Counts (came ++ k ∷ []) new
counts_more came k old new count h in_order updates is = record {
  ordered = in_order;
  entries_are = λ q.
      let now = btree_map_updates_text k old new (Some count) updates q in
      let grown = times_more q k came in
      elim (cases_Bool (bytes_eq k q)) [
        | inl same ↦
            let equal : k ≡ q = (bytes_eq-Decides k q).0 same in
            let back : bytes_eq q k ≡ true = (bytes_eq-Decides q k).1 (sym equal) in
            let more : times q (came ++ k ∷ []) ≡ times q came + 1 = grown ∙ ap (λ b. times q came + cond b 1 0) back in
            let before : get_by_text old k ≡ entry_of (times q came) = ap (get_by_text old) equal ∙ h.entries_are q in
            now ∙ cond-true (bytes_eq k q) (Some count) (get_by_text old q) same ∙ ap Some is ∙ ap (λ e. Some (next_count e)) before
            ∙ entry_next (times q came) ∙ ap entry_of (sym more)
        | inr apart ↦
            let back : bytes_eq q k ≡ false = same_other q k apart in
            let same : times q (came ++ k ∷ []) ≡ times q came + 0 = grown ∙ ap (λ b. times q came + cond b 1 0) back in
            let kept : times q (came ++ k ∷ []) ≡ times q came = omega arith in
            now ∙ cond-false (bytes_eq k q) (Some count) (get_by_text old q) apart ∙ h.entries_are q ∙ ap entry_of (sym kept)
      ];
}

pub entry_some : (n v : ℕ) → entry_of n ≡ Some v → (0 < v) × (v ≡ n)
entry_some zero v h = absurd (none-some v h)
entry_some (suc n) v h = let same : suc n ≡ v = same_Some (suc n) v h in (omega arith, sym same)

-- a count is at most how many outcomes came
pub count_small : (came : List (List ℕ)) (k : List ℕ) (map : BTreeMap (String Global) ℕ) (count : ℕ) → Counts came map → get_by_text map k ≡ Some count → count ≤ length came
count_small came k map count h is =
    let most : times k came ≤ length came = count_by-le-length (λ other. bytes_eq k other) came in
    let equal : count ≡ times k came = (entry_some (times k came) count (sym (h.entries_are k) ∙ is)).1 in
    subst (λ (n : ℕ). n ≤ length came) (sym equal) most
