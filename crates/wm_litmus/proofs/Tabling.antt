-- The rows of the entries of a map that counts outcomes.
use Rattle.std.proofs.Common.{Less, ◌≡◌, ℕ, zero, suc, ◌+◌, ◌<◌, List, [], ◌∷◌, length, get_or, map, true, cond, Some, refl, sym, ap, ◌∙◌, arith}
use Rattle.std.specs.BTreeMap.{BTreeMap, get_by_text, is_at}
use Rattle.std.specs.Cmp.Lexicographic.{slice_cmp}
use Rattle.std.specs.Prelude.{String, string_bytes}
use Rattle.std.specs.List.{AllByRecursion, Contains, slice_get}
use Rattle.std.specs.List.Sorted.{IsStrictlySortedBy}
use Rattle.std.specs.Map.{keys_of}
use Rattle.std.specs.Ordering.{nat_cmp}
use Rattle.std.specs.String.{string_cmp, string_cmp_total}
use Rattle.std.specs.declared.alloc.Global.{Global}
use Rattle.std.proofs.lemmas.List.Elements.{All-map}
use Rattle.std.proofs.lemmas.Map.Entries.{btree_map_get_place, place_from_lookup}
use Rattle.std.proofs.lemmas.Option.{none-some, same_Some, slice_get-get_or}
use Rattle.std.proofs.lemmas.List.Sums.{sum_by-cons}
use Rattle.std.proofs.lemmas.Map.Text.{is_eq-slice_cmp}
use Rattle.std.proofs.lemmas.Slice.Eq.{bytes_eq-Decides}
use Rattle.std.specs.Str.{bytes_eq}
use Rattle.wm_litmus.specs.Counts.{Counts, entry_of, row_of}
use Rattle.wm_litmus.proofs.Counting.{entry_some}
use Rattle.wm_litmus.specs.Table.{IsTable, Row, outcomes_of, times}

came_times : (came : List (List ℕ)) (outcome : List ℕ) (i : ℕ) → i < length came → get_or came i outcome ≡ outcome → 0 < times outcome came
came_times [] outcome i inside at = absurd (omega arith)
came_times (x ∷ xs) outcome zero inside at =
    let is : bytes_eq outcome x ≡ true = (bytes_eq-Decides outcome x).1 (sym at) in
    let sum : times outcome (x ∷ xs) ≡ 1 + times outcome xs =
    sum_by-cons (λ other. cond (bytes_eq outcome other) 1 0) x xs ∙ ap (λ b. cond b 1 0 + times outcome xs) is in
    omega (arith, sum)
came_times (x ∷ xs) outcome (suc i) inside at =
    let sum : times outcome (x ∷ xs) ≡ cond (bytes_eq outcome x) 1 0 + times outcome xs = sum_by-cons (λ other. cond (bytes_eq outcome other) 1 0) x xs in
    let more : 0 < times outcome xs = came_times xs outcome i (omega arith) at in
    omega (arith, sum, more)

entry_full : (n : ℕ) → 0 < n → entry_of n ≡ Some n
entry_full zero some = absurd (omega arith)
entry_full (suc n) some = refl

row_at : (es : List (String Global × ℕ)) (i : ℕ) (e : String Global × ℕ) (other : List ℕ) → slice_get es i ≡ Some e
    → (i < length (outcomes_of (map row_of es))) × (get_or (outcomes_of (map row_of es)) i other ≡ string_bytes e.0)
row_at [] i e other at = absurd (none-some e at)
row_at (x ∷ es) zero e other at = (omega arith, ap (λ (p : String Global × ℕ). string_bytes p.0) (same_Some x e at))
row_at (x ∷ es) (suc i) e other at = let found = row_at es i e other at in (omega (arith, found.0), found.1)

came_in : (came : List (List ℕ)) (counts : BTreeMap (String Global) ℕ) → Counts came counts → (outcome : List ℕ) → 0 < times outcome came
    → Contains (outcomes_of (map row_of counts.entries)) outcome
came_in came counts h outcome some =
    let n = times outcome came in
    let found : get_by_text counts outcome ≡ Some n = h.entries_are outcome ∙ entry_full n some in
    let place = place_from_lookup (is_at (λ key. slice_cmp nat_cmp outcome (string_bytes key))) counts.entries n found in
    let same : outcome ≡ string_bytes place.1 = (bytes_eq-Decides outcome (string_bytes place.1)).0 (sym (is_eq-slice_cmp outcome (string_bytes place.1)) ∙ place.3) in
    let row = row_at counts.entries place.0 (place.1, n) outcome place.2 in
    (place.0, row.0, row.1 ∙ sym same)

below_all : (k : String Global) (es : List (String Global × ℕ)) → AllByRecursion (λ y. string_cmp k y ≡ Less) (keys_of es)
    → AllByRecursion (λ y. slice_cmp nat_cmp (string_bytes k) y ≡ Less) (outcomes_of (map row_of es))
below_all k [] h = tt
below_all k (e ∷ es) h = (h.0, below_all k es h.1)

rows_sorted : (es : List (String Global × ℕ)) → IsStrictlySortedBy string_cmp (keys_of es) → IsStrictlySortedBy (slice_cmp nat_cmp) (outcomes_of (map row_of es))
unfolding IsStrictlySortedBy
rows_sorted [] h = tt
rows_sorted (e ∷ es) h = (below_all e.0 es h.0, rows_sorted es h.1)

entry_counted : (came : List (List ℕ)) (counts : BTreeMap (String Global) ℕ) → Counts came counts → (i : ℕ) (e : String Global × ℕ) → slice_get counts.entries i ≡ Some e
    → (0 < e.1) × (e.1 ≡ times (string_bytes e.0) came)
entry_counted came counts h i e at =
    let found = btree_map_get_place string_cmp_total counts i e.0 e.1 h.ordered at in
    entry_some (times (string_bytes e.0) came) e.1 (sym (h.entries_are (string_bytes e.0)) ∙ found)

get_or_default : (xs : List (List ℕ)) (i : ℕ) (d : List ℕ) → i < length xs → get_or xs i (get_or xs i d) ≡ get_or xs i d
get_or_default [] i d inside = absurd (omega arith)
get_or_default (x ∷ xs) zero d inside = refl
get_or_default (x ∷ xs) (suc i) d inside = get_or_default xs i d (omega arith)

pub rows_are_table : (came : List (List ℕ)) (counts : BTreeMap (String Global) ℕ) → Counts came counts → IsTable came (map row_of counts.entries)
rows_are_table came counts h = record {
  sorted = rows_sorted counts.entries h.ordered;
  counted = All-map (λ (row : Row). (0 < row.count) × (row.count ≡ times row.outcome came)) row_of counts.entries
      (λ i d inside. entry_counted came counts h i (get_or counts.entries i d) (slice_get-get_or counts.entries i d inside));
  whole = λ i d inside. came_in came counts h (get_or came i d) (came_times came (get_or came i d) i inside (get_or_default came i d inside));
}
