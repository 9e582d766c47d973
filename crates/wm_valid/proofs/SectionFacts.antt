-- Items of a list one by one.
use Rattle.std.proofs.Common.{◌≡◌, ℕ, ◌+◌, ◌<◌, ◌⊎◌, inl, inr, List, Option, Some, None, All, refl, sym, ap, subst, ◌∙◌, length, slice_get, get_or, arith}
use Rattle.std.specs.Prelude.{option_map}
use Rattle.std.proofs.lemmas.Option.{slice_get-get_or, slice_get_read, get_or_from_slice_get}
use Rattle.wm_ast.specs.declared.module.Module.{Module}
use Rattle.wm_ast.specs.declared.exports.Export.{Export}
use Rattle.wm_valid.specs.Valid.{Exports, GoodExport}
use Rattle.wm_valid.specs.Blame.{IsGoodAt, SomeOf}
use Rattle.wm_valid.proofs.StackLaws.{some_is}

-- one item more
pub good_more : {X : Type 0} (P : X → Type 0) (xs : List X) (n : ℕ) → ((k : ℕ) → k < n → IsGoodAt P xs k) → IsGoodAt P xs n → (k : ℕ) → k < n + 1 → IsGoodAt P xs k
good_more P xs n before now k h = elim (split k n h) [ inl lt ↦ before k lt | inr is ↦ subst (λ (i : ℕ). IsGoodAt P xs i) (sym is) now ]
  where
    split : (k n : ℕ) → k < n + 1 → (k < n) ⊎ (k ≡ n)
    split k n h = grind arith

pub all_good : {X : Type 0} (P : X → Type 0) (xs : List X) (n : ℕ) → length xs ≡ n → ((k : ℕ) → k < n → IsGoodAt P xs k) → All P xs
all_good P xs n long each k d h = each k (omega arith) (get_or xs k d) (slice_get-get_or xs k d h)

named_export : (o : Option (List ℕ × Export)) (x : Export) → option_map (λ e. e.1) o ≡ Some x → (e : List ℕ × Export) × (o ≡ Some e) × (e.1 ≡ x)
named_export (Some e) x h = (e, refl, some_is e.1 x h)
named_export None x h = absurd cc

pub export_good : (m : Module) (k : ℕ) (x : Export) → option_map (λ e. e.1) (slice_get m.exports k) ≡ Some x → Exports m x.kind x.index → IsGoodAt (GoodExport m) m.exports k
export_good m k x h good e there =
    let n = named_export (slice_get m.exports k) x h in
    let same : e.1 ≡ x = ap (λ (q : List ℕ × Export). q.1) (some_is e n.0 (sym there ∙ n.1)) ∙ n.2 in
    subst (λ (y : Export). Exports m y.kind y.index) (sym same) good

pub export_none : (m : Module) (k : ℕ) → option_map (λ e. e.1) (slice_get m.exports k) ≡ None → IsGoodAt (GoodExport m) m.exports k
export_none m k h e there = absurd (clash (slice_get m.exports k) e there h)
  where
    clash : (o : Option (List ℕ × Export)) (e : List ℕ × Export) → o ≡ Some e → option_map (λ e. e.1) o ≡ None → ⊥
    clash (Some y) e is h = cc
    clash None e is h = cc

pub export_bad : (m : Module) (k : ℕ) (x : Export) → option_map (λ e. e.1) (slice_get m.exports k) ≡ Some x → (Exports m x.kind x.index → ⊥) → SomeOf m.exports (λ e. GoodExport m e → ⊥)
export_bad m k x h bad =
    let n = named_export (slice_get m.exports k) x h in
    (k, n.0, n.1, λ good. bad (subst (λ (y : Export). Exports m y.kind y.index) n.2 good))

-- what holds of the items so far holds with one more
pub prefix_more : {X : Type 0} (P : X → Type 0) (xs : List X) (n : ℕ) (x : X) → n < length xs → x ≡ get_or xs n x → ((k : ℕ) (d : X) → k < n → P (get_or xs k d)) → P x → (k : ℕ) (d : X) → k < n + 1 → P (get_or xs k d)
prefix_more {X} P xs n x within is before now k d h = elim (split k n h) [
  | inl lt ↦ before k d lt
  | inr same ↦
      let there : slice_get xs n ≡ Some x = slice_get_read xs (length xs) n x refl within is in
      let at-k : get_or xs k d ≡ x = ap (λ (i : ℕ). get_or xs i d) same ∙ get_or_from_slice_get xs n x d there in
      subst (λ (y : X). P y) (sym at-k) now
]
  where
    split : (k n : ℕ) → k < n + 1 → (k < n) ⊎ (k ≡ n)
    split k n h = grind arith

-- an item of a list of which all are so
pub item_good : {X : Type 0} (P : X → Type 0) (xs items : List X) (i : ℕ) (x : X) → items ≡ xs → i < length items → x ≡ get_or items i x → All P xs → P x
item_good {X} P xs items i x same within is all =
    let inside : i < length xs = rw (sym same) within in
    subst (λ (y : X). P y) (sym (is ∙ ap (λ (l : List X). get_or l i x) same)) (all i x inside)

pub item_there : {X : Type 0} (xs items : List X) (i : ℕ) (x : X) → items ≡ xs → i < length items → x ≡ get_or items i x → slice_get xs i ≡ Some x
item_there {X} xs items i x same within is = ap (λ (l : List X). slice_get l i) (sym same) ∙ slice_get_read items (length items) i x refl within is
