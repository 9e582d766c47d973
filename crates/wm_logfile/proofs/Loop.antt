-- Reading the items of a list one after the other, as a loop does.
use Rattle.std.proofs.Common.{◌≡◌, ℕ, suc, ◌+◌, ◌<◌, ◌≤◌, List, [], ◌∷◌, ◌++◌, length, get_or, drop, map, Option, Some, None, refl, sym, ap, ◌∙◌, append_assoc, add-one, drop-cons}
use Rattle.std.proofs.lemmas.List.{append-nil}
use Rattle.std.specs.Option.{option_or}
use Rattle.std.proofs.Math.ListN.{drop_of_length-le}
use Rattle.serde_json.specs.Data.{Data}
use Rattle.serde_json.specs.View.{view}
use Rattle.serde_json.specs.declared.value.Value.{Value}
use Rattle.wm_logfile.specs.declared.fault.ReadFault.{ReadFault}
use Rattle.wm_logfile.specs.declared.fault.ReadFault.TheVariants.{Shape, Range, Memory}
use Rattle.wm_logfile.specs.Faults.{IsFirst, Refuses}
use Rattle.wm_logfile.specs.Forms.{items_fault}
use Rattle.wm_logfile.specs.Paths.{child}
use Rattle.wm_logfile.specs.Reading.{◌>>=◌, traverse}

-- what was read before, and what is still read
abbrev pub with_front : {A : Type 0} → List A → Option (List A) → Option (List A)
with_front front read = read >>= λ rest. Some (front ++ rest)

regroup : {A : Type 0} (front : List A) (a : A) (read : Option (List A)) → with_front front (read >>= λ rest. Some (a ∷ rest)) ≡ with_front (front ++ a ∷ []) read
regroup front a None = refl
regroup front a (Some rest) = ap (λ (xs : List _). Some xs) (simp append_assoc)

pub goes_on : {A : Type 0} (f : ℕ → Data → Option A) (front : List A) (i : ℕ) (vs : List Value) (v : Value) (a : A) (total : Option (List A)) → i < length vs → v ≡ get_or vs i v → f i (view v) ≡ Some a
    → with_front front (traverse f i (map view (drop i vs))) ≡ total → with_front (front ++ a ∷ []) (traverse f (i + 1) (map view (drop (i + 1) vs))) ≡ total
goes_on f front i vs v a total lt is h so_far =
    let cells : drop i vs ≡ v ∷ drop (suc i) vs = drop-cons vs i v lt ∙ rw (← is) refl in
    let one : with_front front (traverse f i (map view (drop i vs))) ≡ with_front (front ++ a ∷ []) (traverse f (suc i) (map view (drop (suc i) vs))) = rw (cells, h) (regroup front a (traverse f (suc i) (map view (drop (suc i) vs)))) in
    rw add-one (sym one ∙ so_far)

ends_none : {A : Type 0} (f : ℕ → Data → Option A) (front : List A) (i : ℕ) (vs : List Value) (v : Value) (total : Option (List A)) → i < length vs → v ≡ get_or vs i v → f i (view v) ≡ None
    → with_front front (traverse f i (map view (drop i vs))) ≡ total → total ≡ None
ends_none f front i vs v total lt is h so_far =
    let cells : drop i vs ≡ v ∷ drop (suc i) vs = drop-cons vs i v lt ∙ rw (← is) refl in
    let one : with_front front (traverse f i (map view (drop i vs))) ≡ None = rw (cells, h) refl in
    sym so_far ∙ one

pub ends : {A : Type 0} (e : ReadFault) (f : ℕ → Data → Option A) (front : List A) (i : ℕ) (vs : List Value) (v : Value) (total : Option (List A)) → i < length vs → v ≡ get_or vs i v → Refuses e (f i (view v))
    → with_front front (traverse f i (map view (drop i vs))) ≡ total → Refuses e total
ends Memory f front i vs v total lt is h so_far = tt
ends (Shape p) f front i vs v total lt is h so_far = ends_none f front i vs v total lt is h so_far
ends (Range p) f front i vs v total lt is h so_far = ends_none f front i vs v total lt is h so_far

pub is_done : {A : Type 0} (f : ℕ → Data → Option A) (front : List A) (i : ℕ) (vs : List Value) (total : Option (List A)) → length vs ≤ i → with_front front (traverse f i (map view (drop i vs))) ≡ total → total ≡ Some front
is_done {A} f front i vs total le so_far =
    let nothing : drop i vs ≡ [] = drop_of_length-le vs le in
    let one : with_front front (traverse f i (map view (drop i vs))) ≡ Some front = rw nothing (ap (λ (xs : List A). Some xs) (append-nil front)) in
    sym so_far ∙ one

-- ---- the first fault

module _ (f : ℕ → List ℕ → Data → Option ReadFault) (path : List ℕ) (i : ℕ) (vs : List Value) where
  one_more : (v : Value) → i < length vs → v ≡ get_or vs i v → items_fault f path i (map view (drop i vs)) ≡ option_or (f i (child path i) (view v)) (items_fault f path (suc i) (map view (drop (suc i) vs)))
  one_more v lt is =
      let cells : drop i vs ≡ v ∷ drop (suc i) vs = drop-cons vs i v lt ∙ rw (← is) refl in
      rw cells refl

  pub fault_goes_on : (v : Value) (at : List ℕ) (total : Option ReadFault) → i < length vs → v ≡ get_or vs i v → at ≡ child path i → f i at (view v) ≡ None
      → items_fault f path i (map view (drop i vs)) ≡ total → items_fault f path (i + 1) (map view (drop (i + 1) vs)) ≡ total
  fault_goes_on v at total lt is place none so_far =
      let h : f i (child path i) (view v) ≡ None = rw (← place) none in
      let one : items_fault f path i (map view (drop i vs)) ≡ items_fault f path (suc i) (map view (drop (suc i) vs)) = one_more v lt is ∙ rw h refl in
      rw add-one (sym one ∙ so_far)

  first_of_item : (v : Value) (at : List ℕ) (total : Option ReadFault) (e : ReadFault) → i < length vs → v ≡ get_or vs i v → at ≡ child path i → f i at (view v) ≡ Some e
      → items_fault f path i (map view (drop i vs)) ≡ total → total ≡ Some e
  first_of_item v at total e lt is place first so_far =
      let h : f i (child path i) (view v) ≡ Some e = rw (← place) first in
      sym so_far ∙ one_more v lt is ∙ rw h refl

  pub fault_ends : (e : ReadFault) (v : Value) (at : List ℕ) (total : Option ReadFault) → i < length vs → v ≡ get_or vs i v → at ≡ child path i → IsFirst e (f i at (view v))
      → items_fault f path i (map view (drop i vs)) ≡ total → IsFirst e total
  fault_ends (Shape p) v at total lt is place first so_far = first_of_item v at total (Shape p) lt is place first so_far
  fault_ends (Range p) v at total lt is place first so_far = first_of_item v at total (Range p) lt is place first so_far
  fault_ends Memory v at total lt is place first so_far = tt

  pub no_fault : (total : Option ReadFault) → length vs ≤ i → items_fault f path i (map view (drop i vs)) ≡ total → total ≡ None
  no_fault total le so_far =
      let nothing : drop i vs ≡ [] = drop_of_length-le vs le in
      sym so_far ∙ rw nothing refl
