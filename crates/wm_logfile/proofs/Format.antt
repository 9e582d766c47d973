-- A reader and a spelling that undo each other, and how these are put together.
use Rattle.std.proofs.Common.{◌≡◌, ℕ, suc, Bool, true, false, cond, List, [], ◌∷◌, map, Option, Some, None, refl, ap, subst, ◌∙◌}
use Rattle.std.specs.List.{All}
use Rattle.std.proofs.lemmas.List.Elements.{All-nil, All-cons, All-head, All-tail}
use Rattle.serde_json.specs.Data.{Data}
use Rattle.wm_logfile.specs.Reading.{◌>>=◌, list_at, traverse, items_at}
use Rattle.wm_logfile.specs.Document.{list}
use Rattle.wm_logfile.proofs.Lists.{list_takes, list_again}

pub bind_some : {A B : Type 0} (r : Option A) (f : A → Option B) (y : B) → (r >>= f) ≡ Some y → (x : A) × (r ≡ Some x) × (f x ≡ Some y)
bind_some (Some x) f y e = (x, refl, e)
bind_some None f y e = absurd cc

pub record IsFormat {D A : Type 0} (f : D → Option A) (spell : A → D) (Fits : A → Type 0) : Type 0 where
  pub takes : (d : D) (a : A) → f d ≡ Some a → (d ≡ spell a) × Fits a
  pub again : (a : A) → Fits a → f (spell a) ≡ Some a

-- the same for an item that is given its index
pub record IsFormatAt {D A : Type 0} (f : ℕ → D → Option A) (spell : A → D) (Fits : ℕ → A → Type 0) : Type 0 where
  pub takes : (n : ℕ) (d : D) (a : A) → f n d ≡ Some a → (d ≡ spell a) × Fits n a
  pub again : (n : ℕ) (a : A) → Fits n a → f n (spell a) ≡ Some a

pub at_any_index : {D A : Type 0} (f : D → Option A) (spell : A → D) (Fits : A → Type 0) → IsFormat f spell Fits → IsFormatAt (λ _ d. f d) spell (λ _ a. Fits a)
at_any_index f spell Fits h = record { takes = λ n d a e. h.takes d a e; again = λ n a fits. h.again a fits }

-- each item fits at its index
abbrev pub AllFrom : {A : Type 0} → (ℕ → A → Type 0) → ℕ → List A → Type 0
AllFrom P n [] = Unit {0}
AllFrom P n (a ∷ rest) = P n a × AllFrom P (suc n) rest

pub traverse_takes : {A : Type 0} (f : ℕ → Data → Option A) (spell : A → Data) (Fits : ℕ → A → Type 0) (h : IsFormatAt f spell Fits) (n : ℕ) (ds : List Data) (xs : List A) → traverse f n ds ≡ Some xs → (ds ≡ map spell xs) × AllFrom Fits n xs
traverse_takes {A} f spell Fits h n [] xs e =
    let P : List A → Type 0 = λ ys. ([] ≡ map spell ys) × AllFrom Fits n ys in
    let same : [] ≡ xs = cc in
    subst P same (refl, tt)
traverse_takes {A} f spell Fits h n (d ∷ ds) xs e =
    let one = bind_some (f n d) (λ a. traverse f (suc n) ds >>= λ rest. Some (a ∷ rest)) xs e in
    let two = bind_some (traverse f (suc n) ds) (λ rest. Some (one.0 ∷ rest)) xs one.2 in
    let first = h.takes n d one.0 one.1 in
    let others = traverse_takes f spell Fits h (suc n) ds two.0 two.1 in
    let P : List A → Type 0 = λ ys. (d ∷ ds ≡ map spell ys) × AllFrom Fits n ys in
    let same : one.0 ∷ two.0 ≡ xs = cc in
    subst P same (ap (λ (x : Data). x ∷ ds) first.0 ∙ ap (λ (rest : List Data). spell one.0 ∷ rest) others.0, (first.1, others.1))

pub traverse_again : {A : Type 0} (f : ℕ → Data → Option A) (spell : A → Data) (Fits : ℕ → A → Type 0) (h : IsFormatAt f spell Fits) (n : ℕ) (xs : List A) → AllFrom Fits n xs → traverse f n (map spell xs) ≡ Some xs
traverse_again f spell Fits h n [] fits = refl
traverse_again f spell Fits h n (x ∷ xs) fits = rw (h.again n x fits.0, traverse_again f spell Fits h (suc n) xs fits.1) refl

-- a list of cells
pub listed : {A : Type 0} (g : List Data → Option A) (cells : A → List Data) (Fits : A → Type 0) → IsFormat g cells Fits → IsFormat (λ d. list_at d >>= g) (λ a. list (cells a)) Fits
listed g cells Fits h = record {
  takes = λ d a e.
      let one = bind_some (list_at d) g a e in
      let cells_are = h.takes one.0 a one.2 in
      (list_takes d one.0 one.1 ∙ ap list cells_are.0, cells_are.1);
  again = λ a fits. ap (λ (o : Option (List Data)). o >>= g) (list_again (cells a)) ∙ h.again a fits;
}

pub items : {A : Type 0} (f : ℕ → Data → Option A) (spell : A → Data) (Fits : ℕ → A → Type 0) → IsFormatAt f spell Fits → IsFormat (items_at f) (λ xs. list (map spell xs)) (AllFrom Fits 0)
items f spell Fits h = listed (traverse f 0) (map spell) (AllFrom Fits 0) (record {
  takes = λ ds xs e. traverse_takes f spell Fits h 0 ds xs e;
  again = λ xs fits. traverse_again f spell Fits h 0 xs fits;
})

-- a test that did not fail
pub when_some : {A : Type 0} (b : Bool) (r : Option A) (y : A) → cond b r None ≡ Some y → (b ≡ true) × (r ≡ Some y)
when_some true r y e = (refl, e)
when_some false r y e = absurd cc

pub AllFrom-all : {A : Type 0} (P : A → Type 0) (n : ℕ) (xs : List A) → AllFrom (λ _ x. P x) n xs → All P xs
AllFrom-all P n [] h = All-nil P
AllFrom-all P n (x ∷ xs) h = All-cons P x xs h.0 (AllFrom-all P (suc n) xs h.1)

pub all-AllFrom : {A : Type 0} (P : A → Type 0) (n : ℕ) (xs : List A) → All P xs → AllFrom (λ _ x. P x) n xs
all-AllFrom P n [] h = tt
all-AllFrom P n (x ∷ xs) h = (All-head P x xs h, all-AllFrom P (suc n) xs (All-tail P x xs h))

-- a format of lists whose items are given no index
pub all_items : {A : Type 0} (f : Data → Option A) (spell : A → Data) (Fits : A → Type 0) → IsFormat f spell Fits → IsFormat (items_at (λ _ d. f d)) (λ xs. list (map spell xs)) (All Fits)
all_items f spell Fits h =
    let each = items (λ _ d. f d) spell (λ _ a. Fits a) (at_any_index f spell Fits h) in
    record {
      takes = λ d xs e. (let one = each.takes d xs e in (one.0, AllFrom-all Fits 0 xs one.1));
      again = λ xs fits. each.again xs (all-AllFrom Fits 0 xs fits);
    }
