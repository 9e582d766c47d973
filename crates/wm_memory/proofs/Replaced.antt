-- A cell that is replaced, if it is there.
use Rattle.std.proofs.Common.{◌≡◌, ◌≢◌, ℕ, zero, suc, List, [], ◌∷◌, ◌/◌, ◌%◌, ◌<◌, ◌≤◌, inl, inr, length, refl, ap, sym, ◌∙◌, arith, if◌then◌else◌, Option, None, Some, option_map, slice_get, slice_set}
use Rattle.std.proofs.lemmas.Bool.{cases_eq, eq-eqb, ne_eqb}
use Rattle.std.proofs.lemmas.Option.{slice_get_within}
use Rattle.wm_memory.specs.declared.TheConstants.{CHUNK, REGION}
use Rattle.wm_memory.specs.declared.cells.Cell.{Cell}
use Rattle.wm_memory.specs.Table.{CellTable, Sets, SetsCell, own_cell}
use Rattle.wm_memory.proofs.Chunks.{cell_in, chunk_in, slice_get-set_same, slice_get-set_other}

pub get_past : {X : Type 0} (xs : List X) (i : ℕ) → length xs ≤ i → slice_get xs i ≡ None
get_past [] i h = refl
get_past (x ∷ xs) zero h = absurd (omega arith)
get_past (x ∷ xs) (suc i) h = get_past xs i (omega arith)

set_past : {X : Type 0} (xs : List X) (i : ℕ) (y : X) → length xs ≤ i → slice_set xs i y ≡ xs
set_past [] i y h = refl
set_past (x ∷ xs) zero y h = absurd (omega arith)
set_past {X = X} (x ∷ xs) (suc i) y h = ap (λ (l : List X). x ∷ l) (set_past xs i y (omega arith))

get_set_here : {X : Type 0} (xs : List X) (i : ℕ) (y : X) → slice_get (slice_set xs i y) i ≡ option_map (λ (x : X). y) (slice_get xs i)
get_set_here [] i y = refl
get_set_here (x ∷ xs) zero y = refl
get_set_here (x ∷ xs) (suc i) y = get_set_here xs i y

-- ---- of a region

same_chunk : (o : Option (List Cell)) (place : ℕ) (cell : Cell) → ((c : List Cell) → o ≡ Some c → length c ≤ place) → o ≡ option_map (λ (c : List Cell). slice_set c place cell) o
same_chunk None place cell h = refl
same_chunk (Some c) place cell h = ap (λ (d : List Cell). Some d) (sym (set_past c place cell (h c refl)))

pub sets_nothing : (r : List (List Cell)) (number place : ℕ) (cell : Cell) → ((c : List Cell) → slice_get r number ≡ Some c → length c ≤ place) → SetsCell number place cell r r
sets_nothing r number place cell h = record {
  size = refl;
  here = same_chunk (slice_get r number) place cell h;
  others = λ k ne. refl;
}

-- ---- of a table

abbrev replaced : CellTable → ℕ → List (List Cell) → CellTable
replaced t a r = record { initial = t.initial; regions = slice_set t.regions (a / REGION) r }

cell_here : (o : Option (List Cell)) (a : ℕ) (cell : Cell) → cell_in a (option_map (λ (c : List Cell). slice_set c (a % CHUNK) cell) o) ≡ option_map (λ (c : Cell). cell) (cell_in a o)
cell_here None a cell = refl
cell_here (Some c) a cell = get_set_here c (a % CHUNK) cell

cell_beside : (o : Option (List Cell)) (a b : ℕ) (cell : Cell) → b % CHUNK ≢ a % CHUNK → cell_in b (option_map (λ (c : List Cell). slice_set c (a % CHUNK) cell) o) ≡ cell_in b o
cell_beside None a b cell ne = refl
cell_beside (Some c) a b cell ne = slice_get-set_other c (a % CHUNK) (b % CHUNK) cell ne

-- in the region that is replaced
in_region : (a b : ℕ) (cell : Cell) (r new : List (List Cell)) → SetsCell (a % REGION / CHUNK) (a % CHUNK) cell r new → b / REGION ≡ a / REGION → b ≢ a → cell_in b (slice_get new (b % REGION / CHUNK)) ≡ cell_in b (slice_get r (b % REGION / CHUNK))
in_region a b cell r new s region ne = elim (cases_eq (b % REGION / CHUNK) (a % REGION / CHUNK)) [
  | inl same ↦ (
      let place : b % CHUNK ≢ a % CHUNK = λ e. ne (omega arith) in
      ap (λ (k : ℕ). cell_in b (slice_get new k)) same
      ∙ (ap (λ (o : Option (List Cell)). cell_in b o) s.here
      ∙ (cell_beside (slice_get r (a % REGION / CHUNK)) a b cell place
      ∙ sym (ap (λ (k : ℕ). cell_in b (slice_get r k)) same))))
  | inr other ↦ ap (λ (o : Option (List Cell)). cell_in b o) (s.others (b % REGION / CHUNK) other)
]

own_beside : (t : CellTable) (a b : ℕ) (cell : Cell) (r new : List (List Cell)) → slice_get t.regions (a / REGION) ≡ Some r → SetsCell (a % REGION / CHUNK) (a % CHUNK) cell r new → b ≢ a → own_cell (replaced t a new) b ≡ own_cell t b
own_beside t a b cell r new at s ne =
    let n = a / REGION in
    let lt : n < length t.regions = slice_get_within t.regions n r at in
    elim (cases_eq (b / REGION) n) [
      | inl same ↦ (
          let got : slice_get (slice_set t.regions n new) (b / REGION) ≡ Some new = ap (λ (m : ℕ). slice_get (slice_set t.regions n new) m) same ∙ slice_get-set_same t.regions n new lt in
          let was : slice_get t.regions (b / REGION) ≡ Some r = ap (λ (m : ℕ). slice_get t.regions m) same ∙ at in
          ap (λ (o : Option (List (List Cell))). cell_in b (chunk_in b o)) got
          ∙ (in_region a b cell r new s same ne
          ∙ sym (ap (λ (o : Option (List (List Cell))). cell_in b (chunk_in b o)) was)))
      | inr other ↦ ap (λ (o : Option (List (List Cell))). cell_in b (chunk_in b o)) (slice_get-set_other t.regions n (b / REGION) new other)
    ]

own_replaced : (t : CellTable) (a : ℕ) (cell : Cell) (r new : List (List Cell)) → slice_get t.regions (a / REGION) ≡ Some r → SetsCell (a % REGION / CHUNK) (a % CHUNK) cell r new → own_cell (replaced t a new) a ≡ option_map (λ (c : Cell). cell) (own_cell t a)
own_replaced t a cell r new at s =
    let n = a / REGION in
    let lt : n < length t.regions = slice_get_within t.regions n r at in
    ap (λ (o : Option (List (List Cell))). cell_in a (chunk_in a o)) (slice_get-set_same t.regions n new lt)
    ∙ (ap (λ (o : Option (List Cell)). cell_in a o) s.here
    ∙ (cell_here (slice_get r (a % REGION / CHUNK)) a cell
    ∙ sym (ap (λ (o : Option (List (List Cell))). option_map (λ (c : Cell). cell) (cell_in a (chunk_in a o))) at)))

pub sets_cell : (t : CellTable) (a : ℕ) (cell : Cell) (r new : List (List Cell)) → slice_get t.regions (a / REGION) ≡ Some r → SetsCell (a % REGION / CHUNK) (a % CHUNK) cell r new → Sets a cell t (replaced t a new)
sets_cell t a cell r new at s = record {
  initial = refl;
  each = λ b. elim (cases_eq b a) [
    | inl e ↦ rw (eq-eqb b a e) (
        ap (λ (x : ℕ). own_cell (replaced t a new) x) e ∙ (own_replaced t a cell r new at s ∙ ap (λ (x : ℕ). option_map (λ (c : Cell). cell) (own_cell t x)) (sym e)))
    | inr ne ↦ rw (ne_eqb b a ne) (own_beside t a b cell r new at s ne)
  ];
}

none_replaced : (o : Option Cell) (cell : Cell) → o ≡ None → o ≡ option_map (λ (c : Cell). cell) o
none_replaced None cell h = refl
none_replaced (Some c) cell h = absurd cc

pub sets_no_cell : (t : CellTable) (a : ℕ) (cell : Cell) → length t.regions ≤ a / REGION → Sets a cell t t
sets_no_cell t a cell past =
    let none : own_cell t a ≡ None = ap (λ (o : Option (List (List Cell))). cell_in a (chunk_in a o)) (get_past t.regions (a / REGION) past) in
    record {
      initial = refl;
      each = λ b. elim (cases_eq b a) [
        | inl e ↦ rw (eq-eqb b a e) (none_replaced (own_cell t b) cell (ap (λ (x : ℕ). own_cell t x) e ∙ none))
        | inr ne ↦ rw (ne_eqb b a ne) refl
      ];
    }
