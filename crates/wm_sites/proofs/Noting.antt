-- A number is noted at a position of a table.
use Rattle.std.proofs.Common.{◌≡◌, ℕ, zero, suc, ◌+◌, ◌<◌, ◌≤◌, List, [], ◌∷◌, ◌++◌, ◌∙◌, Vec, Global, length, set, Option, Some, None, refl, sym, ap, subst, slice_get, ⊎_elim, inl, inr, arith}
use Rattle.std.specs.Prelude.{◌⊎◌, option_and_then}
use Rattle.std.specs.Vec.{with_item}
use Rattle.std.proofs.lemmas.List.{length-set, set-get_or}
use Rattle.std.proofs.lemmas.Bool.{cases_lt}
use Rattle.std.proofs.lemmas.Option.{get_or_from_slice_get, none-some, option_and_then_some, same_Some, slice_get-get_or}
use Rattle.wm_ast.specs.declared.instr.Instr.{Instr}
use Rattle.wm_races.proofs.ListLemmas.{get-append, get-left, get-right, get-set, get_one, set-get}
use Rattle.wm_sites.specs.declared.opcode_numbers.BlockPosition.{BlockPosition}
use Rattle.wm_sites.specs.Numbering.{HasNoNumbers, HasPlace, IsNoted, NoneIsNoted, Notes, number_in}

abbrev Table : Type 0
Table = List (Vec (Option ℕ) Global)

-- an item is kept, or it is the one that was set
kept_or_set : {X : Type 0} (xs : List X) (i : ℕ) (y : X) (n : ℕ) (x : X) → slice_get xs n ≡ Some x → (slice_get (set xs i y) n ≡ Some x) ⊎ ((n ≡ i) × (slice_get (set xs i y) n ≡ Some y))
kept_or_set [] i y n x h = absurd (cc)
kept_or_set (z ∷ xs) zero y zero x h = inr (refl, refl)
kept_or_set (z ∷ xs) zero y (suc n) x h = inl h
kept_or_set (z ∷ xs) (suc i) y zero x h = inl h
kept_or_set {X} (z ∷ xs) (suc i) y (suc n) x h = ⊎_elim
    (λ (kept : slice_get (set xs i y) n ≡ Some x). inl kept)
    (λ (is : (n ≡ i) × (slice_get (set xs i y) n ≡ Some y)). inr (ap suc is.0, is.1))
    (kept_or_set xs i y n x h)

-- the cell of a number
record Cell (table : Table) (q : BlockPosition) (k : ℕ) : Type 0 where
  pub row : Vec (Option ℕ) Global
  pub is_row : slice_get table q.block ≡ Some row
  pub is_number : slice_get row.items q.at ≡ Some (Some k)

cell_of : (table : Table) (q : BlockPosition) (k : ℕ) → number_in table q ≡ Some k → Cell table q k
cell_of table q k is =
    option_and_then_some (λ (row : Vec (Option ℕ) Global). option_and_then (λ (n : Option ℕ). n) (slice_get row.items q.at)) (slice_get table q.block) k is λ row is_row in_row.
    option_and_then_some (λ (n : Option ℕ). n) (slice_get row.items q.at) k in_row λ cell is_cell here.
    record { row = row; is_row = is_row; is_number = is_cell ∙ ap Some here }

noted_at : (table : Table) (q : BlockPosition) (row : Vec (Option ℕ) Global) (k : ℕ) → slice_get table q.block ≡ Some row → slice_get row.items q.at ≡ Some (Some k) → number_in table q ≡ Some k
noted_at table q row k is at =
    ap (option_and_then (λ (places : Vec (Option ℕ) Global). option_and_then (λ (n : Option ℕ). n) (slice_get places.items q.at))) is ∙ ap (option_and_then (λ (n : Option ℕ). n)) at

position_is : (q : BlockPosition) (p : BlockPosition) → q.block ≡ p.block → q.at ≡ p.at → q ≡ p
position_is q p block at = ap (λ (b : ℕ). record { block = b; at = q.at }) block ∙ ap (λ (a : ℕ). record { block = p.block; at = a }) at

module _ (table : Table) (p : BlockPosition) (number : ℕ) (row : Vec (Option ℕ) Global) (is : slice_get table p.block ≡ Some row) where
  more : Vec (Option ℕ) Global
  more = with_item row p.at (Some number)

  abbrev new : Table
  new = set table p.block (with_item row p.at (Some number))

  row_is : (b : ℕ) (other : Vec (Option ℕ) Global) → b ≡ p.block → slice_get table b ≡ Some other → other ≡ row
  row_is b other same at = same_Some other row (sym at ∙ ap (slice_get table) same ∙ is)

  from : (q : BlockPosition) (k : ℕ) → number_in new q ≡ Some k → (number_in table q ≡ Some k) ⊎ ((q ≡ p) × (k ≡ number))
  from q k at =
      let cell = cell_of new q k at in ⊎_elim
      (λ (here : (q.block ≡ p.block) × (cell.row ≡ with_item row p.at (Some number))).
      let in_row : slice_get (set row.items p.at (Some number)) q.at ≡ Some (Some k) = subst (λ (r : Vec (Option ℕ) Global). slice_get r.items q.at ≡ Some (Some k)) here.1 cell.is_number in
      ⊎_elim
      (λ (it : (q.at ≡ p.at) × (Some k ≡ Some number)). inr (position_is q p here.0 it.0, same_Some k number it.1))
      (λ (old : (q.at ≡ p.at → ⊥) × (slice_get row.items q.at ≡ Some (Some k))). inl (noted_at table q row k (ap (slice_get table) here.0 ∙ is) old.1))
      (get-set row.items p.at (Some number) q.at (Some k) in_row))
      (λ (old : (q.block ≡ p.block → ⊥) × (slice_get table q.block ≡ Some cell.row)). inl (noted_at table q cell.row k old.1 cell.is_number))
      (get-set table p.block (with_item row p.at (Some number)) q.block cell.row cell.is_row)

  keeps : (q : BlockPosition) → IsNoted table q → IsNoted new q
  keeps q noted =
      let cell = cell_of table q noted.0 noted.1 in ⊎_elim
      (λ (kept : slice_get new q.block ≡ Some cell.row). (noted.0, noted_at new q cell.row noted.0 kept cell.is_number))
      (λ (here : (q.block ≡ p.block) × (slice_get new q.block ≡ Some (with_item row p.at (Some number)))).
      let in_row = subst (λ (r : Vec (Option ℕ) Global). slice_get r.items q.at ≡ Some (Some noted.0)) (row_is q.block cell.row here.0 cell.is_row) cell.is_number in
      ⊎_elim
      (λ (kept : slice_get (set row.items p.at (Some number)) q.at ≡ Some (Some noted.0)). (noted.0, noted_at new q (with_item row p.at (Some number)) noted.0 here.1 kept))
      (λ (it : (q.at ≡ p.at) × (slice_get (set row.items p.at (Some number)) q.at ≡ Some (Some number))). (number, noted_at new q (with_item row p.at (Some number)) number here.1 it.1))
      (kept_or_set row.items p.at (Some number) q.at (Some noted.0) in_row))
      (kept_or_set table p.block (with_item row p.at (Some number)) q.block cell.row cell.is_row)

  places : (q : BlockPosition) → HasPlace table q → HasPlace new q
  places q place = ⊎_elim
      (λ (kept : slice_get new q.block ≡ Some place.0). (place.0, kept, place.2))
      (λ (here : (q.block ≡ p.block) × (slice_get new q.block ≡ Some (with_item row p.at (Some number)))).
      let within : q.at < length row.items = subst (λ (r : Vec (Option ℕ) Global). q.at < length r.items) (row_is q.block place.0 here.0 place.1) place.2 in
      let same : length (set row.items p.at (Some number)) ≡ length row.items = length-set row.items p.at (Some number) in
      (with_item row p.at (Some number), here.1, subst (λ (n : ℕ). q.at < n) (sym same) within))
      (kept_or_set table p.block (with_item row p.at (Some number)) q.block place.0 place.1)

  -- a number is put at the position
  pub number_put : p.at < length row.items → Notes table new p number
  number_put within = record {
    from = from;
    keeps = keeps;
    notes = λ _. (
      number,
      noted_at new p (with_item row p.at (Some number)) number (set-get table p.block (with_item row p.at (Some number)) row is)
          (set-get row.items p.at (Some number) _ (slice_get-get_or row.items p.at None within)),
    );
    places = places;
  }

  -- the row is put back as it was
  pub row_put_back : length row.items ≤ p.at → Notes table (set table p.block row) p number
  row_put_back past =
      let same : set table p.block row ≡ table = ap (set table p.block) (sym (get_or_from_slice_get table p.block row row is)) ∙ set-get_or table p.block row in
      subst (λ (now : Table). Notes table now p number) (sym same)
      (record {
        from = λ q k at. inl at;
        keeps = λ q noted. noted;
        notes = λ place.
            let within : p.at < length row.items = subst (λ (r : Vec (Option ℕ) Global). p.at < length r.items) (row_is p.block place.0 refl place.1) place.2 in absurd (omega (arith, within, past));
        places = λ q place. place;
      })

-- there is no row
pub no_row : (table : Table) (p : BlockPosition) (number : ℕ) → slice_get table p.block ≡ None → Notes table table p number
no_row table p number is = record {
  from = λ q k at. inl at;
  keeps = λ q noted. noted;
  notes = λ place. absurd (cc (sym is ∙ place.1));
  places = λ q place. place;
}

-- ---- a table of no numbers

none_if : (o : Option ℕ) → ((k : ℕ) → o ≡ Some k → ⊥) → o ≡ None
none_if None never = refl
none_if (Some k) never = absurd (never k refl)

-- a row without numbers more
pub none_more : (table now : Table) (row : Vec (Option ℕ) Global) → HasNoNumbers table → now ≡ table ++ row ∷ [] → NoneIsNoted row.items → HasNoNumbers now
none_more table now row none is empty q = none_if (number_in now q) λ k e.
    let cell = cell_of now q k e in ⊎_elim
    (λ (old : slice_get table q.block ≡ Some cell.row). none-some k (sym (none q) ∙ noted_at table q cell.row k old cell.is_number))
    (λ (last : (j : ℕ) × (q.block ≡ j + length table) × (slice_get (row ∷ []) j ≡ Some cell.row)).
    let same : cell.row ≡ row = (get_one row last.0 cell.row last.2).1 in
    empty q.at k (subst (λ (r : Vec (Option ℕ) Global). slice_get r.items q.at ≡ Some (Some k)) same cell.is_number))
    (get-append table (row ∷ []) q.block cell.row (subst (λ (t : Table). slice_get t q.block ≡ Some cell.row) is cell.is_row))

-- the first n blocks have their places
abbrev pub HasPlacesTo : List (List Instr) → ℕ → Table → Type 0
HasPlacesTo blocks n table = (q : BlockPosition) (body : List Instr) → slice_get blocks q.block ≡ Some body → q.block < n → q.at ≤ length body → HasPlace table q

pub places_more : (blocks : List (List Instr)) (table now : Table) (n : ℕ) (body : List Instr) (row : Vec (Option ℕ) Global) → length table ≡ n → HasPlacesTo blocks n table → slice_get blocks n ≡ Some body
    → now ≡ table ++ row ∷ [] → length body < length row.items → HasPlacesTo blocks (n + 1) now
places_more blocks table now n body row count to is more room q other at lt within = ⊎_elim
    (λ (before : q.block < n).
    let place = to q other at before within in (place.0, subst (λ (t : Table). slice_get t q.block ≡ Some place.0) (sym more) (get-left table (row ∷ []) q.block place.0 place.1), place.2))
    (λ (last : n ≤ q.block).
    let here : q.block ≡ n = omega (arith, last, lt) in
    let end : q.block ≡ 0 + length table = omega (arith, here, count) in
    let same : other ≡ body = same_Some other body (sym at ∙ ap (slice_get blocks) here ∙ is) in
    let fits : q.at ≤ length body = subst (λ (xs : List Instr). q.at ≤ length xs) same within in
    (row, subst (λ (t : Table). slice_get t q.block ≡ Some row) (sym more) (get-right table (row ∷ []) q.block 0 row end refl), omega (arith, fits, room)))
    (cases_lt q.block n)
