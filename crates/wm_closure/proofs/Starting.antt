-- The rows before any edge is followed.
use Rattle.std.proofs.Common.{◌≡◌, ◌≢◌, ℕ, ◌+◌, ◌*◌, ◌<◌, ◌≤◌, List, length, set, arith, sym, subst, inl, inr, ⊎_elim, ◌∙◌}
use Rattle.std.specs.Prelude.{slice_index}
use Rattle.std.proofs.lemmas.Bool.{cases_eq}
use Rattle.std.proofs.lemmas.List.{get_or-set_same, get_or-set_other}
use Rattle.wm_closure.specs.Graph.{AreOwn, entry}
use Rattle.wm_closure.proofs.Rows.{places_apart, row_before}

-- a place of a row is inside the rows
pub place_inside : (width a lane count : ℕ) → a < count → lane < width → a * width + lane < count * width
place_inside width a lane count below inside = let p : a * width + width ≤ count * width = row_before width a count below in omega (arith, p, inside)

-- one node more
module _ (lanes : List ℕ) (width n : ℕ) (rows : List ℕ) (each : (a : ℕ) → a < length lanes → slice_index lanes a < width) (there : n < length lanes)
    (size : length rows ≡ length lanes * width) (is : AreOwn lanes width n rows) where
  abbrev lane_of : ℕ
  lane_of = slice_index lanes n

  abbrev new : List ℕ
  new = set rows (n * width + lane_of) n

  own_here : entry new width n lane_of ≡ n
  own_here =
      let l : n * width + lane_of < length lanes * width = place_inside width n lane_of (length lanes) there (each n there) in
      get_or-set_same rows (n * width + lane_of) n 0 (omega (arith, l, size))

  other_row : (a lane : ℕ) → lane < width → a ≢ n → entry new width a lane ≡ entry rows width a lane
  other_row a lane inside d = get_or-set_other rows (n * width + lane_of) (a * width + lane) n 0 (places_apart width a n lane lane_of d inside (each n there))

  other_lane : (a lane : ℕ) → a ≡ n → slice_index lanes a ≢ lane → entry new width a lane ≡ entry rows width a lane
  other_lane a lane e d = get_or-set_other rows (n * width + lane_of) (a * width + lane) n 0
      (λ (p : a * width + lane ≡ n * width + lane_of).
      let q : n * width + lane ≡ n * width + lane_of = subst (λ x. x * width + lane ≡ n * width + lane_of) e p in
      let same : lane_of ≡ lane = omega (arith, q) in
      d (subst (λ x. slice_index lanes x ≡ lane) (sym e) same))

  pub own_more : AreOwn lanes width (n + 1) new
  own_more = record {
    own = λ a l. ⊎_elim
        (λ (e : a ≡ n). subst (λ x. entry new width x (slice_index lanes x) ≡ x) (sym e) own_here)
        (λ (d : a ≢ n).
        let below : a < n = omega (arith, l, d) in
        other_row a (slice_index lanes a) (each a (omega (arith, below, there))) d ∙ is.own a below)
        (cases_eq a n);
    others = λ a lane below inside o. ⊎_elim
        (λ (e : a ≡ n). ⊎_elim
        (λ (d : slice_index lanes a ≢ lane). other_lane a lane e d ∙ is.others a lane below inside (inl d))
        (λ (l : n + 1 ≤ a). absurd (omega (arith, l, e)))
        o)
        (λ (d : a ≢ n). other_row a lane inside d ∙ is.others a lane below inside (⊎_elim
        (λ (x : slice_index lanes a ≢ lane). inl x)
        (λ (l : n + 1 ≤ a). inr (omega (arith, l)))
        o))
        (cases_eq a n);
  }
