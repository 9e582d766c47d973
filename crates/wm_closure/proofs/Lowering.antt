-- The rows of a node's sources, lowered to that of the node.
use Rattle.std.proofs.Common.{◌≡◌, ◌≢◌, ℕ, ◌+◌, ◌*◌, ◌<◌, ◌≤◌, min, List, length, set, arith, refl, sym, subst, ◌⊎◌, inl, inr, ⊎_elim, ◌∙◌}
use Rattle.std.specs.Prelude.{slice_index}
use Rattle.std.proofs.lemmas.Bool.{cases_eq, cases_lt}
use Rattle.std.proofs.lemmas.List.{get_or-set_same, get_or-set_other}
use Rattle.wm_closure.specs.Graph.{entry, IsAmong, LowersRow, LowersSources}
use Rattle.wm_closure.proofs.Rows.{row_apart, row_before}

-- one lane more: the entry is the smaller of the two
lane_more : (width source node n : ℕ) (old now new : List ℕ) → (slice_index new (source * width + n) ≡ min (entry old width source n) (entry old width node n))
    → ((k : ℕ) → k ≢ source * width + n → slice_index new k ≡ slice_index now k) → LowersRow width source node n old now → LowersRow width source node (n + 1) old new
lane_more width source node n old now new here other is = record {
  lowered = λ lane below. ⊎_elim
      (λ (l : lane < n). other (source * width + lane) (λ e. omega (arith, l, e)) ∙ is.lowered lane l)
      (λ (l : n ≤ lane). let e : n ≡ lane = omega (arith, l, below) in
      subst (λ m. slice_index new (source * width + m) ≡ min (entry old width source m) (entry old width node m)) e here)
      (cases_lt lane n);
  kept = λ k out. ⊎_elim
      (λ (l : k < source * width). other k (λ e. omega (arith, l, e)) ∙ is.kept k (inl l))
      (λ (l : source * width + (n + 1) ≤ k). other k (λ e. omega (arith, l, e)) ∙ is.kept k (inr (omega (arith, l))))
      out;
}

module _ (width source node n : ℕ) (old now : List ℕ) (before : source < node) (inside : n < width) (is : LowersRow width source node n old now) where
  -- the node's entry is as it was
  pub node_kept : entry now width node n ≡ entry old width node n
  node_kept = let p : source * width + width ≤ node * width = row_before width source node before in is.kept (node * width + n) (inr (omega (arith, p, inside)))

  source_kept : entry now width source n ≡ entry old width source n
  source_kept = is.kept (source * width + n) (inr (omega arith))

  pub row_set : source * width + n < length now → entry now width node n < entry now width source n
      → LowersRow width source node (n + 1) old (set now (source * width + n) (entry now width node n))
  row_set fits less =
      let p = source * width + n in
      let v = entry now width node n in
      let same : slice_index (set now p v) p ≡ v = get_or-set_same now p v 0 fits in
      let a : entry now width node n ≡ entry old width node n = node_kept in
      let b : entry now width source n ≡ entry old width source n = source_kept in
      lane_more width source node n old now (set now p v) (omega (arith, same, a, b, less)) (λ k d. get_or-set_other now p k v 0 d) is

  pub row_kept : entry now width source n ≤ entry now width node n → LowersRow width source node (n + 1) old now
  row_kept less =
      let a : entry now width node n ≡ entry old width node n = node_kept in
      let b : entry now width source n ≡ entry old width source n = source_kept in
      lane_more width source node n old now now (omega (arith, a, b, less)) (λ k d. refl) is

-- one source more
module _ (width : ℕ) (sources : List ℕ) (node n source : ℕ) (old now new : List ℕ) (at : slice_index sources n ≡ source) (is : LowersSources width sources node n old now)
    (row : LowersRow width source node width now new) where
  other_kept : (a lane : ℕ) → lane < width → a ≢ source → entry new width a lane ≡ entry now width a lane
  other_kept a lane inside d = row.kept (a * width + lane) (row_apart width a source lane d inside)

  source_lowered : (a lane : ℕ) → lane < width → a ≡ source → entry new width a lane ≡ min (entry now width a lane) (entry now width node lane)
  source_lowered a lane inside e = subst (λ s. entry new width s lane ≡ min (entry now width s lane) (entry now width node lane)) (sym e) (row.lowered lane inside)

  node_now : (lane : ℕ) → lane < width → entry now width node lane ≡ entry old width node lane
  node_now lane inside = ⊎_elim
      (λ (e : entry now width node lane ≡ entry old width node lane). e)
      (λ (e : IsAmong sources n node × (entry now width node lane ≡ entry old width node lane)). e.1)
      (is.kept node lane inside)

  falls_now : (a lane : ℕ) → lane < width → entry new width a lane ≤ entry now width a lane
  falls_now a lane inside = ⊎_elim
      (λ (e : a ≡ source). let m : entry new width a lane ≡ min (entry now width a lane) (entry now width node lane) = source_lowered a lane inside e in omega (arith, m))
      (λ (d : a ≢ source). let m : entry new width a lane ≡ entry now width a lane = other_kept a lane inside d in omega (arith, m))
      (cases_eq a source)

  among_more : (a : ℕ) → IsAmong sources n a → IsAmong sources (n + 1) a
  among_more a k = (k.0, (let l = k.1 in omega (arith, l)), k.2)

  lowered_more : (a lane : ℕ) → lane < width → IsAmong sources (n + 1) a → entry new width a lane ≤ entry old width node lane
  lowered_more a lane inside k = ⊎_elim
      (λ (l : k.0 < n). let f : entry new width a lane ≤ entry now width a lane = falls_now a lane inside in
      let o : entry now width a lane ≤ entry old width node lane = is.lowered a lane inside (k.0, l, k.2) in
      omega (arith, f, o))
      (λ (l : n ≤ k.0).
      let below : k.0 < n + 1 = k.1 in
      let last : k.0 ≡ n = omega (arith, l, below) in
      let e : a ≡ source = sym k.2 ∙ subst (λ i. slice_index sources i ≡ source) (sym last) at in
      let m : entry new width a lane ≡ min (entry now width a lane) (entry now width node lane) = source_lowered a lane inside e in
      let o : entry now width node lane ≡ entry old width node lane = node_now lane inside in
      omega (arith, m, o))
      (cases_lt k.0 n)

  -- the entry of the source is its own or the node's
  one_of : (a lane : ℕ) → lane < width → a ≡ source → (entry new width a lane ≡ entry now width a lane) ⊎ (entry new width a lane ≡ entry old width node lane)
  one_of a lane inside e =
      let m : entry new width a lane ≡ min (entry now width a lane) (entry now width node lane) = source_lowered a lane inside e in
      let o : entry now width node lane ≡ entry old width node lane = node_now lane inside in ⊎_elim
      (λ (l : entry now width node lane < entry now width a lane). inr (omega (arith, m, o, l)))
      (λ (l : entry now width a lane ≤ entry now width node lane). inl (omega (arith, m, l)))
      (cases_lt (entry now width node lane) (entry now width a lane))

  kept_before : (a lane : ℕ) → lane < width → entry new width a lane ≡ entry now width a lane
      → (entry new width a lane ≡ entry old width a lane) ⊎ (IsAmong sources (n + 1) a × (entry new width a lane ≡ entry old width node lane))
  kept_before a lane inside same = ⊎_elim
      (λ (e : entry now width a lane ≡ entry old width a lane). inl (same ∙ e))
      (λ (e : IsAmong sources n a × (entry now width a lane ≡ entry old width node lane)). inr (among_more a e.0, same ∙ e.1))
      (is.kept a lane inside)

  pub source_more : LowersSources width sources node (n + 1) old new
  source_more = record {
    falls = λ a lane inside.
        let f : entry new width a lane ≤ entry now width a lane = falls_now a lane inside in
        let o : entry now width a lane ≤ entry old width a lane = is.falls a lane inside in
        omega (arith, f, o);
    lowered = lowered_more;
    kept = λ a lane inside. ⊎_elim
        (λ (e : a ≡ source). ⊎_elim
        (λ (m : entry new width a lane ≡ entry now width a lane). kept_before a lane inside m)
        (λ (m : entry new width a lane ≡ entry old width node lane). inr ((n, omega arith, at ∙ sym e), m))
        (one_of a lane inside e))
        (λ (d : a ≢ source). kept_before a lane inside (other_kept a lane inside d))
        (cases_eq a source);
  }
