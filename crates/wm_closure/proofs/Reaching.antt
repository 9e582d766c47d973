-- What an arrival means for a later node of its lane.
use Rattle.std.proofs.Common.{◌≡◌, ◌≢◌, ℕ, ◌+◌, ◌*◌, ◌<◌, ◌≤◌, List, length, get_or, arith, refl, sym, subst, inr, ⊎_elim, ◌∙◌, ◌↔◌}
use Rattle.std.specs.Prelude.{slice_index}
use Rattle.std.proofs.lemmas.Bool.{cases_eq}
use Rattle.std.proofs.lemmas.List.{get_or_default}
use Rattle.wm_closure.specs.Graph.{AreArrivals, AreLanes, Arrives, entry, IsArrival, Reaches}
use Rattle.wm_closure.proofs.Chains.{reaches_join}
use Rattle.wm_closure.proofs.Starting.{place_inside}

module _ (graph : List (List ℕ)) (lanes : List ℕ) (width : ℕ) (rows : List ℕ) (are : AreLanes graph lanes width) (all : AreArrivals graph lanes width rows)
    (from to : ℕ) (later : from < to) (behind : to < length graph) where
  abbrev lane : ℕ
  lane = slice_index lanes to

  entry_inside : from * width + slice_index lanes to < length rows
  entry_inside =
      let l : length rows ≡ length graph * width = all.0 in
      let p : from * width + lane < length graph * width = place_inside width from lane (length graph) (omega (arith, later, behind)) (are.inside to behind) in
      omega (arith, l, p)

  arrival : IsArrival graph lanes lane from (entry rows width from lane)
  arrival = all.1 from lane (omega (arith, later, behind)) (are.inside to behind)

  -- what was read of the lanes is that lane
  lane_read : (read : ℕ) → read ≡ get_or lanes to read → read ≡ slice_index lanes to
  lane_read read is = let size = are.size in is ∙ get_or_default lanes to read 0 (omega (arith, size, behind))

  -- the place that is read is inside the rows, and what is read there is the entry
  pub read_inside : (read : ℕ) → read ≡ get_or lanes to read → from * width + read < length rows
  read_inside read is =
      let e : read ≡ slice_index lanes to = lane_read read is in
      let l : from * width + lane < length rows = entry_inside in
      omega (arith, e, l)

  pub entry_read : (read found : ℕ) → read ≡ get_or lanes to read → found ≡ get_or rows (from * width + read) found → found ≡ entry rows width from (slice_index lanes to)
  entry_read read found is there =
      let e : read ≡ slice_index lanes to = lane_read read is in
      subst (λ l. found ≡ entry rows width from l) e (there ∙ get_or_default rows (from * width + read) found 0 (read_inside read is))

  -- the first node of the lane that is reached reaches the later ones
  through : (v : ℕ) → v ≤ to → Arrives graph lanes lane from v → Reaches graph from to
  through v low a = ⊎_elim
      (λ (e : v ≡ to). ⊎_elim
      (λ (q : from ≡ v). absurd (omega (arith, q, e, later)))
      (λ (r : Reaches graph from v). subst (λ x. Reaches graph from x) e r)
      a.2)
      (λ (d : v ≢ to).
      let less : v < to = omega (arith, low, d) in
      let link : Reaches graph v to = are.linked v to less behind a.1 in ⊎_elim
      (λ (q : from ≡ v). subst (λ x. Reaches graph x to) (sym q) link)
      (λ (r : Reaches graph from v). reaches_join graph from v to r link)
      a.2)
      (cases_eq v to)

  pub arrives_reaches : (entry rows width from (slice_index lanes to) ≤ to) ↔ Reaches graph from to
  arrives_reaches =
      let v = entry rows width from lane in (
        (λ low. through v low (arrival.there (let l : v ≤ to = low in omega (arith, l, behind)))),
        (λ r. arrival.least to (behind, refl, inr r)),
      )
