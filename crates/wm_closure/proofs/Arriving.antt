-- What the rows state once all nodes from one on have lowered the rows of their sources.
use Rattle.std.proofs.Common.{◌≡◌, ◌≢◌, ℕ, ◌+◌, ◌*◌, ◌<◌, ◌≤◌, List, [], ◌∷◌, length, arith, sym, subst, ⊎_elim}
use Rattle.std.specs.Prelude.{slice_index}
use Rattle.std.proofs.lemmas.Bool.{cases_eq}
use Rattle.wm_closure.specs.Graph.{AreArrivals, AreLanes, Arrives, Chain, entry, HasEdge, IsOrdered, LowersSources, Reaches, sources_of}
use Rattle.wm_closure.proofs.Chains.{chain_below, reached_before}

-- no node has more than itself at its own lane, each node that a row names is reached, and along each edge to a node from n on the entries do not fall
pub record AreLowered (graph : List (List ℕ)) (lanes : List ℕ) (width n : ℕ) (rows : List ℕ) : Type 0 where
  pub own : (a : ℕ) → a < length graph → entry rows width a (slice_index lanes a) ≤ a
  pub reached : (a lane : ℕ) → a < length graph → lane < width → entry rows width a lane < length graph → Arrives graph lanes lane a (entry rows width a lane)
  pub along : (a e lane : ℕ) → HasEdge graph a e → n ≤ e → e < length graph → lane < width → entry rows width a lane ≤ entry rows width e lane

-- one node is taken
module _ (graph : List (List ℕ)) (lanes : List ℕ) (width n : ℕ) (old new : List ℕ) (ordered : IsOrdered graph) (are : AreLanes graph lanes width) (there : n < length graph)
    (step : LowersSources width (sources_of graph n) n (length (sources_of graph n)) old new) (is : AreLowered graph lanes width (n + 1) old) where
  -- a row from n on is as it was
  row_same : (e lane : ℕ) → n ≤ e → lane < width → entry new width e lane ≡ entry old width e lane
  row_same e lane from inside = ⊎_elim
      (λ (s : entry new width e lane ≡ entry old width e lane). s)
      (λ (s : HasEdge graph e n × (entry new width e lane ≡ entry old width n lane)). let l : e < n = ordered e n s.0 in absurd (omega (arith, l, from)))
      (step.kept e lane inside)

  reached_now : (a lane : ℕ) → a < length graph → lane < width → entry new width a lane < length graph → Arrives graph lanes lane a (entry new width a lane)
  reached_now a lane below inside low = ⊎_elim
      (λ (s : entry new width a lane ≡ entry old width a lane).
      subst (λ v. Arrives graph lanes lane a v) (sym s) (is.reached a lane below inside (omega (arith, s, low))))
      (λ (s : HasEdge graph a n × (entry new width a lane ≡ entry old width n lane)).
      let same : entry new width a lane ≡ entry old width n lane = s.1 in
      let arrives : Arrives graph lanes lane n (entry old width n lane) = is.reached n lane there inside (omega (arith, same, low)) in
      subst (λ v. Arrives graph lanes lane a v) (sym same) (arrives.0, arrives.1, reached_before graph a n (entry old width n lane) s.0 arrives.2))
      (step.kept a lane inside)

  along_now : (a e lane : ℕ) → HasEdge graph a e → n ≤ e → e < length graph → lane < width → entry new width a lane ≤ entry new width e lane
  along_now a e lane edge from below inside =
      let same : entry new width e lane ≡ entry old width e lane = row_same e lane from inside in ⊎_elim
      (λ (q : e ≡ n).
      let l : entry new width a lane ≤ entry old width n lane = step.lowered a lane inside (subst (λ x. HasEdge graph a x) q edge) in
      let m : entry new width a lane ≤ entry old width e lane = subst (λ x. entry new width a lane ≤ entry old width x lane) (sym q) l in
      omega (arith, m, same))
      (λ (d : e ≢ n).
      let o : entry old width a lane ≤ entry old width e lane = is.along a e lane edge (omega (arith, from, d)) below inside in
      let f : entry new width a lane ≤ entry old width a lane = step.falls a lane inside in
      omega (arith, o, f, same))
      (cases_eq e n)

  pub lowered_more : AreLowered graph lanes width n new
  lowered_more = record {
    own = λ a below.
        let f : entry new width a (slice_index lanes a) ≤ entry old width a (slice_index lanes a) = step.falls a (slice_index lanes a) (are.inside a below) in
        let o : entry old width a (slice_index lanes a) ≤ a = is.own a below in
        omega (arith, f, o);
    reached = reached_now;
    along = along_now;
  }

-- all nodes have been taken
module _ (graph : List (List ℕ)) (lanes : List ℕ) (width : ℕ) (rows : List ℕ) (ordered : IsOrdered graph) (are : AreLanes graph lanes width) (is : AreLowered graph lanes width 0 rows) where
  chain_falls : (a : ℕ) (ms : List ℕ) (b lane : ℕ) → b < length graph → lane < width → Chain graph a ms b → entry rows width a lane ≤ entry rows width b lane
  chain_falls a [] b lane below inside h = is.along a b lane h (omega arith) below inside
  chain_falls a (m ∷ ms) b lane below inside h =
      let l : m < b = chain_below graph ordered m ms b h.1 in
      let first : entry rows width a lane ≤ entry rows width m lane = is.along a m lane h.0 (omega arith) (omega (arith, l, below)) inside in
      let rest : entry rows width m lane ≤ entry rows width b lane = chain_falls m ms b lane below inside h.1 in
      omega (arith, first, rest)

  least : (a lane e : ℕ) → lane < width → Arrives graph lanes lane a e → entry rows width a lane ≤ e
  least a lane e inside arrives =
      let own : entry rows width e lane ≤ e = subst (λ l. entry rows width e l ≤ e) arrives.1 (is.own e arrives.0) in ⊎_elim
      (λ (q : a ≡ e). subst (λ x. entry rows width x lane ≤ e) (sym q) own)
      (λ (r : Reaches graph a e). let f : entry rows width a lane ≤ entry rows width e lane = chain_falls a r.0 e lane arrives.0 inside r.1 in omega (arith, f, own))
      arrives.2

  pub are_arrivals : length rows ≡ length graph * width → AreArrivals graph lanes width rows
  are_arrivals size = (size, λ a lane below inside. record { least = λ e arrives. least a lane e inside arrives; there = is.reached a lane below inside })
