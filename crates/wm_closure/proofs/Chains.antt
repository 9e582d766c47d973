-- Chains in a graph whose edges lead forward.
use Rattle.std.proofs.Common.{◌≡◌, ℕ, ◌<◌, ◌≤◌, length, arith, List, [], ◌∷◌, ◌++◌, ap, subst, ◌⊎◌, inr, ⊎_elim}
use Rattle.std.proofs.lemmas.List.{get_or_past}
use Rattle.wm_closure.specs.Graph.{sources_of, IsOrdered, HasEdge, Chain, Reaches, IsReached}

-- what a node reaches, its sources reach
pub reached_before : (graph : List (List ℕ)) (a m b : ℕ) → HasEdge graph a m → IsReached graph m b → IsReached graph a b
reached_before graph a m b edge r = ⊎_elim
    (λ (q : m ≡ b). inr ([], subst (λ b. HasEdge graph a b) q edge))
    (λ (c : Reaches graph m b). inr (m ∷ c.0, (edge, c.1)))
    r

pub chain_below : (graph : List (List ℕ)) → IsOrdered graph → (a : ℕ) (ms : List ℕ) (b : ℕ) → Chain graph a ms b → a < b
chain_below graph ordered a [] b h = ordered a b h
chain_below graph ordered a (m ∷ ms) b h =
    let first : a < m = ordered a m h.0 in
    let rest : m < b = chain_below graph ordered m ms b h.1 in
    omega arith

pub reaches_below : (graph : List (List ℕ)) (a b : ℕ) → IsOrdered graph → Reaches graph a b → a < b
reaches_below graph a b ordered r = chain_below graph ordered a r.0 b r.1

pub chain_inside : (graph : List (List ℕ)) (a : ℕ) (ms : List ℕ) (b : ℕ) → length graph ≤ b → Chain graph a ms b → ⊥
chain_inside graph a [] b out h =
    let none : sources_of graph b ≡ [] = get_or_past graph b [] out in
    let some : h.0 < length (sources_of graph b) = h.1 in
    let l : length (sources_of graph b) ≡ 0 = ap length none in
    omega arith
chain_inside graph a (m ∷ ms) b out h = chain_inside graph m ms b out h.1

pub none_reaches : (graph : List (List ℕ)) (a b : ℕ) → IsOrdered graph → (length graph ≤ b) ⊎ ((b < length graph) × (b ≤ a)) → Reaches graph a b → ⊥
none_reaches graph a b ordered o r = ⊎_elim
    (λ (out : length graph ≤ b). chain_inside graph a r.0 b out r.1)
    (λ (h : (b < length graph) × (b ≤ a)). let l : a < b = reaches_below graph a b ordered r in let m = h.1 in omega arith)
    o

chain_join : (graph : List (List ℕ)) (a : ℕ) (ms : List ℕ) (m : ℕ) (ns : List ℕ) (b : ℕ) → Chain graph a ms m → Chain graph m ns b → Chain graph a (ms ++ m ∷ ns) b
chain_join graph a [] m ns b h c = (h, c)
chain_join graph a (k ∷ ms) m ns b h c = (h.0, chain_join graph k ms m ns b h.1 c)

pub reaches_join : (graph : List (List ℕ)) (a m b : ℕ) → Reaches graph a m → Reaches graph m b → Reaches graph a b
reaches_join graph a m b first second = (first.0 ++ m ∷ second.0, chain_join graph a first.0 m second.0 b first.1 second.1)
