-- The alternatives that wait in a stack of frames.
use Rattle.std.proofs.Common.{◌≡◌, ℕ, ◌≤◌, List, [], ◌∷◌, ◌++◌, length, map, take, refl, sym, ap, ◌∙◌, arith, append_assoc}
use Rattle.std.proofs.Math.Seq.{take-length}
use Rattle.std.proofs.lemmas.List.{map-append, take-append-le, length-take-le, take-take}
use Rattle.wm_witness.specs.declared.assumption.Assumption.{Assumption}
use Rattle.wm_witness.specs.declared.stack.Frame.{Frame}
use Rattle.wm_witness.specs.Search.{alternative, alternatives}

-- each frame keeps at least as many assumptions as the one before, the first at least m, and the last at most n
abbrev pub AreStacked : ℕ → List Frame → ℕ → Type 0
AreStacked m [] n = m ≤ n
AreStacked m (f ∷ fs) n = (m ≤ f.mark) × AreStacked f.mark fs n

pub stacked-bounds : (m : ℕ) (fs : List Frame) (n : ℕ) → AreStacked m fs n → m ≤ n
stacked-bounds m [] n h = h
stacked-bounds m (f ∷ fs) n h = let l = stacked-bounds f.mark fs n h.1 in let k = h.0 in omega (arith, l, k)

pub stacked-more : (m : ℕ) (fs : List Frame) (n p : ℕ) → n ≤ p → AreStacked m fs n → AreStacked m fs p
stacked-more m [] n p l h = omega (arith, l, h)
stacked-more m (f ∷ fs) n p l h = (h.0, stacked-more f.mark fs n p l h.1)

pub stacked-push : (m : ℕ) (fs : List Frame) (f : Frame) (n : ℕ) → f.mark ≤ n → AreStacked m fs f.mark → AreStacked m (fs ++ f ∷ []) n
stacked-push m [] f n l h = (h, l)
stacked-push m (g ∷ fs) f n l h = (h.0, stacked-push g.mark fs f n l h.1)

pub stacked-pop : (m : ℕ) (fs : List Frame) (f : Frame) (n : ℕ) → AreStacked m (fs ++ f ∷ []) n → AreStacked m fs f.mark × (f.mark ≤ n)
stacked-pop m [] f n h = (h.0, h.1)
stacked-pop m (g ∷ fs) f n h = let r = stacked-pop g.mark fs f n h.1 in ((h.0, r.0), r.1)

-- frames that keep at most k assumptions stay the same if those after the first k change
same-start : (xs ys : List Assumption) (j k : ℕ) → j ≤ k → k ≤ length xs → take j (take k xs ++ ys) ≡ take j xs
same-start xs ys j k l m =
    let size : length (take k xs) ≡ k = length-take-le k xs m in
    let inside : j ≤ length (take k xs) = omega (arith, size, l) in
    take-append-le j (take k xs) ys inside ∙ take-take j k xs l

pub same-alternatives : (xs ys : List Assumption) (m : ℕ) (fs : List Frame) (k : ℕ) → k ≤ length xs → AreStacked m fs k → map (alternative (take k xs ++ ys)) fs ≡ map (alternative xs) fs
same-alternatives xs ys m [] k l h = refl
same-alternatives xs ys m (f ∷ fs) k l h =
    let below = stacked-bounds f.mark fs k h.1 in
    let first : alternative (take k xs ++ ys) f ≡ alternative xs f = ap (λ (s : List Assumption). s ++ f.last ∷ []) (same-start xs ys f.mark k below l) in
    let rest = same-alternatives xs ys f.mark fs k l h.1 in
    cc

-- after a split: the alternatives before, and the two
pub after-split : (xs : List Assumption) (fs : List Frame) (a b : Assumption) (m : ℕ) → AreStacked m fs (length xs)
    → alternatives (xs ++ a ∷ []) (fs ++ record { mark = length xs; last = b } ∷ []) ≡ map (alternative xs) fs ++ ((xs ++ b ∷ []) ∷ (xs ++ a ∷ []) ∷ [])
after-split xs fs a b m h =
    let all : take (length xs) xs ≡ xs = take-length xs in
    let old : map (alternative (xs ++ a ∷ [])) fs ≡ map (alternative xs) fs =
    ap (λ (s : List Assumption). map (alternative (s ++ a ∷ [])) fs) (sym all) ∙ same-alternatives xs (a ∷ []) m fs (length xs) (omega arith) h in
    let own : take (length xs) (xs ++ a ∷ []) ≡ xs = take-append-le (length xs) xs (a ∷ []) (omega arith) ∙ all in
    let top : Frame = record { mark = length xs; last = b } in
    let joined : map (alternative (xs ++ a ∷ [])) (fs ++ top ∷ []) ≡ map (alternative xs) fs ++ (xs ++ b ∷ []) ∷ [] =
    map-append (alternative (xs ++ a ∷ [])) fs (top ∷ []) ∙ ap (λ (s : List (List Assumption)). s ++ (take (length xs) (xs ++ a ∷ []) ++ b ∷ []) ∷ []) old
    ∙ ap (λ (s : List Assumption). map (alternative xs) fs ++ (s ++ b ∷ []) ∷ []) own in
    ap (λ (s : List (List Assumption)). s ++ (xs ++ a ∷ []) ∷ []) joined ∙ append_assoc (map (alternative xs) fs) ((xs ++ b ∷ []) ∷ []) ((xs ++ a ∷ []) ∷ [])

-- after the last frame is taken: those that waited before
pub after-pop : (xs : List Assumption) (fs : List Frame) (f : Frame) (m : ℕ) → f.mark ≤ length xs → AreStacked m fs f.mark
    → alternatives (take f.mark xs ++ f.last ∷ []) fs ≡ map (alternative xs) (fs ++ f ∷ [])
after-pop xs fs f m l h =
    ap (λ (s : List (List Assumption)). s ++ (take f.mark xs ++ f.last ∷ []) ∷ []) (same-alternatives xs (f.last ∷ []) m fs f.mark l h)
    ∙ sym (map-append (alternative xs) fs (f ∷ []))
