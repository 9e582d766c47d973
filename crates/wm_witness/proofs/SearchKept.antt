-- A step of the search, on the stack of frames.
use Rattle.std.proofs.Common.{◌≡◌, ◌≢◌, ℕ, zero, suc, ◌+◌, ◌-◌, ◌≤◌, List, [], ◌∷◌, ◌++◌, length, map, take, sym, ap, ◌∙◌, subst, arith, length-append}
use Rattle.std.proofs.lemmas.List.{append-nil, length-take-le}
use Rattle.wm_event.specs.LoggedRun.{LoggedRun}
use Rattle.wm_witness.specs.declared.assumption.Assumption.{Assumption}
use Rattle.wm_witness.specs.declared.stack.Frame.{Frame}
use Rattle.wm_witness.specs.Always.{IsClosed}
use Rattle.wm_witness.specs.Search.{IsLeftOpen, IsNewSplit, NothingIsNew, Searched, alternative, alternatives}
use Rattle.wm_witness.specs.Search.Searched.{step}
use Rattle.wm_witness.specs.Search.Replaces.{closed, split, stays}
use Rattle.wm_witness.proofs.Frames.{AreStacked, after-pop, after-split, stacked-more, stacked-pop, stacked-push}
use Rattle.wm_witness.proofs.SearchLaw.{none-left}

module _ (run : LoggedRun) (wanted : List Assumption) (n : ℕ) (xs : List Assumption) (fs : List Frame) (searched : Searched run wanted n (alternatives xs fs)) (stacked : AreStacked 0 fs (length xs)) where
  module _ (a b : Assumption) (ys : List Assumption) (gs : List Frame) (ys-is : ys ≡ xs ++ a ∷ []) (gs-is : gs ≡ fs ++ record { mark = length xs; last = b } ∷ []) (new : IsNewSplit run.log xs a b) where
    pub split-searched : Searched run wanted (n + 1) (alternatives ys gs)
    split-searched =
        let next = step n (map (alternative xs) fs) xs ((xs ++ b ∷ []) ∷ (xs ++ a ∷ []) ∷ []) searched (split new) in
        let here : alternatives (xs ++ a ∷ []) (fs ++ record { mark = length xs; last = b } ∷ []) ≡ alternatives ys gs = cc in
        subst (Searched run wanted (n + 1)) (sym (after-split xs fs a b 0 stacked) ∙ here) next

    pub split-stacked : AreStacked 0 gs (length ys)
    split-stacked =
        let size : length ys ≡ length xs + 1 = ap length ys-is ∙ length-append xs (a ∷ []) in
        let below : length xs ≤ length ys = omega (arith, size) in
        subst (λ hs. AreStacked 0 hs (length ys)) (sym gs-is) (stacked-push 0 fs (record { mark = length xs; last = b }) (length ys) below stacked)

  stays-often : NothingIsNew run.log xs → (k : ℕ) → Searched run wanted (n + k) (alternatives xs fs)
  stays-often none zero = let same : n ≡ n + 0 = omega arith in subst (λ m. Searched run wanted m (alternatives xs fs)) same searched
  stays-often none (suc k) =
      let same : n + k + 1 ≡ n + suc k = omega arith in
      subst (λ m. Searched run wanted m (alternatives xs fs)) same (step (n + k) (map (alternative xs) fs) xs (xs ∷ []) (stays-often none k) (stays none))

  module _ (f : Frame) (ys : List Assumption) (gs : List Frame) (fs-is : fs ≡ gs ++ f ∷ []) (ys-is : ys ≡ take f.mark xs ++ f.last ∷ []) where
    popped : AreStacked 0 gs f.mark × (f.mark ≤ length xs)
    popped = stacked-pop 0 gs f (length xs) (subst (λ hs. AreStacked 0 hs (length xs)) fs-is stacked)

    pub closed-searched : IsClosed run xs → Searched run wanted (n + 1) (alternatives ys gs)
    closed-searched c =
        let next = step n (map (alternative xs) fs) xs [] searched (closed c) in
        let old : map (alternative xs) fs ++ [] ≡ map (alternative xs) (gs ++ f ∷ []) = append-nil (map (alternative xs) fs) ∙ ap (map (alternative xs)) fs-is in
        let here : alternatives (take f.mark xs ++ f.last ∷ []) gs ≡ alternatives ys gs = ap (λ (zs : List Assumption). alternatives zs gs) (sym ys-is) in
        subst (Searched run wanted (n + 1)) (old ∙ sym (after-pop xs gs f 0 popped.1 popped.0) ∙ here) next

    pub closed-stacked : AreStacked 0 gs (length ys)
    closed-stacked =
        let taken : length (take f.mark xs) ≡ f.mark = length-take-le f.mark xs popped.1 in
        let size : length ys ≡ length (take f.mark xs) + 1 = ap length ys-is ∙ length-append (take f.mark xs) (f.last ∷ []) in
        let below : f.mark ≤ length ys = omega (arith, size, taken) in
        stacked-more 0 gs f.mark (length ys) below popped.0

  -- with no frame left, and nothing that keeps what is assumed
  pub none-left-now : fs ≡ [] → IsClosed run xs → IsClosed run wanted
  none-left-now none c =
      let next = step n (map (alternative xs) fs) xs [] searched (closed c) in
      none-left run wanted (n + 1) (subst (Searched run wanted (n + 1)) (append-nil (map (alternative xs) fs) ∙ ap (map (alternative xs)) none) next)

  some-left : (waiting : List (List Assumption)) (x : List Assumption) → waiting ++ x ∷ [] ≢ []
  some-left [] x = λ h. cc
  some-left (y ∷ ys) x = λ h. cc

  pub left-open : IsLeftOpen run wanted n
  left-open = (alternatives xs fs, some-left (map (alternative xs) fs) xs, searched)

  -- if nothing is new, all steps up to any number leave what is left
  pub stays-open : NothingIsNew run.log xs → (most : ℕ) → n ≤ most → IsLeftOpen run wanted most
  stays-open none most under =
      let steps : n + (most - n) ≡ most = omega (arith, under) in
      (alternatives xs fs, some-left (map (alternative xs) fs) xs, subst (λ m. Searched run wanted m (alternatives xs fs)) steps (stays-often none (most - n)))
