-- Stacks in a list, seen from the top.
use Rattle.std.proofs.Common.{◌≡◌, ℕ, ◌+◌, ◌≤◌, ◌<◌, ◌-◌, List, [], ◌∷◌, ◌++◌, length, take, drop, set, reverse, sym, ap, ◌∙◌, arith, length-drop}
use Rattle.std.proofs.lemmas.List.{reverse-append, reverse-reverse, drop-drop, take_all, take-append-drop, length-reverse, drop-take, drop-append-le, take_more_set, length-take-le}
use Rattle.std.proofs.Math.Seq.{drop-append_seam}

module _ {A : Type 0} where
  reverse_take : (xs : List A) (m p : ℕ) → m + p ≡ length xs → reverse (take m xs) ≡ drop p (reverse xs)
  reverse_take xs m p h =
      let a = reverse (drop m xs) in
      let b = reverse (take m xs) in
      let e : reverse xs ≡ a ++ b = ap reverse (sym (take-append-drop m xs)) ∙ reverse-append (take m xs) (drop m xs) in
      let l : length a ≡ p = omega (arith, length-reverse (drop m xs), length-drop m xs) in
      sym (ap (λ (s : List A). drop p s) e ∙ ap (λ (q : ℕ). drop q (a ++ b)) (sym l) ∙ drop-append_seam a b)

  pub reverse_cut : (xs : List A) (b n p : ℕ) → b ≤ n → n + p ≡ length xs → reverse (drop b (take n xs)) ≡ drop p (reverse (drop b xs))
  reverse_cut xs b n p le h =
      let m = n - b in
      let e : n ≡ b + m = omega arith in
      let l : m + p ≡ length (drop b xs) = omega (arith, length-drop b xs) in
      ap (λ (k : ℕ). reverse (drop b (take k xs))) e ∙ ap reverse (drop-take b m xs) ∙ reverse_take (drop b xs) m p l

  -- a value in the place of the topmost ones
  pub reverse_put : (xs : List A) (b n p : ℕ) (v : A) → b ≤ n → n + p ≡ length xs → 0 < p → reverse (drop b (take (n + 1) (set xs n v))) ≡ v ∷ drop p (reverse (drop b xs))
  reverse_put xs b n p v le h pos =
      let l : n < length xs = omega arith in
      let len : b ≤ length (take n xs) = omega (arith, length-take-le n xs (omega arith)) in
      ap (λ (s : List A). reverse (drop b s)) (take_more_set xs n v l)
      ∙ ap reverse (drop-append-le b (take n xs) (v ∷ []) len)
      ∙ reverse-append (drop b (take n xs)) (v ∷ [])
      ∙ ap (λ (s : List A). v ∷ s) (reverse_cut xs b n p le h)

  -- the topmost ones, the deepest first
  pub top_of : (xs : List A) (b len count : ℕ) → len ≡ length xs → b ≤ length xs → count ≤ length (reverse (drop b xs)) → take (length xs - (len - count)) (drop (len - count) xs) ≡ reverse (take count (reverse (drop b xs)))
  top_of xs b len count e le room =
      let r : count ≤ length xs - b = omega (arith, room, length-reverse (drop b xs), length-drop b xs) in
      let p = length xs - b - count in
      let ds = reverse (drop b xs) in
      let l : length (drop (len - count) xs) ≡ length xs - (len - count) = length-drop (len - count) xs in
      let h : count + p ≡ length ds = omega (arith, length-reverse (drop b xs), length-drop b xs) in
      let k : b + p ≡ len - count = omega arith in
      take_all (length xs - (len - count)) (drop (len - count) xs) (omega (arith, l))
      ∙ sym (reverse_take ds count p h ∙ ap (drop p) (reverse-reverse (drop b xs)) ∙ drop-drop p b xs ∙ ap (λ (n : ℕ). drop n xs) k)

  -- two parts of a list, from the top
  pub reverse_parts : (xs : List A) (b n : ℕ) → b ≤ n → n ≤ length xs → reverse (drop n xs) ++ reverse (drop b (take n xs)) ≡ reverse (drop b xs)
  reverse_parts xs b n le h =
      let len : b ≤ length (take n xs) = omega (arith, length-take-le n xs (omega arith)) in
      let e : drop b xs ≡ drop b (take n xs) ++ drop n xs =
      ap (λ (s : List A). drop b s) (sym (take-append-drop n xs)) ∙ drop-append-le b (take n xs) (drop n xs) len in
      sym (ap reverse e ∙ reverse-append (drop b (take n xs)) (drop n xs))

  pub reverse_last : (xs : List A) (x : A) → reverse (xs ++ x ∷ []) ≡ x ∷ reverse xs
  reverse_last xs x = reverse-append xs (x ∷ [])
