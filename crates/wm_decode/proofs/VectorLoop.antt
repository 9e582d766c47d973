-- Reading items one after the other, as a loop does.
use Rattle.std.proofs.Common.{◌≡◌, ℕ, suc, ◌-◌, ◌+◌, ◌≤◌, ◌<◌, List, [], ◌∷◌, ◌++◌, Result, Ok, Err, refl, sym, ap, ◌∙◌, append_assoc, arith}
use Rattle.std.proofs.lemmas.List.{append-nil}
use Rattle.wm_decode.specs.declared.fault.ItemFault.{ItemFault}
use Rattle.wm_decode.specs.declared.fault.ItemFault.TheVariants.{OutOfMemory, WithLeft}
use Rattle.wm_decode.specs.Stop.{Stop, stop}
use Rattle.wm_decode.specs.Implements.{Fails}
use Rattle.wm_decode.specs.Reading.{◌>>=◌}
use Rattle.wm_decode.specs.ReadingVectors.{items_at}

module _ {X : Type 0} where
  -- what was read before, and what is still read
  abbrev pub found_before : List X → Result (List X × List ℕ) Stop → Result (List X × List ℕ) Stop
  found_before front read = read >>= λ x. Ok (front ++ x.0, x.1)

  regroup : (front : List X) (n : X) (read : Result (List X × List ℕ) Stop) → found_before front (read >>= λ x. Ok (n ∷ x.0, x.1)) ≡ found_before (front ++ n ∷ []) read
  regroup front n (Ok x) = ap (λ (ns : List X). Ok (ns, x.1)) (simp append_assoc)
  regroup front n (Err s) = refl

  pub goes_on : (item_at : List ℕ → Result (X × List ℕ) Stop) (front : List X) (count i : ℕ) (bytes : List ℕ) (n : X) (after : List ℕ) (total : Result (List X × List ℕ) Stop) → i < count → item_at bytes ≡ Ok (n, after)
      → found_before front (items_at item_at (count - i) bytes) ≡ total → found_before (front ++ n ∷ []) (items_at item_at (count - (i + 1)) after) ≡ total
  unfolding items_at
  goes_on item_at front count i bytes n after total lt h so_far =
      let k : count - i ≡ suc (count - (i + 1)) = omega arith in
      let one : found_before front (items_at item_at (count - i) bytes) ≡ found_before (front ++ n ∷ []) (items_at item_at (count - (i + 1)) after) = rw (k, h) (regroup front n (items_at item_at (count - (i + 1)) after)) in
      sym one ∙ so_far

  pub fails : (item_at : List ℕ → Result (X × List ℕ) Stop) (e : ItemFault) (front : List X) (count i : ℕ) (bytes : List ℕ) (total : Result (List X × List ℕ) Stop) → i < count → Fails e (item_at bytes)
      → found_before front (items_at item_at (count - i) bytes) ≡ total → Fails e total
  unfolding items_at
  fails item_at OutOfMemory front count i bytes total lt h so_far = tt
  fails item_at (WithLeft kind left) front count i bytes total lt h so_far =
      let k : count - i ≡ suc (count - (i + 1)) = omega arith in
      let one : found_before front (items_at item_at (count - i) bytes) ≡ Err (stop kind left) = rw (k, h) refl in
      sym so_far ∙ one

  pub is_done : (item_at : List ℕ → Result (X × List ℕ) Stop) (front : List X) (count i : ℕ) (bytes : List ℕ) (total : Result (List X × List ℕ) Stop) → count ≤ i → found_before front (items_at item_at (count - i) bytes) ≡ total → total ≡ Ok (front, bytes)
  unfolding items_at
  is_done item_at front count i bytes total le so_far =
      let k : count - i ≡ 0 = omega arith in
      let one : found_before front (items_at item_at (count - i) bytes) ≡ Ok (front, bytes) = rw k (ap (λ (ns : List X). Ok (ns, bytes)) (append-nil front)) in
      sym so_far ∙ one
