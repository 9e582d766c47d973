-- Writes that rise: parts of them, and those between two places.
use Rattle.std.proofs.Common.{◌≡◌, ℕ, ◌+◌, ◌-◌, ◌<◌, ◌≤◌, ◌&&◌, Bool, true, not, ltb, List, length, get_or, drop, arith, ap, ⊎_elim}
use Rattle.std.specs.List.{filter}
use Rattle.std.specs.List.Sorted.{IsNonDecreasingBy}
use Rattle.std.proofs.lemmas.Bool.{cases_lt}
use Rattle.std.proofs.lemmas.Grind.{common_steps}
use Rattle.std.proofs.lemmas.Option.{slice_get-get_or}
use borrow.Author.Tests.{tests}
use Rattle.wm_event.specs.declared.writes.ByteWrite.{ByteWrite}
use Rattle.wm_hb.specs.Between.{Rises, stands_between}
use Rattle.wm_hb.proofs.FilterLemmas.{pairs_kept}

pub rises_places : (writes : List ByteWrite) → Rises writes → IsNonDecreasingBy (λ (b : ByteWrite). b.place) writes
rises_places writes rises i j d l inside = ⊎_elim
    (λ (h : i < j). let r = rises i j (get_or writes i d) (get_or writes j d) h (slice_get-get_or writes i d (omega arith)) (slice_get-get_or writes j d inside) in omega (arith, r))
    (λ (h : j ≤ i). let e : i ≡ j = omega arith in let s = ap (λ (k : ℕ). (get_or writes k d).place) e in omega (arith, s))
    (cases_lt i j)

pub rises_drop : (writes : List ByteWrite) (n : ℕ) → IsNonDecreasingBy (λ (b : ByteWrite). b.place) writes → IsNonDecreasingBy (λ (b : ByteWrite). b.place) (drop n writes)
rises_drop writes n up i j d l inside =
    let long : length (drop n writes) ≡ length writes - n = grind (arith, common_steps) in
    let e : get_or (drop n writes) i d ≡ get_or writes (n + i) d = grind (arith, common_steps) in
    let f : get_or (drop n writes) j d ≡ get_or writes (n + j) d = grind (arith, common_steps) in
    let h = up (n + i) (n + j) d (omega arith) (omega (arith, inside, long)) in
    let r = ap (λ (b : ByteWrite). b.place) e in let s = ap (λ (b : ByteWrite). b.place) f in
    omega (arith, h, r, s)

pub rises_kept : (p : ByteWrite → Bool) (xs : List ByteWrite) → Rises xs → Rises (filter p xs)
rises_kept p xs rises = pairs_kept (λ (a b : ByteWrite). a.place < b.place) p xs rises

pub between : (first end n a : ℕ) → first ≤ n → n < end → stands_between first end (record { address = a; place = n }) ≡ true
between first end n a from before = test n first end from before
  where
    test : (n first end : ℕ) → first ≤ n → n < end → (not (ltb n first) && ltb n end) ≡ true
    test n first end from before = grind (arith, tests)
