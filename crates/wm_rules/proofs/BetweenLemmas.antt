-- The first write of a byte between two places of which something holds.
use Rattle.std.proofs.Common.{◌≡◌, ℕ, ◌+◌, ◌-◌, ◌<◌, ◌≤◌, List, Bool, true, false, not, length, get_or, slice_get, Option, None, Some, sym, ap, ◌∙◌, subst, arith, ⊎_elim, is_some}
use Rattle.std.specs.Prelude.{unwrap_or, MatchOption}
use Rattle.std.specs.List.{filter}
use Rattle.std.proofs.lemmas.Bool.{cases_lt}
use Rattle.std.proofs.lemmas.Option.{slice_get-get_or, slice_get_within, same_Some}
use Rattle.wm_event.specs.declared.event.EventKey.{EventKey}
use Rattle.wm_event.specs.declared.event.EventId.{EventId}
use Rattle.wm_event.specs.declared.event.EventId.TheVariants.{Init, At}
use Rattle.wm_event.specs.declared.writes.ByteWrite.{ByteWrite}
use Rattle.wm_event.specs.Execution.{place}
use Rattle.wm_event.specs.LoggedRun.{LoggedRun, execution}
use Rattle.wm_event.specs.Shape.{ListsEachOnce}
use Rattle.wm_event.specs.Writes.{listed_from}
use Rattle.wm_event.proofs.PlaceLemmas.{position_listed}
use Rattle.wm_event.proofs.WritesLemmas.{in_filter, rises_from, write_listed}
use Rattle.wm_hb.specs.Between.{Rises, stands_between}
use Rattle.wm_hb.proofs.BetweenLemmas.{between, rises_kept}
use Rattle.wm_rules.specs.Between.{IsPlaceOf}
use Rattle.wm_rules.specs.Others.{FindsListed}

-- the listed writes rise
pub writes_rise : (p : EventKey → Bool) (a : ℕ) (order : List EventKey) → Rises (listed_from p a 0 order)
writes_rise p a order i j x y l at_x at_y = rises_from p a 0 order i j x y l at_x at_y

module _ (run : LoggedRun) (once : ListsEachOnce run.log run.witness.order) where
  pub stands_at : (n : ℕ) (key : EventKey) → slice_get run.witness.order n ≡ Some key → place (execution run) (At key) ≡ 1 + n
  stands_at n key at = ap (λ m. 1 + m) (position_listed run.log run.witness.order once n key at)

  -- the place from which on a write can come after w
  start_of : Option ℕ → ℕ
  start_of None = 0
  start_of (Some n) = n

  -- a listed event between a writer and a read passes the test
  pub passes_between : (w : EventId) (start : Option ℕ) (first end n : ℕ) (r v : EventKey) → IsPlaceOf run.witness.order start w → first ≡ unwrap_or start 0 → slice_get run.witness.order end ≡ Some r → slice_get run.witness.order n ≡ Some v
      → place (execution run) w < place (execution run) (At v) → place (execution run) (At v) < place (execution run) (At r) → (a : ℕ) → stands_between first end (record { address = a; place = n }) ≡ true
  passes_between w None first end n r v is f at_r at_v after before a =
      let p = stands_at n v at_v in let q = stands_at end r at_r in
      let l : n < end = omega (arith, before, p, q) in
      let z : first ≡ 0 = f in
      between first end n a (omega arith) l
  passes_between Init (Some m) first end n r v is f at_r at_v after before a = absurd is
  passes_between (At w) (Some m) first end n r v is f at_r at_v after before a =
      let p = stands_at n v at_v in let q = stands_at end r at_r in let s = stands_at m w is in
      let l : n < end = omega (arith, before, p, q) in
      let h : m < n = omega (arith, after, p, s) in
      let z : first ≡ m = f in
      between first end n a (omega arith) l

-- P holds at none of the first n of these writes
abbrev pub NoneWritten : List EventKey → List ByteWrite → (EventKey → Type 0) → ℕ → Type 0
NoneWritten order part P n = (j : ℕ) (b : ByteWrite) (v : EventKey) → j < n → slice_get part j ≡ Some b → slice_get order b.place ≡ Some v → P v → ⊥

-- a part of the writes that has the place of each key of which P holds
pub record Covers (order : List EventKey) (part : List ByteWrite) (P : EventKey → Type 0) : Type 0 where
  pub rises : Rises part
  pub covers : (n : ℕ) (v : EventKey) → slice_get order n ≡ Some v → P v → (j : ℕ) × ((b : ByteWrite) × (slice_get part j ≡ Some b) × (b.place ≡ n))

module _ (order : List EventKey) (part : List ByteWrite) (P : EventKey → Type 0) (all : Covers order part P) where
  pub none_written : (n : ℕ) → length part ≤ n → NoneWritten order part P n → FindsListed order P None
  none_written n long none m v at p =
      let c = all.covers m v at p in
      let inside : c.0 < length part = slice_get_within part c.0 c.1.0 c.1.1 in
      none c.0 c.1.0 v (omega arith) c.1.1 (ap (slice_get order) c.1.2 ∙ at) p

  pub found_written : (i : ℕ) (b : ByteWrite) (key : EventKey) → slice_get part i ≡ Some b → slice_get order b.place ≡ Some key → P key → NoneWritten order part P i → FindsListed order P (Some key)
  found_written i b key at_b at_key p none = record {
    place = b.place;
    listed = at_key;
    holds = p;
    first = λ n other l at q.
        let c = all.covers n other at q in
        ⊎_elim
        (λ (h : c.0 < i). none c.0 c.1.0 other h c.1.1 (ap (slice_get order) c.1.2 ∙ at) q)
        (λ (h : i ≤ c.0). ⊎_elim
        (λ (k : i < c.0). let r = all.rises i c.0 b c.1.0 k at_b c.1.1 in let e = c.1.2 in absurd (omega (arith, r, e, l)))
        (λ (k : c.0 ≤ i). let e : i ≡ c.0 = omega arith in
        let s : b ≡ c.1.0 = same_Some b c.1.0 (sym at_b ∙ ap (slice_get part) e ∙ c.1.1) in
        let t = ap (λ (w : ByteWrite). w.place) s in let u = c.1.2 in absurd (omega (arith, t, u, l)))
        (cases_lt i c.0))
        (cases_lt c.0 i);
  }

  pub none_written-more : (i : ℕ) (b : ByteWrite) → slice_get part i ≡ Some b → ((v : EventKey) → slice_get order b.place ≡ Some v → P v → ⊥) → NoneWritten order part P i → NoneWritten order part P (i + 1)
  none_written-more i b at not none j c v l at_c at_v p = ⊎_elim
      (λ (h : j < i). none j c v h at_c at_v p)
      (λ (h : i ≤ j). let e : i ≡ j = omega arith in
      let s : b ≡ c = same_Some b c (sym at ∙ ap (slice_get part) e ∙ at_c) in
      not v (ap (λ (w : ByteWrite). slice_get order w.place) s ∙ at_v) p)
      (cases_lt j i)

module _ (order : List EventKey) (part : List ByteWrite) (P : EventKey → Type 0) (all : Covers order part P) (i : ℕ) (d : ByteWrite) (inside : i < length part) where
  -- a loop that returns what it finds at a write
  pub found_some : (r : Option EventKey) → is_some r ≡ true
      → MatchOption r ((v : EventKey) → slice_get order (get_or part i d).place ≡ Some v → P v → ⊥) (λ v. (slice_get order (get_or part i d).place ≡ Some v) × P v)
      → NoneWritten order part P i → FindsListed order P r
  found_some None some m none = absurd (cc)
  found_some (Some key) some m none = found_written order part P all i (get_or part i d) key (slice_get-get_or part i d inside) m.0 m.1 none

  -- or goes on where it finds nothing there
  pub found_none : (r : Option EventKey) → is_some r ≡ false
      → MatchOption r ((v : EventKey) → slice_get order (get_or part i d).place ≡ Some v → P v → ⊥) (λ v. (slice_get order (get_or part i d).place ≡ Some v) × P v)
      → NoneWritten order part P i → NoneWritten order part P (i + 1)
  found_none None some m none = none_written-more order part P all i (get_or part i d) (slice_get-get_or part i d inside) m none
  found_none (Some key) some m none = absurd (cc)

-- the writes between a writer and a read that pass a test include each event that passes it and is there
pub covers_between : (run : LoggedRun) → ListsEachOnce run.log run.witness.order → (w : EventId) (start : Option ℕ) (first end : ℕ) (r : EventKey) → IsPlaceOf run.witness.order start w → first ≡ unwrap_or start 0
    → slice_get run.witness.order end ≡ Some r → (p : EventKey → Bool) (a : ℕ) (P : EventKey → Type 0)
    → ((v : EventKey) → P v → (p v ≡ true) × (place (execution run) w < place (execution run) (At v)) × (place (execution run) (At v) < place (execution run) (At r)))
    → Covers run.witness.order (filter (stands_between first end) (listed_from p a 0 run.witness.order)) P
covers_between run once w start first end r is f at_r p a P says = record {
  rises = rises_kept (stands_between first end) (listed_from p a 0 run.witness.order) (writes_rise p a run.witness.order);
  covers = λ n v at h.
      let s = says v h in
      let listed = write_listed p a 0 run.witness.order n v at s.0 in
      let kept = in_filter (stands_between first end) (listed_from p a 0 run.witness.order) listed.0 (record { address = a; place = 0 + n }) listed.1
      (passes_between run once w start first end (0 + n) r v is f at_r (subst (λ (m : ℕ). slice_get run.witness.order m ≡ Some v) (let e : n ≡ 0 + n = omega arith in e) at) s.1 s.2 a) in
      (kept.0, (record { address = a; place = 0 + n }, kept.1, (let e : 0 + n ≡ n = omega arith in e)));
}
