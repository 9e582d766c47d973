use Rattle.std.proofs.Common.{◌≡◌, ◌<◌, ◌≤◌, ◌+◌, ◌⊎◌, get_or, inl, inr, ⊎_elim, arith, subst, sym}
use Rattle.wm_event.specs.declared.event.EventKey.{EventKey}
use Rattle.wm_witness.specs.Relations.{Covers}
use Rattle.wm_witness.proofs.Lanes.{raised}
use Rattle.wm_witness.proofs.row.Row.joined.Goals as goal
use Rattle.wm_witness.proofs.row.Row.joined.Goals.{then-before-lane, else-before-lane, then-lane-lt-MAX_THREADS+then-number-lt4294967295+then-before-lane-2, else-lane-lt-MAX_THREADS}

pub loop-lane-preserved : goal.loop-lane-preserved
loop-lane-preserved c = elim c.if-before-lane.branch [
  | then-before-lane w ↦ λ s m h. ⊎_elim
      (λ (l : m < get_or c.loop-lane.before s 0). c.loop-lane.invariant s m l)
      (λ (r : (s ≡ c.loop-lane.lane) × (m < get_or c.args.other.now.before c.loop-lane.lane 0)). inr (subst (λ i. m < get_or c.args.other.now.before i 0) (sym r.0) r.1))
      (raised c.loop-lane.before c.loop-lane.lane (get_or c.args.other.now.before c.loop-lane.lane 0) s m (subst (λ xs. m < get_or xs s 0) w.before-is h))
  | else-before-lane w ↦ λ s m h. c.loop-lane.invariant s m (subst (λ xs. m < get_or xs s 0) w.before-is h)
]

pub returns-clause-covers : goal.returns-clause-covers
returns-clause-covers c = elim c.if-lane-lt-MAX_THREADS.branch [
  | then-lane-lt-MAX_THREADS+then-number-lt4294967295+then-before-lane-2 w ↦ λ a h. ⊎_elim
      (λ (l : a.number < get_or c.loop-lane.before a.thread 0). old a l)
      (λ (r : (a.thread ≡ c.args.other.now.key.thread) × (a.number < c.args.other.now.key.number + 1)). let n = r.1 in inr (inr (r.0, omega (arith, n))))
      (raised c.loop-lane.before c.args.other.now.key.thread (c.args.other.now.key.number + 1) a.thread a.number (subst (λ xs. a.number < get_or xs a.thread 0) w.before-is h))
  | else-lane-lt-MAX_THREADS w ↦ λ a h. old a (subst (λ xs. a.number < get_or xs a.thread 0) w.before-is h)
]
  where
    old : (a : EventKey) → a.number < get_or c.loop-lane.before a.thread 0
        → Covers c.args.self.now a ⊎ (Covers c.args.other.now a ⊎ ((a.thread ≡ c.args.other.now.key.thread) × (a.number ≤ c.args.other.now.key.number)))
    old a l = ⊎_elim
        (λ (own : a.number < get_or c.args.self.now.before a.thread 0). inl own)
        (λ (theirs : a.number < get_or c.args.other.now.before a.thread 0). inr (inl theirs))
        (c.loop-lane.invariant a.thread a.number l)
