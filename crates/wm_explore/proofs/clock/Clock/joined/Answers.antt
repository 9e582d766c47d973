use Rattle.std.proofs.Common.{◌≡◌, ◌<◌, ◌≤◌, get_or, inl, inr, ⊎_elim, subst, sym, arith}
use Rattle.std.proofs.lemmas.Bool.{cases_lt}
use Rattle.wm_witness.proofs.Lanes.{raised}
use Rattle.wm_explore.proofs.clock.Clock.joined.Goals as goal

pub loop-lane-preserved : goal.loop-lane-preserved
loop-lane-preserved c s m h = ⊎_elim
    (λ (l : m < get_or c.loop-lane.per_thread s 0). c.loop-lane.invariant s m l)
    (λ (r : (s ≡ c.loop-lane.lane) × (m < c.max.result)).
    let lt = r.1 in
    let most = c.max.ensures in
    let own = get_or c.args.self.now.per_thread c.loop-lane.lane 0 in
    let other = get_or c.args.other.now.per_thread c.loop-lane.lane 0 in
    ⊎_elim
    (λ (l : m < own). inl (subst (λ i. m < get_or c.args.self.now.per_thread i 0) (sym r.0) l))
    (λ (over : own ≤ m). inr (subst (λ i. m < get_or c.args.other.now.per_thread i 0) (sym r.0) (let greater : m < other = omega (arith, lt, most, over) in greater)))
    (cases_lt m own))
    (raised c.loop-lane.per_thread c.loop-lane.lane c.max.result s m h)

pub returns : goal.returns
returns c a counts = c.loop-lane.invariant a.thread a.number counts
