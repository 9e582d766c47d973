use Rattle.std.proofs.Common.{◌≡◌, ◌<◌, get_or, ⊎_elim, subst, sym, arith}
use Rattle.wm_witness.proofs.Lanes.{raised}
use Rattle.wm_explore.proofs.clock.Clock.met.Goals as goal

pub loop-lane-preserved : goal.loop-lane-preserved
loop-lane-preserved c s m h = ⊎_elim
    (λ (l : m < get_or c.loop-lane.per_thread s 0). c.loop-lane.invariant s m l)
    (λ (r : (s ≡ c.loop-lane.lane) × (m < c.min.result)).
    let lt = r.1 in
    let least = c.min.ensures in
    let own : m < get_or c.args.self.now.per_thread c.loop-lane.lane 0 = omega (arith, lt, least) in
    let other : m < get_or c.args.other.now.per_thread c.loop-lane.lane 0 = omega (arith, lt, least) in
    (subst (λ i. m < get_or c.args.self.now.per_thread i 0) (sym r.0) own, subst (λ i. m < get_or c.args.other.now.per_thread i 0) (sym r.0) other))
    (raised c.loop-lane.per_thread c.loop-lane.lane c.min.result s m h)

pub returns : goal.returns
returns c a counts = c.loop-lane.invariant a.thread a.number counts
