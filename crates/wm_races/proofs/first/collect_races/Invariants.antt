use Rattle.std.proofs.Common.{◌-◌, ◌<◌, ◌≤◌}
use Rattle.wm_races.specs.Listing.{Lists, event_place}
use Rattle.wm_races.proofs.first.collect_races.Given as goal

-- the races of the events so far
abbrev pub invariant-loop-place : goal.invariant-loop-place
invariant-loop-place l = record {
  within : l.place ≤ l.events;
  lists : Lists l.before (λ p. event_place l.before p < l.place) l.pairs.items;
}

abbrev pub decreases-loop-place : goal.decreases-loop-place
decreases-loop-place l = l.events - l.place
