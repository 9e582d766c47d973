-- The events so far, of which those behind the stretch are renumbered.
use Rattle.std.proofs.Common.{◌≡◌, ◌-◌, ◌++◌, drop, take}
use Rattle.wm_part.specs.Pick.{numbered}
use Rattle.wm_explore.proofs.copies.without.Given as goal

abbrev pub invariant-loop-place : goal.invariant-loop-place
invariant-loop-place l = record {
  kept : l.kept.items ≡ take l.stretch.first l.thread.events ++ numbered l.stretch.first (take (l.place - l.stretch.end) (drop l.stretch.end l.thread.events));
}
