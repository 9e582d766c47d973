use Rattle.std.proofs.Common.{◌≡◌, take}
use Rattle.std.specs.List.{filter}
use Rattle.wm_writers.specs.Fits.{fits, ids}
use Rattle.wm_witness.proofs.choice.fitting_ids.Given as goal

-- those of Init and the threads so far
abbrev pub invariant-loop-thread : goal.invariant-loop-thread
invariant-loop-thread l = l.fit ≡ filter (fits l.start.log l.start.initial l.event l.byte) (ids (take l.thread l.start.log))
