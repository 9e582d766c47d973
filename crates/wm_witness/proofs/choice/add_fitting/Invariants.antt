use Rattle.std.proofs.Common.{◌≡◌, ◌++◌, take}
use Rattle.std.specs.List.{filter}
use Rattle.wm_writers.specs.Fits.{fits}
use Rattle.wm_witness.proofs.choice.add_fitting.Given as goal

-- those of the ids so far
abbrev pub invariant-loop-id : goal.invariant-loop-id
invariant-loop-id l = l.fit ≡ l.fn.fit ++ filter (fits l.start.log l.start.initial l.event l.byte) (take l.id-index l.ids)
