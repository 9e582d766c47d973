use Rattle.std.proofs.Common.{◌≡◌, take}
use Rattle.wm_run.specs.Ends.{ends_of}
use Rattle.wm_run.proofs.rounds.ends.end_of.Given as goal

abbrev pub invariant-loop-end : goal.invariant-loop-end
invariant-loop-end l = record { none : ends_of (take l.end-index l.ends) l.thread ≡ 0 }
