use Rattle.wm_run.proofs.Strays.{StraysBelow}
use Rattle.wm_run.proofs.rounds.ends.least_stray.Given as goal

abbrev pub invariant-loop-end : goal.invariant-loop-end
invariant-loop-end l = record { strays : StraysBelow l.threads l.ends l.end-index l.least }
