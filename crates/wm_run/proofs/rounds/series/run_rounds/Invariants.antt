use Rattle.wm_recorder.specs.Recorder.{initial_of, threads_of}
use Rattle.wm_run.proofs.rounds.series.run_rounds.Given as goal

-- those of the recorder that goes under the lock
abbrev pub ghosts-run_over-N-Over : goal.ghosts-run_over-N-Over
ghosts-run_over-N-Over g a = record { initial = initial_of a.recorder; threads = threads_of a.recorder }

-- the module, the plan and the gate
abbrev pub ghosts-run_over-N-Assigned : goal.ghosts-run_over-N-Assigned
ghosts-run_over-N-Assigned g a = record { program = a.module.now; plan = a.plan.now; is_open = g.G.Gate.is_open a.gate.now }
