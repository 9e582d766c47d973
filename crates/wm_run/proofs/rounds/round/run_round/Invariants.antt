use Rattle.wm_recorder.specs.Recorder.{initial_of, threads_of}
use Rattle.wm_run.proofs.rounds.round.run_round.Given as goal

-- those of the recorder that goes under the lock
abbrev pub ghosts-run_locked : goal.ghosts-run_locked
ghosts-run_locked g a = record { initial = initial_of a.recorder; threads = threads_of a.recorder }
