use Rattle.wm_recorder.specs.Recorder.{initial_of, threads_of}
use Rattle.wm_tests.proofs.tests.gathering.the_drainer_passes_the_oldest_store.Given as goal

-- the recorder's own
abbrev pub ghosts-pass_one_locked : goal.ghosts-pass_one_locked
ghosts-pass_one_locked g a = record { initial = initial_of a.recorder; threads = threads_of a.recorder }
