use Rattle.wm_recorder.specs.Recorder.{initial_of, threads_of}
use Rattle.wm_tests.proofs.tests.recorder.locked.a_drain_shows_the_oldest_store_to_the_others.Given as goal

-- the recorder's own
abbrev pub ghosts-drain_and_read : goal.ghosts-drain_and_read
ghosts-drain_and_read g a = record { initial = initial_of a.recorder; threads = threads_of a.recorder }
