use Rattle.wm_recorder.specs.Recorder.{initial_of, threads_of}
use Rattle.wm_tests.proofs.tests.recorder.locked.two_threads_drain_and_read.Given as goal

-- the recorder's own
abbrev pub ghosts-drain_beside_reads : goal.ghosts-drain_beside_reads
ghosts-drain_beside_reads g a = record { initial = initial_of a.recorder; threads = threads_of a.recorder }
