use Rattle.wm_recorder.specs.Recorder.{initial_of, threads_of}
use Rattle.wm_tests.proofs.tests.gathering.the_drainer_takes_turns.Given as goal

-- the recorder's own
abbrev pub ghosts-take_locked_turns : goal.ghosts-take_locked_turns
ghosts-take_locked_turns g a = record { initial = initial_of a.recorder; threads = threads_of a.recorder }
