use Rattle.std.proofs.Common.{◌≡◌, length, drop}
use Rattle.wm_recorder.specs.Recorder.{initial_of}
use Rattle.wm_run.specs.Runner.{IsSet, script_state, setting_of}
use Rattle.wm_run.specs.Tracing.{machines_of}
use Rattle.wm_run.proofs.TracedTurns.{HasTraced}
use Rattle.wm_run.proofs.scripts.tracing.play_traced.Given as goal

-- the entries so far, and those of the turns that are left, are those of all turns
abbrev pub invariant-loop-turn : goal.invariant-loop-turn
invariant-loop-turn l = record {
  set : IsSet l.module l.runners.items l.recorder;
  count : length l.runners.items ≡ length l.fn.runners.items;
  initial : initial_of l.recorder ≡ initial_of l.fn.recorder;
  traces : HasTraced (setting_of l.module l.fn.recorder l.limit) (script_state l.fn.runners.items l.fn.recorder) (machines_of l.fn.runners.items) l.turns l.entries.items
      l.runners.items l.recorder l.positions.items (drop l.turn-index l.turns);
}
