use Rattle.std.proofs.Common.{◌≡◌, length, drop}
use Rattle.wm_recorder.specs.Recorder.{initial_of}
use Rattle.wm_run.specs.Runner.{IsSet, script_state, setting_of}
use Rattle.wm_run.specs.Script.{TurnsLead, ScriptState}
use Rattle.wm_run.proofs.scripts.script.play.Given as goal

-- what the turns that are left lead to, all turns do
abbrev pub invariant-loop-turn : goal.invariant-loop-turn
invariant-loop-turn l = record {
  set : IsSet l.module l.runners.items l.recorder;
  count : length l.runners.items ≡ length l.fn.runners.items;
  initial : initial_of l.recorder ≡ initial_of l.fn.recorder;
  plays : (last : ScriptState) → TurnsLead (setting_of l.module l.fn.recorder l.limit) (script_state l.runners.items l.recorder) (drop l.turn-index l.turns) last
      → TurnsLead (setting_of l.module l.fn.recorder l.limit) (script_state l.fn.runners.items l.fn.recorder) l.turns last;
}
