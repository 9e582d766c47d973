use Rattle.std.proofs.Common.{◌≡◌, string_bytes, take}
use Rattle.wm_litmus.specs.Races.{shown_text}
use Rattle.wm_litmus.proofs.races.shown_lines.Given as goal

-- the text has the lines of the first races
abbrev pub invariant-loop-race : goal.invariant-loop-race
invariant-loop-race g l = string_bytes l.text ≡ shown_text g.L.RaceLine.text (take l.race-index l.races)
