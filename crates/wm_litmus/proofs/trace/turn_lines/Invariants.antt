use Rattle.std.proofs.Common.{◌≡◌, ◌++◌, drop, string_bytes}
use Rattle.wm_litmus.specs.Trace.{lines_text}
use Rattle.wm_litmus.proofs.trace.turn_lines.Given as goal

-- the lines so far, and those of the turns that are left
abbrev pub invariant-loop-number : goal.invariant-loop-number
invariant-loop-number l =
    string_bytes l.text ++ lines_text l.run (drop l.number l.entries) (drop l.number l.sites) ≡ lines_text l.run l.entries l.sites
