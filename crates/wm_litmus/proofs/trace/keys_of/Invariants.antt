use Rattle.std.proofs.Common.{◌≡◌, string_bytes, take}
use Rattle.wm_litmus.specs.Trace.{keys_text}
use Rattle.wm_litmus.proofs.trace.keys_of.Given as goal

-- the text has the first names
abbrev pub invariant-loop-key : goal.invariant-loop-key
invariant-loop-key l = string_bytes l.text ≡ keys_text (take l.key-index l.keys)
