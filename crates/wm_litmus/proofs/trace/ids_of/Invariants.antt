use Rattle.std.proofs.Common.{◌≡◌, string_bytes, take}
use Rattle.wm_litmus.specs.Trace.{ids_text}
use Rattle.wm_litmus.proofs.trace.ids_of.Given as goal

-- the text has the first names
abbrev pub invariant-loop-id : goal.invariant-loop-id
invariant-loop-id l = string_bytes l.text ≡ ids_text (take l.id-index l.ids)
