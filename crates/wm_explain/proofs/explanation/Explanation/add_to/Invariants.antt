use Rattle.std.proofs.Common.{◌≡◌, ◌++◌, string_bytes, take}
use Rattle.wm_explain.specs.Parts.{parts_text}
use Rattle.wm_explain.proofs.explanation.Explanation.add_to.Given as goal

abbrev pub invariant-loop-part : goal.invariant-loop-part
invariant-loop-part l = string_bytes l.text ≡ string_bytes l.initial.text ++ parts_text (take l.part-index l.part-items)
