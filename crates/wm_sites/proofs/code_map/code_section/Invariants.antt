use Rattle.std.proofs.Common.{ℕ, List}
use Rattle.wm_sites.specs.Offsets.{HasCode}
use Rattle.wm_sites.proofs.CodeSection.{SectionsAhead}
use Rattle.wm_sites.proofs.code_map.code_section.Given as goal

abbrev pub invariant-loop-section : goal.invariant-loop-section
invariant-loop-section l = (before items : List ℕ) (code : HasCode l.bytes before items) → SectionsAhead code l.reader l._section
