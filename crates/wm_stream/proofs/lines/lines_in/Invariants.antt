use Rattle.std.proofs.Common.{◌≡◌, ℕ, List, [], ◌∷◌, ◌++◌, length}
use Rattle.wm_stream.specs.Lines.{SplitsOn}
use Rattle.wm_stream.proofs.Printing.{texts}
use Rattle.wm_stream.proofs.lines.lines_in.Given as goal

-- the first bytes of the part are split into lines, which follow the first line, and the others are left
abbrev pub invariant-loop-end : goal.invariant-loop-end
invariant-loop-end l = record {
  done : List ℕ;
  is_part : l.part ≡ done ++ l.left;
  more : List (List ℕ);
  are_lines : texts l.ended.items ≡ l.first ∷ more;
  splits : SplitsOn l.limit [] done more [];
}

abbrev pub decreases-loop-end : goal.decreases-loop-end
decreases-loop-end l = length l.left
