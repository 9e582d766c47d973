-- The line of a search that found no witness, and its start.
use Rattle.std.proofs.Common.{◌≡◌, ◌++◌, List, ℕ, append_assoc, subst, sym}
use Rattle.wm_event.specs.declared.log.ThreadLog.{ThreadLog}
use Rattle.wm_event.specs.LoggedRun.{LoggedRun}
use Rattle.wm_litmus.specs.Witness.{IsStart}

-- a line of four parts, from the left and from the right
pub joined_4 : (a b c d : List ℕ) → a ++ b ++ c ++ d ≡ a ++ (b ++ (c ++ d))
joined_4 a b c d = simp append_assoc

-- the initial memory of a start is its own
pub over_own : (log : List ThreadLog) (initial : List ℕ) (run : LoggedRun) → IsStart log initial run → IsStart log run.initial run
over_own log initial run is = subst (λ (bytes : List ℕ). IsStart log bytes run) (sym is.initial_is) is
