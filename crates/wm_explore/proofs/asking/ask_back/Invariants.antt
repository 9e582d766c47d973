-- All that come before this writer are asked for.
use Rattle.std.specs.Prelude.{ℕ, ◌<◌, ◌≤◌}
use Rattle.wm_explore.specs.Asking.{AsksMore, IsAsked}
use Rattle.wm_explore.proofs.asking.ask_back.Given as goal

abbrev pub invariant-loop-writer : goal.invariant-loop-writer
invariant-loop-writer l = record {
  more : AsksMore l.log l.arrived l.fn.wanted l.wanted;
  all : (j : ℕ) → l.reader ≤ j → j < l.writer → IsAsked l.log l.arrived l.wanted l.reader j;
}
