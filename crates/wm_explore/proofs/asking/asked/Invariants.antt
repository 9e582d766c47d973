-- All that come before this reader are asked for.
use Rattle.std.specs.Prelude.{ℕ, ◌<◌, ◌≤◌, All}
use Rattle.wm_explore.specs.Asking.{AsksBack, IsAsked}
use Rattle.wm_explore.proofs.asking.asked.Given as goal

abbrev pub invariant-loop-reader : goal.invariant-loop-reader
invariant-loop-reader l = record {
  only : All (AsksBack l.log l.arrived) l.wanted;
  all : (i j : ℕ) → i < l.reader → i ≤ j → IsAsked l.log l.arrived l.wanted i j;
}
