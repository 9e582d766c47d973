-- None of the events so far tears the read.
use Rattle.std.proofs.Common.{◌≡◌, ℕ, ◌<◌, Some, slice_get}
use Rattle.wm_event.specs.declared.event.EventKey.{EventKey}
use Rattle.wm_event.specs.declared.event.EventId.TheVariants.{At}
use Rattle.wm_event.specs.Event.{key_of}
use Rattle.wm_event.specs.LoggedRun.{execution}
use Rattle.wm_event.specs.Faults.{BreaksNoTearing}
use Rattle.wm_rules.proofs.no_tearing.first_tearing.Given as goal

abbrev pub invariant-loop-key : goal.invariant-loop-key
invariant-loop-key l = (n : ℕ) (key : EventKey) → n < l.key-index → slice_get l.key-items n ≡ Some key → BreaksNoTearing (execution l.candidate) (key_of l.event) l.event l.byte l.writer (At key) → ⊥
