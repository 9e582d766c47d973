-- none of those so far is
use Rattle.std.proofs.Common.{ℕ, ◌<◌}
use Rattle.wm_event.specs.declared.event.EventId.TheVariants.{Init}
use Rattle.wm_event.specs.Event.{key_of}
use Rattle.wm_witness.specs.Choice.{IsExcluded}
use Rattle.wm_witness.proofs.whole.is_never_from_init.Given as goal

abbrev pub invariant-loop-byte : goal.invariant-loop-byte
invariant-loop-byte l = (k : ℕ) → k < l.byte → IsExcluded l.start l.assumed (key_of l.event) k Init
