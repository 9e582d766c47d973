-- the bytes so far are written only by such events
use Rattle.std.proofs.Common.{ℕ, ◌<◌, ◌+◌, IsTrue}
use Rattle.wm_event.specs.declared.event.EventKey.{EventKey}
use Rattle.wm_event.specs.declared.event.EventId.TheVariants.{At}
use Rattle.wm_event.specs.LoggedRun.{execution}
use Rattle.wm_event.specs.Rules.{IsTearFreeLike}
use Rattle.wm_event.specs.Writes.{writes_byte}
use Rattle.wm_witness.proofs.offers.is_written_whole.Given as goal

abbrev pub invariant-loop-byte : goal.invariant-loop-byte
invariant-loop-byte l = (k : ℕ) → k < l.byte → (w : EventKey) → IsTrue (writes_byte l.start.log (l.event.address + k) w) → IsTearFreeLike (execution l.start) l.event (At w)
