use Rattle.std.proofs.Common.{◌≡◌, ℕ, ◌<◌, Some, slice_get}
use Rattle.wm_writers.specs.Found.{AreOnly}
use Rattle.wm_writers.specs.declared.source.ByteFit.{ByteFit}
use Rattle.wm_writers.proofs.source.has_forced_byte.Given as goal

-- none of the bytes so far
abbrev pub invariant-loop-byte : goal.invariant-loop-byte
invariant-loop-byte l = (n : ℕ) (b : ByteFit) → n < l.byte-index → slice_get l.byte-items n ≡ Some b → AreOnly l.source.need.writer b.fit → ⊥
