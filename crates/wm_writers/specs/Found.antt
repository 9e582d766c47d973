-- What a part of the search for an answer finds.
use Rattle.std.specs.Prelude.{◌≡◌, ℕ, List, Some, All, slice_get}
use Rattle.wm_event.specs.declared.event.EventId.{EventId}
use Rattle.wm_writers.specs.declared.source.ByteFit.{ByteFit}
use Rattle.wm_writers.specs.declared.source.Source.{Source}

-- these ids are all the same
abbrev pub AreOnly : EventId → List EventId → Type 0
AreOnly writer fit = All (λ (v : EventId). v ≡ writer) fit

-- the source has a byte that only its writer fits
abbrev pub HasForcedByte : Source → Type 0
HasForcedByte s = (n : ℕ) × (b : ByteFit) × (slice_get s.bytes n ≡ Some b) × AreOnly s.need.writer b.fit
