-- The result of a check of the events between a read and its writer. It is true if one of them may matter.
use Rattle.std.specs.Prelude.{ℕ, ◌+◌, ◌<◌, ◌≤◌, Bool, IsTrue, Option}
use Rattle.wm_access.specs.AccessWidth.{bytes_of}
use Rattle.wm_event.specs.declared.event.Event.{Event}
use Rattle.wm_event.specs.declared.event.EventId.{EventId}
use Rattle.wm_event.specs.declared.event.EventId.TheVariants.{At}
use Rattle.wm_event.specs.Event.{key_of}
use Rattle.wm_event.specs.Execution.{ReadsFrom}
use Rattle.wm_event.specs.Faults.{BreaksCoherence, BreaksSequentialConsistency}
use Rattle.wm_event.specs.LoggedRun.{LoggedRun, execution}
use Rattle.wm_event.specs.Rules.{Writes}
use Rattle.wm_rules.specs.Between.{IfListedAt}
use Rattle.wm_rules.specs.Others.{WritesBetween}

-- true if the event at a place writes one of e's bytes
abbrev pub IsTrueIfOverlapped : LoggedRun → Event → ℕ → Bool → Type 0
IsTrueIfOverlapped run e place b = IfListedAt run.witness.order place (λ v. (k : ℕ) → k < bytes_of e.width → Writes (execution run) (At v) (e.address + k) → IsTrue b)

-- true if the event at a place writes one of e's bytes between it and the writer w
abbrev pub IsTrueIfBetweenAt : LoggedRun → Event → EventId → ℕ → Bool → Type 0
IsTrueIfBetweenAt run e w place b = IfListedAt run.witness.order place (λ v. (k : ℕ) → k < bytes_of e.width → WritesBetween run e k w v → IsTrue b)

-- true if this holds for the event at a place from first up to but not including last
abbrev pub IsTrueIfNear : LoggedRun → Event → EventId → ℕ → ℕ → Bool → Type 0
IsTrueIfNear run e w first last b = (place : ℕ) → first ≤ place → place < last → IsTrueIfBetweenAt run e w place b

-- true if the read e breaks coherence at a byte that w wrote
abbrev pub IsTrueIfIncoherent : LoggedRun → Event → EventId → Bool → Type 0
IsTrueIfIncoherent run e w b =
    (k c : ℕ) (other : Option EventId) → ReadsFrom (execution run) (key_of e) k w → BreaksCoherence (execution run) (key_of e) e k w c other → IsTrue b

-- true if a write breaks sequential consistency between the writer w and its read e
abbrev pub IsTrueIfInconsistent : LoggedRun → Event → EventId → Bool → Type 0
IsTrueIfInconsistent run e w b = (v : EventId) (c : ℕ) → BreaksSequentialConsistency (execution run) (key_of e) e w v c → IsTrue b
