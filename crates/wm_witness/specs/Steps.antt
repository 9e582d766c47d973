-- What one step of a search finds.
use Rattle.std.specs.Prelude.{◌≡◌, ℕ, List, All}
use Rattle.wm_event.specs.declared.event.EventKey.{EventKey}
use Rattle.wm_event.specs.declared.event.EventId.{EventId}
use Rattle.wm_event.specs.declared.event.EventId.TheVariants.{At, Init}
use Rattle.wm_event.specs.declared.log.ThreadLog.{ThreadLog}
use Rattle.wm_event.specs.LoggedRun.{LoggedRun}
use Rattle.wm_writers.specs.Forced.{with_witness}
use Rattle.wm_witness.specs.declared.assumption.Assumption.{Assumption}
use Rattle.wm_witness.specs.declared.assumption.Assumption.TheVariants.{Takes, Byte, Before}
use Rattle.wm_witness.specs.declared.new_split.Split.{Split}
use Rattle.wm_witness.specs.declared.step.Step.{Step}
use Rattle.wm_witness.specs.declared.step.Step.TheVariants.{Found, Closed, Split as SplitOn, Stays}
use Rattle.wm_witness.specs.Always.{IsClosed, IsValidWith}
use Rattle.wm_witness.specs.Assumptions.{Keeps}
use Rattle.wm_witness.specs.Search.{AreOpposite, IsNewSplit, NothingIsNew}

-- a witness that makes the log valid and is as wanted; that none that keeps the assumptions makes it valid; a further assumption,
-- which is new, with its opposite; or that nothing is new
abbrev pub IsStep : LoggedRun → List Assumption → List Assumption → Step → Type 0
IsStep run wanted assumed (Found witness) = IsValidWith run witness × Keeps (with_witness run witness) wanted
IsStep run wanted assumed Closed = IsClosed run assumed
IsStep run wanted assumed (SplitOn a b) = IsNewSplit run.log assumed a b
IsStep run wanted assumed Stays = NothingIsNew run.log assumed

-- an assumption that is new, and its opposite
abbrev pub IsSplit : List ThreadLog → List Assumption → Split → Type 0
IsSplit log assumed s = IsNewSplit log assumed s.last s.other

-- nothing is against the assumption
abbrev pub HasNoOpposite : List ThreadLog → Assumption → Type 0
HasNoOpposite log a = (b : Assumption) → AreOpposite log a b → ⊥

-- no split on the assumption is new
abbrev pub IsSpent : List ThreadLog → List Assumption → Assumption → Type 0
IsSpent log assumed a = (b : Assumption) → IsNewSplit log assumed a b → ⊥

-- nor is one on a byte of the read from the writer
abbrev pub AreBytesSpent : List ThreadLog → List Assumption → EventKey → EventId → Type 0
AreBytesSpent log assumed r w = (k : ℕ) → IsSpent log assumed (Byte r k w)

-- nor is one on what the first event takes from the second, or on their order
pub record IsPairSpent (log : List ThreadLog) (assumed : List Assumption) (a b : EventKey) : Type 0 where
  pub takes : IsSpent log assumed (Takes a b)
  pub order : IsSpent log assumed (Before a b)
  pub bytes : AreBytesSpent log assumed a (At b)

-- nor is one on the event and Init or an event of the list
pub record IsEventSpent (log : List ThreadLog) (assumed : List Assumption) (events : List EventKey) (a : EventKey) : Type 0 where
  pub from_init : AreBytesSpent log assumed a Init
  pub pairs : All (IsPairSpent log assumed a) events

-- the same log over the same memory
abbrev pub IsSameLog : LoggedRun → LoggedRun → Type 0
IsSameLog run leaf = (leaf.log ≡ run.log) × (leaf.initial ≡ run.initial)
