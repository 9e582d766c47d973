-- The steps of a search: what is left of it are lists of assumptions, the alternatives.
use Rattle.std.specs.Prelude.{◌≡◌, ◌≢◌, ℕ, ◌+◌, ◌<◌, List, [], ◌∷◌, ◌++◌, IsSome, Some, Bool, true, false, map, take}
use Rattle.std.specs.List.{Contains}
use Rattle.wm_event.specs.declared.event.Event.{Event}
use Rattle.wm_event.specs.declared.event.EventKey.{EventKey}
use Rattle.wm_event.specs.declared.event.EventId.{EventId}
use Rattle.wm_event.specs.declared.log.ThreadLog.{ThreadLog}
use Rattle.wm_event.specs.Log.{event_in}
use Rattle.wm_event.specs.LoggedRun.{LoggedRun}
use Rattle.wm_event.specs.Shape.{IsThere, read_width}
use Rattle.wm_witness.specs.declared.assumption.Assumption.{Assumption}
use Rattle.wm_witness.specs.declared.assumption.Assumption.TheVariants.{Takes, TakesNone, Byte, NotByte, Before}
use Rattle.wm_witness.specs.declared.stack.Frame.{Frame}
use Rattle.wm_witness.specs.declared.stack.Stack.{Stack}
use Rattle.wm_witness.specs.Always.{IsClosed}

-- an assumption and the one against it: each well-shaped run of the log keeps one of the two
pub data AreOpposite (log : List ThreadLog) : Assumption → Assumption → Type 0 where
  takes_or_not : {r u : EventKey} → AreOpposite log (Takes r u) (TakesNone r u)
  byte_or_not : {r : EventKey} {k : ℕ} {w : EventId} → AreOpposite log (Byte r k w) (NotByte r k w)
  one_is_first : {a b : EventKey} → IsSome (event_in log a) → IsSome (event_in log b) → a ≢ b → AreOpposite log (Before a b) (Before b a)

-- byte k is one that r reads
pub record IsByteOf (log : List ThreadLog) (r : EventKey) (k : ℕ) : Type 0 where
  pub event : Event
  pub is_event : event_in log r ≡ Some event
  pub inside : k < read_width event

-- the assumption is about events of the log and bytes that they read
abbrev pub IsAbout : List ThreadLog → Assumption → Type 0
IsAbout log (Takes r u) = IsSome (event_in log r) × IsSome (event_in log u)
IsAbout log (TakesNone r u) = IsSome (event_in log r) × IsSome (event_in log u)
IsAbout log (Byte r k w) = IsByteOf log r k × IsThere log w
IsAbout log (NotByte r k w) = IsByteOf log r k × IsThere log w
IsAbout log (Before a b) = IsSome (event_in log a) × IsSome (event_in log b)

-- a is about the log, b is against it, and the alternative assumes neither
pub record IsNewSplit (log : List ThreadLog) (node : List Assumption) (a b : Assumption) : Type 0 where
  pub opposite : AreOpposite log a b
  pub about : IsAbout log a
  pub not_told : Contains node a → ⊥
  pub not_denied : Contains node b → ⊥

-- the alternative assumes all that can be assumed of the log, or what is against it
abbrev pub NothingIsNew : List ThreadLog → List Assumption → Type 0
NothingIsNew log node = (a b : Assumption) → IsNewSplit log node a b → ⊥

-- what a step makes of an alternative: nothing, if no valid run keeps it; or it assumes one more thing, which is new, and the
-- opposite; only if nothing is new, it may leave it as it is
pub data Replaces (run : LoggedRun) (node : List Assumption) : List (List Assumption) → Type 0 where
  closed : IsClosed run node → Replaces run node []
  split : {a b : Assumption} → IsNewSplit run.log node a b → Replaces run node ((node ++ b ∷ []) ∷ (node ++ a ∷ []) ∷ [])
  stays : NothingIsNew run.log node → Replaces run node (node ∷ [])

-- what is left after a number of steps, each of which replaces the last alternative; the first one assumes what is wanted
pub data Searched (run : LoggedRun) (wanted : List Assumption) : ℕ → List (List Assumption) → Type 0 where
  start : Searched run wanted 0 (wanted ∷ [])
  step : (n : ℕ) (waiting : List (List Assumption)) (node : List Assumption) (parts : List (List Assumption)) → Searched run wanted n (waiting ++ node ∷ []) → Replaces run node parts
      → Searched run wanted (n + 1) (waiting ++ parts)

-- after so many steps some alternative is left
abbrev pub IsLeftOpen : LoggedRun → List Assumption → ℕ → Type 0
IsLeftOpen run wanted n = (waiting : List (List Assumption)) × (waiting ≢ []) × Searched run wanted n waiting

-- the alternative that a frame keeps: the first assumptions, and its own
abbrev pub alternative : List Assumption → Frame → List Assumption
alternative assumed f = take f.mark assumed ++ f.last ∷ []

-- the alternatives that wait in the frames, and then the one that is looked at
abbrev pub alternatives : List Assumption → List Frame → List (List Assumption)
alternatives assumed frames = map (alternative assumed) frames ++ assumed ∷ []

-- the last frame's alternative became the one that is looked at; if there was no frame, nothing did
abbrev pub IsBack : Stack → Stack → Bool → Type 0
IsBack old new false = old.frames.items ≡ []
IsBack old new true = (f : Frame) × (old.frames.items ≡ new.frames.items ++ f ∷ []) × (new.assumed.items ≡ take f.mark old.assumed.items ++ f.last ∷ [])
